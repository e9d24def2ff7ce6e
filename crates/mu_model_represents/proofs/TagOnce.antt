-- Each octet of a tag counts.
use Rattle.std.proofs.Common.{◌≡◌, ◌⊎◌, inl, inr, ℕ, ◌+◌, ◌*◌, ◌/◌, ◌%◌, ◌<◌, Option, Some, None, List, [], ◌∷◌, ◌++◌, length, take, drop, refl, sym, ◌∙◌, ap, arith}
use Rattle.std.specs.Prelude.{slice_get, slice_index}
use Rattle.std.proofs.lemmas.List.{take_all, take-append-drop, length-drop}
use Rattle.mu_model_image.specs.Laws.{MetaHasOneSpelling}
use Rattle.mu_model_flash.specs.Bits.{AreOctets, part_of}
use Rattle.mu_model_flash.specs.Laws.{RangeLaws}
use Rattle.mu_model_record.specs.declared.Record.{Record}
use Rattle.mu_model_record.specs.Record.{IsRecord}
use Rattle.mu_model_node.specs.declared.Parameters.{Parameters}
use Rattle.mu_model_represents.specs.BlobPart.{BlobJob, blob_part, note_part, HasParameters, IsBlobPart}
use Rattle.mu_model_represents.specs.NodeNote.{NoteJob, NodeNote, HasNoteJob, SpellsActive, SpellsNote, SpellsOldNote}
use Rattle.mu_model_represents.specs.Laws.{NodeTagIsOne, TagIsOneByItsNote}
use Rattle.mu_model_represents.proofs.Octets.{octets_part, all_octets}
use Rattle.mu_model_represents.specs.Octets.{Agree}
use Rattle.mu_model_represents.proofs.Agree.{joined, one_octet, all_agree, number_agrees, part_agrees}

-- a tag is its two parts
tag_parts : (tag : List ℕ) → length tag ≡ 1792 → blob_part tag ++ note_part tag ≡ tag
unfolding part_of
tag_parts tag many = ap (λ (xs : List ℕ). take 64 tag ++ xs) (take_all 1728 (drop 64 tag) (omega (arith, length-drop 64 tag, many))) ∙ take-append-drop 64 tag

module _ (ranges : RangeLaws) where
  both_parts : (t u : List ℕ) → length t ≡ 1792 → length u ≡ 1792 → blob_part t ≡ blob_part u → note_part t ≡ note_part u → t ≡ u
  both_parts t u many more first second = sym (tag_parts t many) ∙ (λ i. first i ++ second i) ∙ tag_parts u more

  -- ---- the BLOB part

  mode_same : (size : ℕ) (p : Option Parameters) (a b : List ℕ) → HasParameters size p a → HasParameters size p b → slice_index a 1 ≡ slice_index b 1
  mode_same size None a b h g = h.no_mode_at_1 ∙ sym g.no_mode_at_1
  mode_same size (Some p) a b h g = h.mode_at_1 ∙ sym g.mode_at_1

  mtu_same : (size : ℕ) (p : Option Parameters) (a b : List ℕ) → AreOctets a → AreOctets b → HasParameters size p a → HasParameters size p b → Agree a b 2 2
  mtu_same size None a b small fine h g = number_agrees 2 a b 2 small fine (h.no_mtu_at_2 ∙ sym g.no_mtu_at_2)
  mtu_same size (Some p) a b small fine h g = number_agrees 2 a b 2 small fine (h.mtu_at_2 ∙ sym g.mtu_at_2)

  log_same : (size : ℕ) (p : Option Parameters) (a b : List ℕ) → HasParameters size p a → HasParameters size p b → slice_index a 19 ≡ slice_index b 19
  log_same size None a b h g = h.no_log_at_19 ∙ sym g.no_log_at_19
  log_same size (Some p) a b h g = h.log_at_19 ∙ sym g.log_at_19

  part_one : (part : Option BlobJob) (a b : List ℕ) → length a ≡ 64 → length b ≡ 64 → AreOctets a → AreOctets b → IsBlobPart part a → IsBlobPart part b → a ≡ b
  part_one None a b many more small fine h g = h ∙ sym g
  part_one (Some j) a b many more small fine h g =
      let p = j.parameters in
      (all_agree a b) 64 many more
      ((joined a b) 0 1 63 ((one_octet a b) 0 (h.there_at_0 ∙ sym g.there_at_0))
      ((joined a b) 1 1 62 ((one_octet a b) 1 (mode_same j.size p a b h.parameters g.parameters))
      ((joined a b) 2 2 60 (mtu_same j.size p a b small fine h.parameters g.parameters)
      ((joined a b) 4 8 52 (number_agrees 8 a b 4 small fine (h.id_at_4 ∙ sym g.id_at_4))
      ((joined a b) 12 4 48 (number_agrees 4 a b 12 small fine (h.size_at_12 ∙ sym g.size_at_12))
      ((joined a b) 16 2 46 (number_agrees 2 a b 16 small fine (h.base_at_16 ∙ sym g.base_at_16))
      ((joined a b) 18 1 45 ((one_octet a b) 18 (h.bank_at_18 ∙ sym g.bank_at_18))
      ((joined a b) 19 1 44 ((one_octet a b) 19 (log_same j.size p a b h.parameters g.parameters)) (part_agrees ranges a b 20 44 (h.zero_at_20 ∙ sym g.zero_at_20))))))))))

  -- ---- the note of a node

  active_same : (active : List ℕ) (a b : List ℕ) → SpellsActive active a → SpellsActive active b → (slice_index a 1 ≡ slice_index b 1) × (slice_index a 44 ≡ slice_index b 44)
  active_same [] a b h g = absurd h
  active_same (x ∷ []) a b h g = (h.0 ∙ sym g.0, h.1 ∙ sym g.1)
  active_same (x ∷ y ∷ []) a b h g = (h.0 ∙ sym g.0, h.1 ∙ sym g.1)
  active_same (x ∷ y ∷ z ∷ active) a b h g = absurd h

  -- phase, TTL and metadata
  job_same : MetaHasOneSpelling → (job : Option NoteJob) (a b : List ℕ) → AreOctets a → AreOctets b → HasNoteJob job a → HasNoteJob job b → (job ≡ None → slice_index a 3 ≡ slice_index b 3) → Agree a b 2 42
  job_same one None a b small fine h g ttl =
      (joined a b) 2 1 41 ((one_octet a b) 2 (h.no_phase_at_2 ∙ sym g.no_phase_at_2)) ((joined a b) 3 1 40 ((one_octet a b) 3 (ttl refl)) (part_agrees ranges a b 4 40 (h.no_metadata_at_4 ∙ sym g.no_metadata_at_4)))
  job_same one (Some j) a b small fine h g ttl =
      let first = one (part_of a 4 40) j.meta (all_octets (part_of a 4 40) (octets_part a 4 40 small)) h.metadata_at_4 in
      let second = one (part_of b 4 40) j.meta (all_octets (part_of b 4 40) (octets_part b 4 40 fine)) g.metadata_at_4 in
      (joined a b) 2 1 41 ((one_octet a b) 2 (h.phase_at_2 ∙ sym g.phase_at_2)) ((joined a b) 3 1 40 ((one_octet a b) 3 (h.ttl_at_3 ∙ sym g.ttl_at_3)) (part_agrees ranges a b 4 40 (sym first ∙ second)))

  note_one : MetaHasOneSpelling → (note : NodeNote) (a b : List ℕ) → length a ≡ 1728 → length b ≡ 1728 → AreOctets a → AreOctets b → SpellsNote note a ⊎ SpellsOldNote note a → SpellsNote note b ⊎ SpellsOldNote note b
      → slice_index a 0 ≡ slice_index b 0 → (note.job ≡ None → slice_index a 3 ≡ slice_index b 3) → a ≡ b
  note_one one note a b many more small fine (inl h) (inl g) kind ttl =
      let active = active_same note.active a b h.active_at_1_44 g.active_at_1_44 in
      (all_agree a b) 1728 many more
      ((joined a b) 0 1 1727 ((one_octet a b) 0 kind)
      ((joined a b) 1 1 1726 ((one_octet a b) 1 active.0)
      ((joined a b) 2 42 1684 (job_same one note.job a b small fine h.job_at_2 g.job_at_2 ttl)
      ((joined a b) 44 1 1683 ((one_octet a b) 44 active.1)
      ((joined a b) 45 1 1682 ((one_octet a b) 45 (h.index_at_45 ∙ sym g.index_at_45)) (part_agrees ranges a b 46 1682 (h.zero_at_46 ∙ sym g.zero_at_46)))))))
  note_one one note a b many more small fine (inl h) (inr g) kind ttl = absurd (omega (arith, h.kind_at_0, g.kind_at_0, kind))
  note_one one note a b many more small fine (inr h) (inl g) kind ttl = absurd (omega (arith, h.kind_at_0, g.kind_at_0, kind))
  note_one one note a b many more small fine (inr h) (inr g) kind ttl =
      let both : slice_index a 1 ∷ [] ≡ slice_index b 1 ∷ [] = sym h.active_at_1 ∙ g.active_at_1 in
      let active : slice_index a 1 ≡ slice_index b 1 = cc both in
      (all_agree a b) 1728 many more
      ((joined a b) 0 1 1727 ((one_octet a b) 0 kind)
      ((joined a b) 1 1 1726 ((one_octet a b) 1 active)
      ((joined a b) 2 42 1684 (job_same one note.job a b small fine h.job_at_2 g.job_at_2 ttl) (part_agrees ranges a b 44 1684 (h.zero_at_44 ∙ sym g.zero_at_44)))))

  blob_length : (r : Record) → IsRecord r → length (blob_part r.tag) ≡ 64
  blob_length r is = ranges.parts.length_part r.tag 0 64 (omega (arith, is.tag_size))

  note_length : (r : Record) → IsRecord r → length (note_part r.tag) ≡ 1728
  note_length r is = ranges.parts.length_part r.tag 64 1728 (omega (arith, is.tag_size))

  note_at : (r : Record) (k : ℕ) → k < 1728 → slice_index (note_part r.tag) k ≡ slice_index r.tag (64 + k)
  note_at r k lt = ranges.parts.get_part r.tag 64 1728 k lt

  pub node_tag_one : MetaHasOneSpelling → NodeTagIsOne
  node_tag_one one r q part note fits fine h g kind ttl = both_parts r.tag q.tag fits.tag_size fine.tag_size
      (part_one part (blob_part r.tag) (blob_part q.tag) (blob_length r fits) (blob_length q fine) (octets_part r.tag 0 64 fits.tag_octets) (octets_part q.tag 0 64 fine.tag_octets) h.blob.octets g.blob.octets)
      (note_one one note (note_part r.tag) (note_part q.tag) (note_length r fits) (note_length q fine) (octets_part r.tag 64 1728 fits.tag_octets) (octets_part q.tag 64 1728 fine.tag_octets) h.note_octets.spells g.note_octets.spells
      (note_at r 0 (omega arith) ∙ kind ∙ sym (note_at q 0 (omega arith))) (λ none. note_at r 3 (omega arith) ∙ ttl none ∙ sym (note_at q 3 (omega arith))))

  -- ---- any note

  pub tag_one : TagIsOneByItsNote
  tag_one r q part fits fine h g note = both_parts r.tag q.tag fits.tag_size fine.tag_size
      (part_one part (blob_part r.tag) (blob_part q.tag) (blob_length r fits) (blob_length q fine) (octets_part r.tag 0 64 fits.tag_octets) (octets_part q.tag 0 64 fine.tag_octets) h.octets g.octets) note
