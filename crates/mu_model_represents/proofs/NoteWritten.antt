-- The note of a node that is written is read back, the new one and the old one.
use Rattle.std.proofs.Common.{◌≡◌, inl, inr, ℕ, ◌+◌, ◌<◌, Option, Some, None, List, [], ◌∷◌, ◌++◌, length, refl, ◌∙◌, ap, arith, length-append}
use Rattle.std.specs.Prelude.{slice_index}
use Rattle.std.proofs.lemmas.List.{take_all, take_at}
use Rattle.byteorder.specs.Endian.{little_bytes}
use Rattle.mu_model_image.specs.declared.Meta.{Meta}
use Rattle.mu_model_image.specs.Meta.{meta_octets, meta_from, IsMeta}
use Rattle.mu_model_image.specs.Laws.{MetaIsReadBack}
use Rattle.mu_model_flash.specs.Bits.{AreOctets, part_of}
use Rattle.mu_model_record.specs.Record.{zeros}
use Rattle.mu_model_node.specs.declared.Stored.{Stored}
use Rattle.mu_model_node.specs.declared.Stored.TheVariants.{Filling, Verified, Refused, Applied}
use Rattle.mu_model_represents.specs.NodeNote.{NoteJob, NodeNote, stored_number, HasNoteJob, SpellsActive, SpellsNote, IsNodeNote, index_of, first_of, second_of, job_octets, note_octets, old_note_octets}
pub use Rattle.mu_model_represents.specs.Notes.{FitsNote, NoteFits}
use Rattle.mu_model_represents.proofs.Octets.{octets_cons, octets_append, octets_all, octets_zeros, octets_little, part_past, part_all, index_past, length_zeros}

pub length_meta : (meta : Meta) → IsMeta meta → length (meta_octets meta) ≡ 40
length_meta meta is = omega (arith, is.digest_length)

pub octets_meta : (meta : Meta) → length meta.digest ≡ 32 → AreOctets meta.digest → AreOctets (meta_octets meta)
octets_meta meta many small =
    octets_append (little_bytes 4 meta.size) (little_bytes 4 meta.version ++ meta.digest) (octets_little 4 meta.size) (octets_append (little_bytes 4 meta.version) meta.digest (octets_little 4 meta.version) small)

length_job : (job : Option NoteJob) → NoteFits job → length (job_octets job) ≡ 42
length_job None fits = omega (arith, length_zeros 40)
length_job (Some j) fits = omega (arith, length_meta j.meta fits.meta)

module _ (back : MetaIsReadBack) where
  job_written : (job : Option NoteJob) (kind active : ℕ) (tail : List ℕ) → NoteFits job → HasNoteJob job ((kind ∷ active ∷ []) ++ (job_octets job ++ tail))
  unfolding part_of
  job_written None kind active tail fits = record { no_phase_at_2 = refl; no_metadata_at_4 = take_at (zeros 40) tail 40 (length_zeros 40) }
  job_written (Some j) kind active tail fits = record {
    phase_at_2 = refl;
    ttl_at_3 = refl;
    metadata_at_4 = ap meta_from (take_at (meta_octets j.meta) tail 40 (length_meta j.meta fits.meta)) ∙ back j.meta fits.meta;
  }

-- what stands after the job
module _ (job : Option NoteJob) (kind active : ℕ) (fits : NoteFits job) where
  tail_at : (tail : List ℕ) (k : ℕ) → slice_index ((kind ∷ active ∷ []) ++ (job_octets job ++ tail)) (44 + k) ≡ slice_index tail k
  tail_at tail k = index_past ((kind ∷ active ∷ []) ++ job_octets job) tail 44 k (omega (arith, length_job job fits))

  tail_part : (tail : List ℕ) (k m : ℕ) → part_of ((kind ∷ active ∷ []) ++ (job_octets job ++ tail)) (44 + k) m ≡ part_of tail k m
  tail_part tail k m = part_past ((kind ∷ active ∷ []) ++ job_octets job) tail 44 k m (omega (arith, length_job job fits))

last_zeros : (a b : ℕ) → part_of (a ∷ b ∷ zeros 1682) 2 1682 ≡ zeros 1682
unfolding part_of
last_zeros a b = take_all 1682 (zeros 1682) (omega (arith, length_zeros 1682))

-- one or two active banks
pub data AreActive : List ℕ → Type 0 where
  one : (a : ℕ) → a < 256 → AreActive (a ∷ [])
  two : (a b : ℕ) → a < 256 → b < 256 → AreActive (a ∷ b ∷ [])

active_written : (active : List ℕ) (octets : List ℕ) → AreActive active → slice_index octets 1 ≡ first_of active → slice_index octets 44 ≡ second_of active → SpellsActive active octets
active_written _ octets (one a lt) first second = (first, second)
active_written _ octets (two a b lt less) first second = (first, second)

first_small : (active : List ℕ) → AreActive active → first_of active < 256
first_small _ (one a lt) = lt
first_small _ (two a b lt less) = lt

second_small : (active : List ℕ) → AreActive active → second_of active < 256
second_small _ (one a lt) = omega arith
second_small _ (two a b lt less) = less

index_small : (job : Option NoteJob) → NoteFits job → index_of job < 256
index_small None fits = omega arith
index_small (Some j) fits = fits.index

module _ (back : MetaIsReadBack) (note : NodeNote) (active : AreActive note.active) (fits : NoteFits note.job) where
  tail : List ℕ
  tail = second_of note.active ∷ index_of note.job ∷ zeros 1682

  note_written : SpellsNote note (note_octets note)
  unfolding tail
  note_written = record {
    kind_at_0 = refl;
    active_at_1_44 = active_written note.active (note_octets note) active refl ((tail_at note.job 3 (first_of note.active) fits) tail 0);
    job_at_2 = (job_written back) note.job 3 (first_of note.active) tail fits;
    index_at_45 = (tail_at note.job 3 (first_of note.active) fits) tail 1;
    zero_at_46 = (tail_part note.job 3 (first_of note.active) fits) tail 2 1682 ∙ last_zeros (second_of note.active) (index_of note.job);
  }

  pub is_written : IsNodeNote (1 + length note.active) note (note_octets note)
  is_written = record { one_more = refl; spells = inl note_written }

  pub old_is_written : note.active ≡ first_of note.active ∷ [] → index_of note.job ≡ 0 → IsNodeNote (1 + length note.active) note (old_note_octets note)
  old_is_written alone index = record {
    one_more = refl;
    spells = inr (record {
      kind_at_0 = refl;
      active_at_1 = alone;
      job_at_2 = (job_written back) note.job 1 (first_of note.active) (zeros 1684) fits;
      index_0 = index;
      zero_at_44 = (tail_part note.job 1 (first_of note.active) fits) (zeros 1684) 0 1684 ∙ part_all (zeros 1684) 1684 (length_zeros 1684);
    });
  }

stored_small : (s : Stored) → stored_number s < 256
stored_small Filling = omega arith
stored_small Verified = omega arith
stored_small Refused = omega arith
stored_small Applied = omega arith

octets_job : (job : Option NoteJob) → NoteFits job → AreOctets (job_octets job)
octets_job None fits = octets_cons 0 (0 ∷ zeros 40) (omega arith) (octets_cons 0 (zeros 40) (omega arith) (octets_zeros 40))
octets_job (Some j) fits = octets_cons (stored_number j.stored) (j.ttl ∷ meta_octets j.meta) (stored_small j.stored)
    (octets_cons j.ttl (meta_octets j.meta) fits.ttl (octets_meta j.meta fits.meta.digest_length (octets_all j.meta.digest fits.meta.digest_octets)))

module _ (note : NodeNote) (active : AreActive note.active) (fits : NoteFits note.job) where
  octets_with : (kind : ℕ) (tail : List ℕ) → kind < 256 → AreOctets tail → AreOctets ((kind ∷ first_of note.active ∷ []) ++ (job_octets note.job ++ tail))
  octets_with kind tail lt small = octets_cons kind (first_of note.active ∷ (job_octets note.job ++ tail)) lt
      (octets_cons (first_of note.active) (job_octets note.job ++ tail) (first_small note.active active) (octets_append (job_octets note.job) tail (octets_job note.job fits) small))

  pub octets_note : AreOctets (note_octets note)
  octets_note = octets_with 3 (second_of note.active ∷ index_of note.job ∷ zeros 1682) (omega arith)
      (octets_cons (second_of note.active) (index_of note.job ∷ zeros 1682) (second_small note.active active) (octets_cons (index_of note.job) (zeros 1682) (index_small note.job fits) (octets_zeros 1682)))

  pub octets_old_note : AreOctets (old_note_octets note)
  octets_old_note = octets_with 1 (zeros 1684) (omega arith) (octets_zeros 1684)

  length_with : (kind : ℕ) (tail : List ℕ) → length tail ≡ 1684 → length ((kind ∷ first_of note.active ∷ []) ++ (job_octets note.job ++ tail)) ≡ 1728
  length_with kind tail many = omega (arith, length-append (job_octets note.job) tail, length_job note.job fits, many)

  pub length_note : length (note_octets note) ≡ 1728
  length_note = length_with 3 (second_of note.active ∷ index_of note.job ∷ zeros 1682) (omega (arith, length_zeros 1682))

  pub length_old_note : length (old_note_octets note) ≡ 1728
  length_old_note = length_with 1 (zeros 1684) (length_zeros 1684)
