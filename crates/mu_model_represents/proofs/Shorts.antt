-- Which records are short, and how runs of a store are read.
use Rattle.std.proofs.Common.{◌≡◌, ◌⊎◌, inl, inr, ⊎_elim, ◌&&◌, not, ℕ, zero, suc, ◌+◌, ◌*◌, ◌<◌, ◌≤◌, Bool, true, false, Option, Some, None, List, [], ◌∷◌, length, take, drop, refl, sym, ◌∙◌, ap, subst, arith, eqb, eq-eqb, length-drop}
use Rattle.std.specs.Prelude.{slice_get, slice_index}
use Rattle.std.proofs.lemmas.Bool.{eqb-true}
use Rattle.std.proofs.lemmas.List.{take_all, drop-drop}
use Rattle.std.proofs.lemmas.Option.{slice_get_past}
use Rattle.mu_model_flash.specs.Bits.{part_of}
use Rattle.mu_model_flash.specs.Laws.{RangeLaws}
use Rattle.mu_model_record.specs.declared.Record.{Record}
use Rattle.mu_model_record.specs.Record.{zeros, number_at, IsRecord}
use Rattle.mu_model_represents.specs.BlobPart.{note_part}
use Rattle.mu_model_represents.specs.NodeNote.{NodeNote, SpellsNote, SpellsOldNote}
use Rattle.mu_model_represents.specs.Short.{RecordIsShortByItsNote, NodeRecordIsShort, StoresAreReadAsNodes}
use Rattle.mu_model_represents.proofs.Octets.{part_zeros, length_zeros}
use Rattle.mu_model_represents.proofs.Agree.{all_agree}

-- ---- the octets past a slot are those of the note from place 192 on

past_slot : (tag : List ℕ) → length tag ≡ 1792 → drop 256 tag ≡ part_of (note_part tag) 192 1536
unfolding part_of
past_slot tag many =
    let note : take 1728 (drop 64 tag) ≡ drop 64 tag = take_all 1728 (drop 64 tag) (omega (arith, length-drop 64 tag, many)) in
    sym (ap (λ (xs : List ℕ). take 1536 (drop 192 xs)) note ∙ take_all 1536 (drop 192 (drop 64 tag)) (omega (arith, length-drop 192 (drop 64 tag), length-drop 64 tag, many)) ∙ drop-drop 192 64 tag)

pub short_by_note : RecordIsShortByItsNote
short_by_note r is = let slot = past_slot r.tag is.tag_size in (λ short. sym slot ∙ short, λ none. slot ∙ none)

-- a part of a part that is zeros
module _ (ranges : RangeLaws) where
  pub part_in : (a : List ℕ) (p n k m : ℕ) → k + m ≤ n → p + n ≤ length a → part_of a p n ≡ zeros n → part_of a (p + k) m ≡ zeros m
  part_in a p n k m within fits is =
      let many : length (part_of a (p + k) m) ≡ m = ranges.parts.length_part a (p + k) m (omega (arith, within, fits)) in
      let whole : length (zeros m) ≡ m = length_zeros m in
      (all_agree (part_of a (p + k) m) (zeros m)) m many whole (λ i lt.
      let here : slice_index (part_of a (p + k) m) i ≡ slice_index a (p + k + i) = ranges.parts.get_part a (p + k) m i lt in
      let place : p + k + i ≡ p + (k + i) = omega arith in
      let there : slice_index (part_of a p n) (k + i) ≡ slice_index a (p + (k + i)) = ranges.parts.get_part a p n (k + i) (omega (arith, lt, within)) in
      let zero_there : slice_index (part_of a p n) (k + i) ≡ slice_index (zeros n) (k + i) = ap (λ (xs : List ℕ). slice_index xs (k + i)) is in
      let sub : slice_index (part_of (zeros n) k m) i ≡ slice_index (zeros n) (k + i) = ranges.parts.get_part (zeros n) k m i lt in
      let zeros_sub : slice_index (part_of (zeros n) k m) i ≡ slice_index (zeros m) i = ap (λ (xs : List ℕ). slice_index xs i) (part_zeros n k m within) in
      let from : 0 + i ≡ i = omega arith in
      subst (λ (j : ℕ). slice_index (part_of (a) (p + k) m) j ≡ slice_index (zeros m) j) (sym from)
      (here ∙ ap (λ (j : ℕ). slice_index a j) place ∙ sym there ∙ zero_there ∙ sym sub ∙ zeros_sub))

  note_short : (note : NodeNote) (a : List ℕ) → length a ≡ 1728 → SpellsNote note a ⊎ SpellsOldNote note a → part_of a 192 1536 ≡ zeros 1536
  note_short note a many (inl h) = part_in a 46 1682 146 1536 (omega arith) (omega (arith, many)) h.zero_at_46
  note_short note a many (inr h) = part_in a 44 1684 148 1536 (omega arith) (omega (arith, many)) h.zero_at_44

  note_many : (r : Record) → IsRecord r → length (note_part r.tag) ≡ 1728
  note_many r is = ranges.parts.length_part r.tag 64 1728 (omega (arith, is.tag_size))

  pub node_short : NodeRecordIsShort
  node_short s d state is =
      let r = s.present in
      past_slot r.tag state.in_range.tag_size ∙ note_short is.1 (note_part r.tag) (note_many r state.in_range) is.2.is_record.note_octets.spells

-- ---- runs

pub read_nodes : StoresAreReadAsNodes
read_nodes s [] d [] is all = λ c h. (s, h, is)
read_nodes s [] d (e ∷ ds) is all = absurd all
read_nodes s (x ∷ xs) d [] is all = absurd all
read_nodes s (x ∷ xs) d (e ∷ ds) is all =
    (λ c h. (s, h, is), λ c torn. ⊎_elim (λ old. inl (s, old, is)) (λ new. inr (x, new, all.0)) torn, read_nodes x xs e ds all.0 all.1)
