-- The BLOB part of a record, and the rules against its banks.
use Rattle.std.proofs.Common.{◌≡◌, ◌⊎◌, inl, inr, ◌∙◌, ◌<◌, ◌≤◌, ◌++◌, ℕ, ◌+◌, true, false, Bool, Option, Some, None, List, length, get_or, take, drop, refl, sym, ap, subst, arith, length-drop}
use Rattle.std.specs.Prelude.{◌≢◌, ◌==◌, if◌then◌else◌, slice_index, slice_index_or}
use Rattle.std.proofs.lemmas.Bool.{cases_lt}
use Rattle.std.proofs.lemmas.Bool.Decides.{nat_tests}
use Rattle.std.proofs.lemmas.List.{get_or-take, get_or-drop, get_or_past, length-take-le}
use Rattle.mu_model_image.specs.declared.Meta.{Meta}
use Rattle.mu_model_flash.specs.Bits.{AreOctets, part_of}
use Rattle.mu_model_record.specs.declared.Record.{Record}
use Rattle.mu_model_record.specs.declared.BankState.{BankState}
use Rattle.mu_model_record.specs.declared.BankState.TheVariants.{Empty, Filling, Sealed}
use Rattle.mu_model_record.specs.Record.{zeros, number_at, entry_of, capacity_of, IsFilling}
use Rattle.mu_model_record.specs.Store.{Content, nothing, held, whole, StoreState}
use Rattle.mu_model_record.specs.Changes.{tagged, begun, emptied, sealed_up, released, cleared}
use Rattle.mu_model_record.specs.ChangeLaws.{IsTag}
use Rattle.mu_model_image.specs.Pieces.{block_count}
use Rattle.mu_model_node.specs.Slots.{empty}
use Rattle.mu_model_node.specs.declared.Parameters.{Parameters}
use Rattle.mu_model_represents.specs.BlobPart.{BlobJob, blob_part, note_part, IsBlobPart, HasParameters, TakesBy, BankGoesWith, NoneFilling, HasBlobRules, PartFits}
use Rattle.mu_model_represents.specs.StoreStates.{IsStoreState}
use Rattle.mu_model_represents.specs.Written.{BlobPartIsReadBack}
use Rattle.mu_model_jobs.specs.Transfers.{begun_job}
use Rattle.mu_model_jobs.specs.Parts.{with_part, parameters_in, part_in, ParametersStay}
use Rattle.mu_model_jobs.proofs.Places.{same_or_other, entry_here, entry_other, cleared_same, cleared_none}

-- ---- a new part

note_long : (tag : List ℕ) → length tag ≡ 1792 → length (note_part tag) ≡ 1728
unfolding part_of
note_long tag long = length-take-le 1728 (drop 64 tag) (omega (arith, length-drop 64 tag))

note_small : (tag : List ℕ) → length tag ≡ 1792 → AreOctets tag → AreOctets (note_part tag)
unfolding part_of
note_small tag long small i = elim (cases_lt i 1728) [
  | inl lt ↦ let P : ℕ → Type 0 = λ n. n < 256 in subst P (sym (get_or-take 1728 (drop 64 tag) i 0 lt ∙ get_or-drop 64 tag i 0)) (small (64 + i))
  | inr past ↦ let P : ℕ → Type 0 = λ n. n < 256 in subst P (sym (get_or_past (note_part tag) i 0 (omega (arith, note_long tag long)))) (omega arith)
]

pub new_part : BlobPartIsReadBack → (part : Option BlobJob) (tag : List ℕ) → PartFits part → IsTag tag
    → IsTag (with_part part tag) × IsBlobPart part (blob_part (with_part part tag)) × (note_part (with_part part tag) ≡ note_part tag)
new_part law part tag fits a_tag = law part (note_part tag) fits (note_long tag a_tag.0) (note_small tag a_tag.0 a_tag.1)

-- ---- read from its octets

parameters_read : (size : ℕ) (q : Option Parameters) (octets : List ℕ) → number_at 4 octets 12 ≡ size → HasParameters size q octets → parameters_in octets ≡ q
parameters_read size None octets long lacks = ap (λ (b : Bool). if b then None else Some (record { mode = slice_index octets 1; size = number_at 4 octets 12; log = slice_index octets 19; mtu = number_at 2 octets 2 })) none
  where
    none : (slice_index octets 1 == 0) ≡ true
    none = ap (λ (n : ℕ). n == 0) lacks.no_mode_at_1
parameters_read size (Some p) octets long s =
    ap (λ (b : Bool). if b then None else Some (record { mode = slice_index octets 1; size = number_at 4 octets 12; log = slice_index octets 19; mtu = number_at 2 octets 2 })) some
    ∙ (λ i. Some (record { mode = s.mode_at_1 i; size = (long ∙ sym s.same_size) i; log = s.log_at_19 i; mtu = s.mtu_at_2 i }))
  where
    test : (n m : ℕ) → n ≡ m → 1 ≤ m → (n == 0) ≡ false
    test n m e least = grind (arith, nat_tests)

    some : (slice_index octets 1 == 0) ≡ false
    some = test (slice_index octets 1) p.mode s.mode_at_1 s.mode_least

pub part_read : (part : Option BlobJob) (octets : List ℕ) → IsBlobPart part octets → part_in octets ≡ part
unfolding zeros
part_read None octets e = ap part_in e
part_read (Some j) octets s =
    ap (λ (n : ℕ). if n == 0 then None else Some (record { id = number_at 8 octets 4; size = number_at 4 octets 12; base = number_at 2 octets 16; bank = slice_index octets 18; parameters = parameters_in octets })) s.there_at_0
    ∙ (λ i. Some (record { id = s.id_at_4 i; size = s.size_at_12 i; base = s.base_at_16 i; bank = s.bank_at_18 i; parameters = parameters_read j.size j.parameters octets s.size_at_12 s.parameters i }))

-- ---- the rules

goes_same : (s : StoreState) (tag : List ℕ) (bank : ℕ) (q : Option Parameters) → BankGoesWith s.present bank q → BankGoesWith (tagged s tag).present bank q
goes_same s tag bank None h = h
goes_same s tag bank (Some p) h = h

pub rules_stay : (s : StoreState) (part : Option BlobJob) (tag : List ℕ) → HasBlobRules s.present part → HasBlobRules (tagged s tag).present part
rules_stay s None tag h = h
rules_stay s (Some j) tag h = record { size_least = h.size_least; size_most = h.size_most; bank = h.bank; goes_with = goes_same s tag j.bank j.parameters h.goes_with }

pub begin_rules : (s : StoreState) (j : BlobJob) (p : Parameters) (tag : List ℕ) → IsStoreState s → HasBlobRules s.present (Some j)
    → HasBlobRules (begun s j.bank p.size p.log tag).present (Some (begun_job j p))
begin_rules s j p tag is h = record {
  size_least = h.size_least;
  size_most = h.size_most;
  bank = h.bank;
  goes_with = subst (λ (e : BankState). TakesBy p e) (sym (entry_here s j.bank j.bank (Filling p.size p.log) (held (empty (block_count p.size p.log))) tag is h.bank refl)) (refl, refl);
}

never_filling : (e : BankState) → e ≡ Empty → IsFilling e → ⊥
never_filling e is filling = subst IsFilling is filling

pub given_up : (s : StoreState) (j : BlobJob) (tag : List ℕ) → IsStoreState s → j.bank < s.present.number → IsFilling (entry_of s.present j.bank)
    → NoneFilling (emptied s j.bank tag).present
given_up s j tag is there was b filling = elim (same_or_other b j.bank) [
  | inl e ↦ never_filling _ (entry_here s j.bank b Empty nothing tag is there e) filling
  | inr ne ↦ ne (is.in_range.one_filling b j.bank (subst IsFilling (entry_other s j.bank b Empty nothing tag ne) filling) was)
]

pub seal_rules : (s : StoreState) (j : BlobJob) (p : Parameters) (meta : Meta) (octets tag : List ℕ) → IsStoreState s → HasBlobRules s.present (Some j)
    → j.parameters ≡ Some p → meta.size ≡ p.size → 12 ≤ p.log → p.log ≤ 14 → HasBlobRules (sealed_up s j.bank meta octets tag).present (Some j)
seal_rules s j p meta octets tag is h has size least most = record {
  size_least = h.size_least;
  size_most = h.size_most;
  bank = h.bank;
  goes_with = subst (λ (q : Option Parameters). BankGoesWith (sealed_up s j.bank meta octets tag).present j.bank q) (sym has)
      (subst (λ (e : BankState). TakesBy p e) (sym (entry_here s j.bank j.bank (Sealed meta) (whole octets) tag is h.bank refl)) (size, least, most));
}

none_after : (s : StoreState) (named : List Bool) (tag : List ℕ) → NoneFilling s.present → NoneFilling (released s named tag).present
none_after s named tag none b filling = by_named (get_or named b false) refl
  where
    by_named : (n : Bool) → get_or named b false ≡ n → ⊥
    by_named true e = never_filling _ (cleared_none Empty named s.present.banks b e) filling
    by_named false e = none b (subst IsFilling (cleared_same Empty named s.present.banks b e) filling)

goes_released : (s : StoreState) (named : List Bool) (tag : List ℕ) (bank : ℕ) (q : Option Parameters) → BankGoesWith s.present bank q
    → ((p : Parameters) → q ≡ Some p → slice_index_or named bank false ≡ false) → BankGoesWith (released s named tag).present bank q
goes_released s named tag bank None h stays = none_after s named tag h
goes_released s named tag bank (Some p) h stays = subst (λ (e : BankState). TakesBy p e) (sym (cleared_same Empty named s.present.banks bank (stays p refl))) h

pub release_rules : (s : StoreState) (j : BlobJob) (named : List Bool) (tag : List ℕ) → HasBlobRules s.present (Some j) → ParametersStay j named
    → HasBlobRules (released s named tag).present (Some j)
release_rules s j named tag h stays = record { size_least = h.size_least; size_most = h.size_most; bank = h.bank; goes_with = goes_released s named tag j.bank j.parameters h.goes_with stays }

pub another_rules : (s : StoreState) (j : BlobJob) (tag : List ℕ) → NoneFilling s.present → j.parameters ≡ None → 1 ≤ j.size → j.size ≤ capacity_of s.present
    → j.bank < s.present.number → HasBlobRules (tagged s tag).present (Some j)
another_rules s j tag none has least most bank = record {
  size_least = least;
  size_most = most;
  bank = bank;
  goes_with = subst (λ (q : Option Parameters). BankGoesWith (tagged s tag).present j.bank q) (sym has) none;
}
