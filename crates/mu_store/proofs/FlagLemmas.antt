-- A flag for each block of a bank that is being filled.
use Rattle.std.proofs.Common.{◌≡◌, ◌⊎◌, ⊎_elim, ℕ, ◌+◌, ◌*◌, ◌<◌, ◌≤◌, ◌≢◌, Bool, false, Option, Some, None, List, length, take, set, replicate, min, slice_range, refl, sym, ◌∙◌, ap, subst, arith}
use Rattle.std.specs.Prelude.{MatchOption, slice_index, slice_index_or}
use Rattle.std.proofs.lemmas.List.{get_or-take, get_or_past, length-take, take-replicate}
use Rattle.std.proofs.Math.Seq.{take-set-lt}
use Rattle.mu_model_flash.specs.Laws.{PartLaws}
use Rattle.mu_model_record.specs.Store.{mark_place}
use Rattle.mu_store.specs.Marks.{no_flags, MarkIs, AreFlags, HasOther, AreHeld, HasOtherMark}

pub taken : (flags : List Bool) (n i : ℕ) → i < n → slice_index_or (take n flags) i false ≡ slice_index_or flags i false
taken flags n i lt = get_or-take n flags i false lt

pub length-taken : (flags : List Bool) (n : ℕ) → length flags ≡ 256 → n ≤ 256 → length (take n flags) ≡ n
length-taken flags n many few = length-take n flags ∙ omega (arith, many, few)

-- none past the last
pub past : (flags : List Bool) (n i : ℕ) → n ≤ i → slice_index_or (take n flags) i false ≡ false
past flags n i le = get_or_past (take n flags) i false (omega (arith, length-take n flags, le))

pub taken_set : (flags : List Bool) (n i : ℕ) (flag : Bool) → i < n → take n (set flags i flag) ≡ set (take n flags) i flag
taken_set flags n i flag lt = take-set-lt n flags i flag lt

pub none_taken : (n : ℕ) → n ≤ 256 → take n no_flags ≡ replicate n false
unfolding no_flags
none_taken n few = take-replicate n 256 false few

-- marks that were read at once
module _ (parts : PartLaws) (octets marks : List ℕ) (bank n : ℕ) (is : marks ≡ slice_range octets (4096 * (2 + bank)) (4096 * (2 + bank) + n)) (within : 4096 * (2 + bank) + n ≤ length octets) where
  size : length marks ≡ n
  size = ap length (is ∙ parts.range_part octets (4096 * (2 + bank)) n) ∙ parts.length_part octets (4096 * (2 + bank)) n within

  mark_at : (i : ℕ) → i < n → slice_index marks i ≡ slice_index octets (mark_place bank i)
  mark_at i lt = ap (λ (l : List ℕ). slice_index l i) (is ∙ parts.range_part octets (4096 * (2 + bank)) n) ∙ parts.get_part octets (4096 * (2 + bank)) n i lt

  pub marks_read : (found : Option (List Bool)) → MatchOption found (HasOther marks) (AreFlags marks) → MatchOption found (HasOtherMark bank n octets) (λ held. AreHeld bank n held octets)
  marks_read None other =
      let lt : other.0 < n = omega (arith, other.1, size) in
      (other.0, lt, λ unset. other.2 (mark_at other.0 lt ∙ unset), λ set. other.3 (mark_at other.0 lt ∙ set))
  marks_read (Some held) are = λ i lt. subst (λ (octet : ℕ). MarkIs (slice_index_or held i false) octet) (mark_at i lt) (are i (omega (arith, lt, size)))
