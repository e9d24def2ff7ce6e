-- What is read of marks and banks.
use Rattle.std.proofs.Common.{◌≡◌, ◌⊎◌, ⊎_elim, suc, cond, subst, refl, Option, Some, None, ℕ, ◌+◌, ◌-◌, ◌*◌, ◌<◌, ◌≤◌, Bool, false, List, [], ◌∷◌, ◌++◌, length, take, drop, min, sym, ◌∙◌, ap, arith}
use Rattle.std.specs.Prelude.{slice_index_or, replicate, is_some}
use Rattle.std.specs.List.{count_by}
use Rattle.std.proofs.lemmas.List.Sums.{sum_by-cons}
use Rattle.std.proofs.lemmas.List.{length-replicate, get_or-replicate, get_or_past, drop-drop}
use Rattle.std.proofs.Math.Seq.{take-add}
use Rattle.mu_model_flash.specs.Bits.{part_of}
use Rattle.mu_model_flash.specs.Flash.{Seen}
use Rattle.mu_model_record.specs.declared.Record.{Record}
use Rattle.mu_model_record.specs.declared.BankState.{BankState}
use Rattle.mu_model_record.specs.declared.BankState.TheVariants.{Empty, Filling, Sealed}
use Rattle.mu_model_record.specs.Record.{IsEntryInRange, entry_of}
use Rattle.mu_model_record.specs.Store.{Content, whole, StoreState, content_of_bank, bank_place, BankHolds}
use Rattle.mu_record.specs.Place.{HoldsAt}
use Rattle.mu_store.specs.Booted.{is_held}
use Rattle.mu_store.specs.Marks.{no_flags}
use Rattle.mu_store.proofs.PartLemmas.{length-part, part_part}
use Rattle.mu_store.specs.Known.{Known}

pub length-no_flags : length no_flags ≡ 256
unfolding no_flags
length-no_flags = length-replicate 256 false

pub get-no_flags : (i : ℕ) → slice_index_or no_flags i false ≡ false
unfolding no_flags
get-no_flags i = ⊎_elim (λ lt. get_or-replicate 256 i false false lt) (λ le. get_or_past (replicate 256 false) i false le) (split i 256)
  where
    split : (a b : ℕ) → (a < b) ⊎ (b ≤ a)
    split a b = grind arith

-- a part, and the part after it
pub part_join : (c : List ℕ) (at n m : ℕ) → part_of c at n ++ part_of c (at + n) m ≡ part_of c at (n + m)
unfolding part_of
part_join c at n m = ap (λ (l : List ℕ). take n (drop at c) ++ take m l) (sym (drop-drop n at c)) ∙ sym (take-add n m (drop at c))

pub part_none : (c : List ℕ) (at size : ℕ) → part_of c at (min size 0) ≡ []
unfolding part_of
part_none c at size = let e : min size 0 ≡ 0 = omega arith in ap (λ (n : ℕ). take n (drop at c)) e

-- one page more
pub part_page : (c : List ℕ) (at size page count : ℕ) → 4096 * page < size → count ≡ min (size - 4096 * page) 4096 → part_of c at (min size (4096 * page)) ++ part_of c (at + 4096 * page) count ≡ part_of c at (min size (4096 * (page + 1)))
part_page c at size page count lt is =
    let from : min size (4096 * page) ≡ 4096 * page = omega (arith, lt) in
    let to : 4096 * page + count ≡ min size (4096 * (page + 1)) = omega (arith, lt, is) in
    ap (λ (n : ℕ). part_of c at n ++ part_of c (at + 4096 * page) count) from ∙ part_join c at (4096 * page) count ∙ ap (λ (n : ℕ). part_of c at n) to

-- a part of the image that a bank holds
module _ (known : Known) (a : Seen) (page fresh : ℕ) (d : StoreState) (holds : HoldsAt a page fresh d) (fields : Record) (is : d.present ≡ fields) (b : ℕ) (there : b < fields.number) (octets : List ℕ) (content : content_of_bank d b ≡ whole octets) (at n : ℕ) (within : at + n ≤ length octets) where
  there_d : b < d.present.number
  there_d = subst (λ (r : Record). b < r.number) (sym is) there

  by_entry : (e : BankState) → IsEntryInRange d.present e → BankHolds d.present b e (whole octets) a.octets → part_of a.octets (bank_place d.present b + at) n ≡ part_of octets at n
  by_entry Empty range h = absurd h
  by_entry (Filling size log) range h = absurd h
  by_entry (Sealed meta) range h =
      let inside = known.places.bank_within d.present b meta.size there_d range.1 in
      let lies : bank_place d.present b + meta.size ≤ length a.octets = omega (arith, inside, holds.represents.size) in
      let size : length octets ≡ meta.size = ap (λ (l : List ℕ). length l) (sym h.0) ∙ length-part a.octets (bank_place d.present b) meta.size lies in
      sym (part_part a.octets (bank_place d.present b) meta.size at n lies (omega (arith, within, size))) ∙ ap (λ (l : List ℕ). part_of l at n) h.0

  pub image_part : part_of a.octets (bank_place fields b + at) n ≡ part_of octets at n
  image_part = subst (λ (r : Record). part_of a.octets (bank_place r b + at) n ≡ part_of octets at n) is
      (by_entry (entry_of d.present b) (holds.represents.in_range.entries b there_d) (subst (λ (k : Content). BankHolds d.present b (entry_of d.present b) k a.octets) content (holds.represents.banks b there_d)))

-- as many flags are set as blocks are held
pub count_same : (flags : List Bool) (blocks : List (Option (List ℕ))) → length blocks ≤ length flags → ((i : ℕ) → i < length blocks → slice_index_or flags i false ≡ is_held (slice_index_or blocks i None)) → count_by (λ held. held) (take (length blocks) flags) ≡ count_by is_some blocks
count_same flags [] long same = refl
count_same [] (b ∷ blocks) long same = absurd (omega (arith, long))
count_same (f ∷ flags) (b ∷ blocks) long same =
    let rest = count_same flags blocks (omega (arith, long)) (λ i lt. same (suc i) (omega (arith, lt))) in
    let first : f ≡ is_held b = same 0 (omega arith) in
    sum_by-cons (λ (held : Bool). cond held 1 0) f (take (length blocks) flags) ∙ (λ i. cond (first i) 1 0 + rest i) ∙ one b ∙ sym (sum_by-cons (λ (x : Option (List ℕ)). cond (is_some x) 1 0) b blocks)
  where
    one : (x : Option (List ℕ)) → cond (is_held x) 1 0 + count_by is_some blocks ≡ cond (is_some x) 1 0 + count_by is_some blocks
    one None = refl
    one (Some octets) = refl
