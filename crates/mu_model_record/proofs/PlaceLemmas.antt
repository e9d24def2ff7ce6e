-- Pages and slots among the octets of a flash.
use Rattle.std.proofs.Common.{◌≡◌, ◌⊎◌, inl, inr, ⊎_elim, ℕ, ◌+◌, ◌*◌, ◌<◌, ◌≤◌, List, length, get_or, sym, ◌∙◌, ap, subst, arith}
use Rattle.std.proofs.lemmas.List.{ext_get_or}
use Rattle.mu_model_flash.specs.Bits.{part_of, SameOutside}
use Rattle.mu_model_record.specs.Code.{coded, HasPairOfOnes}
use Rattle.mu_model_record.specs.Page.{page_of, slot_of, slot_place, slot_in, SlotChanges}
use Rattle.mu_model_record.specs.Turns.{before, after, PageTurns, SlotTurns}
use Rattle.mu_model_record.proofs.CodeLemmas.{length-coded}
use Rattle.mu_model_flash.specs.Laws.{RangeLaws}

-- a part of a part
module _ (ranges : RangeLaws) where
  part-part : (c : List ℕ) (at n p m : ℕ) → at + n ≤ length c → p + m ≤ n → part_of (part_of c at n) p m ≡ part_of c (at + p) m
  part-part c at n p m within inner =
      let whole : length (part_of c at n) ≡ n = ranges.parts.length_part c at n within in
      let here : length (part_of (part_of c at n) p m) ≡ m = ranges.parts.length_part (part_of c at n) p m (omega (arith, whole, inner)) in
      let there : length (part_of c (at + p) m) ≡ m = ranges.parts.length_part c (at + p) m (omega (arith, within, inner)) in
      ext_get_or 0 (part_of (part_of c at n) p m) (part_of c (at + p) m) (here ∙ sym there) (λ i lt.
      let low : i < m = omega (arith, lt, here) in
      let place : at + (p + i) ≡ at + p + i = omega arith in
      ranges.parts.get_part (part_of c at n) p m i low
      ∙ ranges.parts.get_part c at n (p + i) (omega (arith, low, inner))
      ∙ ap (λ (k : ℕ). get_or c k 0) place
      ∙ sym (ranges.parts.get_part c (at + p) m i low))

module _ (ranges : RangeLaws) where
  pub slot-of-page : (octets : List ℕ) (page k : ℕ) → 4096 * page + 4096 ≤ length octets → k < 4 → slot_in (page_of octets page) k ≡ slot_of octets page k
  slot-of-page octets page k within lt = (part-part ranges) octets (4096 * page) 4096 (1024 * k) 1024 within (omega (arith, lt))

module _ (ranges : RangeLaws) where
  pub page_turned : (old image octets : List ℕ) (page : ℕ) → 4096 * page + 4096 ≤ length old → length octets ≡ 2048 → PageTurns old page octets after image → page_of image page ≡ coded octets
  page_turned old image octets page within many is =
      ap (λ (c : List ℕ). page_of c page) is ∙ ranges.writes.part_written old (4096 * page) 4096 within (coded octets) (omega (arith, length-coded octets, many))

module _ (ranges : RangeLaws) (old image octets : List ℕ) (page k : ℕ) (within : 4096 * page + 4096 ≤ length old) (lt : k < 4) (many : length octets ≡ 512) where
  slot_within : slot_place page k + 1024 ≤ length old
  slot_within = omega (arith, within, lt)

  code : length (coded octets) ≡ 1024
  code = omega (arith, length-coded octets, many)

  outside : SlotTurns old page k octets before image ⊎ SlotTurns old page k octets after image → SameOutside (slot_place page k) 1024 old image
  outside (inl b) = b.0
  outside (inr is) = subst (λ (c : List ℕ). SameOutside (slot_place page k) 1024 old c) (sym is) (ranges.writes.outside_written old (slot_place page k) 1024 slot_within (coded octets) code)

  there : SameOutside (slot_place page k) 1024 old image → 4096 * page + 4096 ≤ length image
  there out = omega (arith, within, out.size)

  apart : (j : ℕ) → j < 4 → (j ≡ k → ⊥) → (slot_place page j + 1024 ≤ slot_place page k) ⊎ (slot_place page k + 1024 ≤ slot_place page j)
  apart j j_lt ne = ⊎_elim (λ below. inl (omega (arith, below))) (λ above. inr (omega (arith, above))) (order j k ne)
    where
      order : (a b : ℕ) → (a ≡ b → ⊥) → (a < b) ⊎ (b < a)
      order a b differ = grind arith

  this_one : SlotTurns old page k octets before image ⊎ SlotTurns old page k octets after image → HasPairOfOnes (slot_of image page k) ⊎ (slot_of image page k ≡ coded octets)
  this_one (inl b) = inl b.1
  this_one (inr is) = inr (ap (λ (c : List ℕ). slot_of c page k) is ∙ ranges.writes.part_written old (slot_place page k) 1024 slot_within (coded octets) code)

  pub slot_turned : SlotTurns old page k octets before image ⊎ SlotTurns old page k octets after image → SlotChanges (page_of old page) (page_of image page) k octets
  slot_turned turns =
      let out = outside turns in
      let same = (slot-of-page ranges) image page k (there out) lt in
      record {
        others = λ j j_lt ne. (slot-of-page ranges) image page j (there out) j_lt ∙ ranges.writes.part_outside old image (slot_place page k) 1024 out (slot_place page j) 1024 (apart j j_lt ne) (omega (arith, within, j_lt)) ∙ sym ((slot-of-page ranges) old page j within j_lt);
        this_one = ⊎_elim
            (λ ones. inl (subst (λ (s : List ℕ). HasPairOfOnes s) (sym same) ones))
            (λ is. inr (same ∙ is))
            (this_one turns);
      }
