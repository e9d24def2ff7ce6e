-- Parts that read FF, and parts that are joined.
use Rattle.std.proofs.Common.{◌≡◌, ℕ, ◌+◌, ◌≤◌, List, ◌++◌, take, drop, sym, ◌∙◌, ap, arith}
use Rattle.std.proofs.lemmas.List.{ext_get_or, drop-drop}
use Rattle.std.proofs.Math.Seq.{take-add}
use Rattle.mu_model_flash.specs.Bits.{blank, part_of}
use Rattle.mu_model_flash.specs.Laws.{RangeLaws}

module _ (ranges : RangeLaws) where
  pub blank_of_blank : (n at m : ℕ) → at + m ≤ n → part_of (blank n) at m ≡ blank m
  blank_of_blank n at m within =
      let size = ranges.parts.length_part (blank n) at m (omega (arith, within, ranges.parts.length_blank n)) in
      ext_get_or 0 (part_of (blank n) at m) (blank m) (size ∙ sym (ranges.parts.length_blank m)) (λ i lt.
      ranges.parts.get_part (blank n) at m i (omega (arith, lt, size)) ∙ ranges.parts.get_blank n (at + i) (omega (arith, within, lt, size)) ∙ sym (ranges.parts.get_blank m i (omega (arith, lt, size))))

pub part_joined : (c : List ℕ) (at n m : ℕ) → part_of c at n ++ part_of c (at + n) m ≡ part_of c at (n + m)
unfolding part_of
part_joined c at n m = ap (λ (l : List ℕ). take n (drop at c) ++ take m l) (sym (drop-drop n at c)) ∙ sym (take-add n m (drop at c))
