-- What a write to a part of a Vec leaves.
use Rattle.std.proofs.Common.{◌≡◌, ℕ, ◌+◌, ◌≤◌, List, ◌++◌, length, take, drop, refl, sym, ◌∙◌, ap}
use Rattle.std.proofs.lemmas.List.{take_at, drop-drop}
use borrow.Rule.Slice.PartMut.{post_of}
use Rattle.mu_model_flash.specs.Bits.{written}
use Rattle.mu_model_flash.specs.Laws.{WriteLaws}

pub wrote : WriteLaws → (len : ℕ) (old s bytes ys : List ℕ) (at k : ℕ) → s ≡ old → ys ≡ bytes → k ≡ length bytes → len ≡ length old → at + length bytes ≤ length old
    → take len (take at s ++ (ys ++ post_of at k s) ++ drop (length (take at s ++ (ys ++ post_of at k s))) old) ≡ written old at bytes
unfolding written
wrote writes len old s bytes ys at k s_is ys_is k_is len_is within =
    let X : List ℕ = take at s ++ (ys ++ post_of at k s) in
    let rest = drop-drop k at s in
    let is : X ≡ written old at bytes = cc in
    let size : length X ≡ len = ap length is ∙ (writes.outside_written old at (length bytes) within bytes refl).size ∙ sym len_is in
    take_at X (drop (length X) old) len size ∙ is
