-- Receivers that are taken in one by one.
use Rattle.std.proofs.Common.{zero, suc, List, [], ◌∷◌, ◌++◌, arith}
use Rattle.mu_receivers.specs.declared.slot.Slot.{Slot}
use Rattle.mu_receivers.specs.Slots.{IsFew, AreFew}

pub few_more : (slots : List Slot) (s : Slot) → AreFew slots → IsFew s → AreFew (slots ++ s ∷ [])
few_more [] s few one zero d lt = one
few_more [] s few one (suc k) d lt = absurd (omega (arith, lt))
few_more (x ∷ slots) s few one zero d lt = few 0 d (omega arith)
few_more (x ∷ slots) s few one (suc k) d lt = few_more slots s (λ k d lt. few (suc k) d (omega (arith, lt))) one k d (omega (arith, lt))
