use Rattle.std.proofs.Common.{◌<◌, List, ap, sym, ◌∙◌, subst, arith}
use Rattle.std.proofs.lemmas.List.{take_all}
use Rattle.mu_model_client.specs.Going.{is_missed}
use Rattle.mu_receivers.specs.Receivers.{receivers_of}
use Rattle.mu_receivers.specs.declared.slot.Slot.{Slot}
use Rattle.mu_receivers.proofs.LeastMissed.{first_is, none_is}
use Rattle.mu_receivers.proofs.blocks.least_missed.Goals as goal

pub returns-then-least-total-clause-least : goal.returns-then-least-total-clause-least
returns-then-least-total-clause-least c =
    λ p is.
    let all = take_all c.loop-slot.slot-index c.args.slots.now c.loop-slot-test.false in
    sym (first_is (is_missed (receivers_of c.args.slots.now)) _ c.loop-slot.least
    (λ b lt. ap (λ (xs : List Slot). is_missed (receivers_of xs) b) (sym all) ∙ c.loop-slot.invariant.none b lt)
    (ap (λ (xs : List Slot). is_missed (receivers_of xs) c.loop-slot.least) (sym all) ∙ c.loop-slot.invariant.missed c.if-least-total.true)
    (subst (λ n. c.loop-slot.least < n) is c.if-least-total.true))

pub returns-else-least-total-clause-least : goal.returns-else-least-total-clause-least
returns-else-least-total-clause-least c =
    λ p is.
    let all = take_all c.loop-slot.slot-index c.args.slots.now c.loop-slot-test.false in
    sym (none_is (is_missed (receivers_of c.args.slots.now)) _
    (λ b lt. ap (λ (xs : List Slot). is_missed (receivers_of xs) b) (sym all) ∙ c.loop-slot.invariant.none b (omega (arith, lt, is, c.if-least-total.false))))
