use Rattle.std.proofs.Common.{arith, sym, subst}
use Rattle.std.proofs.lemmas.Grind.{common_steps}
use Rattle.mu_receivers.specs.declared.slot.Slot.{Slot}
use Rattle.mu_rounds.specs.Begin.{IsCanceled}
use Rattle.mu_rounds.proofs.Lists.{each_next}
use Rattle.mu_rounds.proofs.begin.cancel.Goals as goal

pub loop-i-preserved : goal.loop-i-preserved
loop-i-preserved c = record {
  long = grind (arith, common_steps, c.loop-i.invariant.long);
  done = λ k d lt.
      each_next IsCanceled c.args.slots.now c.loop-i.slots c.loop-i.i c.index-slots-i.result c.cancel_one.new.slot (omega (arith, c.loop-i-test.true, c.loop-i.invariant.long)) (omega (arith, c.loop-i-test.true, c.loop-i.invariant.long))
      c.index-slots-i.is (subst (λ (s : Slot). IsCanceled s c.cancel_one.new.slot) (sym c.index-slots-i.is) c.cancel_one.ensures) c.loop-i.invariant.done c.loop-i.invariant.rest k d lt;
  rest = λ k d le. grind (arith, common_steps, c.loop-i.invariant.rest k d);
}
