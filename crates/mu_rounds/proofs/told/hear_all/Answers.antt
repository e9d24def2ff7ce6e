use Rattle.std.proofs.Common.{arith, sym, subst}
use Rattle.std.proofs.lemmas.Grind.{common_steps}
use Rattle.mu_receivers.specs.declared.slot.Slot.{Slot}
use Rattle.mu_rounds.specs.Told.{answer_of}
use Rattle.mu_rounds.proofs.Lists.{each_next}
use Rattle.mu_rounds.proofs.Telling.{Tells}
use Rattle.mu_rounds.proofs.told.hear_all.Goals as goal

pub loop-i-preserved : goal.loop-i-preserved
loop-i-preserved c = record {
  long = grind (arith, common_steps, c.loop-i.invariant.long);
  done = λ count more k d lt.
      each_next (Tells c.args.listener.now (answer_of c.args.heard.now count more) c.args.from) c.args.slots.now c.loop-i.slots c.loop-i.i c.index-slots-i.result c.hear.new.slot
      (omega (arith, c.loop-i-test.true, c.loop-i.invariant.long)) (omega (arith, c.loop-i-test.true, c.loop-i.invariant.long)) c.index-slots-i.is
      (subst (λ (s : Slot). Tells c.args.listener.now (answer_of c.args.heard.now count more) c.args.from s c.hear.new.slot) (sym c.index-slots-i.is) (c.hear.ensures count more))
      (c.loop-i.invariant.done count more) c.loop-i.invariant.rest k d lt;
  rest = λ k d le. grind (arith, common_steps, c.loop-i.invariant.rest k d);
}

pub returns : goal.returns
returns c =
    λ count more. record {
      long = c.loop-i.invariant.long;
      each = λ k d lt. c.loop-i.invariant.done count more k d (omega (arith, lt, c.loop-i-test.false, c.loop-i.invariant.long));
    }
