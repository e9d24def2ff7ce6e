use Rattle.std.proofs.Common.{arith}
use Rattle.std.proofs.lemmas.Grind.{common_steps}
use Rattle.mu_receivers.proofs.each.begin.Goals as goal

pub loop-i-preserved : goal.loop-i-preserved
loop-i-preserved c = record {
  long = grind (arith, common_steps, c.loop-i.invariant.long);
  done = λ k d lt. grind (arith, common_steps, c.loop-i.invariant.done k d, c.loop-i.invariant.rest k d, c.begin_one.ensures.begun, c.index-slots-i.is);
  rest = λ k d le. grind (arith, common_steps, c.loop-i.invariant.rest k d);
  few = λ all k d lt. grind (arith, common_steps, c.loop-i.invariant.few all k d, c.begin_one.ensures.few);
}
