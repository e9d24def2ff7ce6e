use Rattle.std.proofs.Common.{arith, length-take, length-drop, length, ap}
use Rattle.mu_outside.proofs.Handing.{takes_slice}
use Rattle.mu_outside.proofs.gathered.hand_on.Goals as goal

pub loop-done-preserved-in-Ok : goal.loop-done-preserved-in-Ok
loop-done-preserved-in-Ok g c = record {
  within = omega (arith, c.loop-done.invariant.within, c.in-Ok.ensures.within, simp (length-take, length-drop) at c.in-Ok.ensures.within, ap length c.as_slice.ensures.value);
  takes = takes_slice _ _ _ c.args.held.now.items c.as_slice.result.now c.loop-done.done c.in-Ok.count c.as_slice.ensures.value c.loop-done.invariant.takes c.in-Ok.ensures.takes;
  later = omega (arith, c.loop-done.invariant.later, c.write.ensures.cause.later);
  rose = λ failed. omega (arith, c.loop-done.invariant.rose failed, c.write.ensures.cause.later);
}
