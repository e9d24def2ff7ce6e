use Rattle.std.proofs.Common.{arith, length-take, length-drop}
use Rattle.mu_command_line.proofs.Pieces.{wrote_more}
use Rattle.mu_command_line.proofs.writing.write_all.Goals as goal

pub loop-done-preserved : goal.loop-done-preserved
loop-done-preserved g c = record {
  within = omega (arith, c.in_ok-done.ensures.within, simp (length-take, length-drop) at c.in_ok-done.ensures.within);
  wrote = wrote_more _ _ _ c.args.bytes.now c.loop-done.done c.in_ok-done.field-0 c.loop-done.invariant.wrote c.in_ok-done.ensures.takes;
  later = omega (arith, c.loop-done.invariant.later, c.in_ok-done.ensures.cause.later);
}
