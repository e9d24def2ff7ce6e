use Rattle.std.proofs.Common.{arith}
use Rattle.mu_shown.specs.Seen.{list_shown}
use Rattle.mu_shown.proofs.Told.{adds_then, adds_as, next_entry}
use Rattle.mu_shown.proofs.writing.put_more.Goals as goal

pub loop-place-preserved : goal.loop-place-preserved
loop-place-preserved g c =
    adds_as (next_entry (list_shown c.args.list.now) c.loop-place.place c.loop-place.auto.place (omega (arith, c.loop-place-test.true, c.len-place-end.ensures))) (adds_then c.loop-place.invariant c.put_next-done.ensures)
