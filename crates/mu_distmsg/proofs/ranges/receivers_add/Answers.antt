use Rattle.std.proofs.Common.{◌<◌, length, arith}
use Rattle.mu_distmsg.proofs.Fit.{pairs_fit}
use Rattle.mu_distmsg.proofs.ranges.receivers_add.Goals as goal

pub returns-then-not-is_empty : goal.returns-then-not-is_empty
returns-then-not-is_empty c =
    let some : 0 < length c.args.entries.now.items = grind (arith, c.is_empty.ensures, c.if-not-is_empty.true) in
    let most = rw c.as_slice.ensures.value at c.as_slice.ensures.fits in
    pairs_fit c.args.entries.now.items c.receivers_in_range.result some most (rw (← c.as_slice.ensures.value) c.receivers_in_range.ensures)
