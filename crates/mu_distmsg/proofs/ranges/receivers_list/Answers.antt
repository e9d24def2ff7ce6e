use Rattle.std.proofs.Common.{arith}
use Rattle.mu_distmsg.proofs.Fit.{rows_fit}
use Rattle.mu_distmsg.proofs.ranges.receivers_list.Goals as goal

pub returns : goal.returns
returns c =
    let most = rw c.as_slice.ensures.value at c.as_slice.ensures.fits in
    rows_fit c.args.count c.args.first c.args.entries.now.items c.rows_in_range.result (omega (arith, c.ranges.count.fits)) (omega (arith, c.ranges.first.fits)) most (rw (← c.as_slice.ensures.value) c.rows_in_range.ensures)
