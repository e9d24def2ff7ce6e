use Rattle.mu_blobmsg.proofs.Fit.{partial_fits}
use Rattle.mu_blobmsg.proofs.ranges.partial_block_report.Goals as goal

pub returns : goal.returns
returns c = partial_fits c.args.missing.now.items c.list_has_at_most.result (rw (← c.as_slice.ensures.value) c.list_has_at_most.ensures)
