use Rattle.std.proofs.Common.{◌∙◌}
use Rattle.mu_distributor_rows.proofs.Seen.{run_is}
use Rattle.mu_distributor_rows.proofs.looks.upload_phase.Goals as goal

pub returns : goal.returns
returns c s looks = c.run_phase.ensures ∙ run_is c.args.look s looks
