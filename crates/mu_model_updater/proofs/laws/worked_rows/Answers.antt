use Rattle.mu_model_updater.proofs.Worked.{two_receivers, a_whole_update}
use Rattle.mu_model_updater.proofs.laws.worked_rows.Goals as goal

pub returns-clause-receivers : goal.returns-clause-receivers
returns-clause-receivers c = two_receivers

pub returns-clause-update : goal.returns-clause-update
returns-clause-update c = a_whole_update
