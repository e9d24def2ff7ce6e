use Rattle.mu_model_updater.proofs.Begins.{begins_with_a_check}
use Rattle.mu_model_updater.proofs.Ends.{ends_stay}
use Rattle.mu_model_updater.proofs.laws.begins_and_ends.Goals as goal

pub returns-clause-begins : goal.returns-clause-begins
returns-clause-begins c = begins_with_a_check

pub returns-clause-ends : goal.returns-clause-ends
returns-clause-ends c = ends_stay
