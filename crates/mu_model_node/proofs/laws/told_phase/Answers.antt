use Rattle.mu_model_node.proofs.Told.{told_is_the_phase}
use Rattle.mu_model_node.proofs.laws.told_phase.Goals as goal

pub returns : goal.returns
returns c = told_is_the_phase
