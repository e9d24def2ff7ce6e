use Rattle.mu_model_node.proofs.Runs.{one_node_is_safe}
use Rattle.mu_model_node.proofs.laws.one_node_is_safe.Goals as goal

pub returns : goal.returns
returns c = one_node_is_safe
