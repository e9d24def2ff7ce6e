use Rattle.mu_model_node.proofs.Causes.{entries_have_causes}
use Rattle.mu_model_node.proofs.laws.entries_have_causes.Goals as goal

pub returns : goal.returns
returns c = entries_have_causes
