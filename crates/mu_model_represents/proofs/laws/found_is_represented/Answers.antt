use Rattle.mu_model_represents.proofs.Found.{node_record}
use Rattle.mu_model_represents.proofs.laws.found_is_represented.Goals as goal

pub returns : goal.returns
returns c = record { node = node_record }
