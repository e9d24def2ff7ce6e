use Rattle.mu_model_client_laws.proofs.Chunks.{lists_go}
use Rattle.mu_model_client_laws.proofs.laws.lists.Goals as goal

pub returns : goal.returns
returns c client image now h = lists_go client image now h
