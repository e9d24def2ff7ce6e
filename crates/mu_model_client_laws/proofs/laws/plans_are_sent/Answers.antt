use Rattle.mu_model_client_laws.proofs.Asked.{clients_send}
use Rattle.mu_model_client_laws.proofs.laws.plans_are_sent.Goals as goal

pub returns : goal.returns
returns c client image now h = clients_send client image now h
