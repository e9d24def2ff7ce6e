use Rattle.mu_model_client_laws.proofs.WorkedInitiator.{initiates}
use Rattle.mu_model_client_laws.proofs.laws.worked_initiator.Goals as goal

pub returns : goal.returns
returns c = initiates
