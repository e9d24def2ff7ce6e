use Rattle.mu_model_client_laws.proofs.Gone.{drops_stay}
use Rattle.mu_model_client_laws.proofs.laws.drops_stay.Goals as goal

pub returns : goal.returns
returns c = drops_stay
