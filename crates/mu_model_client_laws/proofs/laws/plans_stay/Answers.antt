use Rattle.mu_model_client_laws.proofs.Plans.{plans_stay}
use Rattle.mu_model_client_laws.proofs.laws.plans_stay.Goals as goal

pub returns : goal.returns
returns c = plans_stay
