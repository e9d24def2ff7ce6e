use Rattle.mu_model_refusals.proofs.Messages.{value_is}
use Rattle.mu_model_refusals.proofs.laws.value_is_of_its_field.Goals as goal

pub returns : goal.returns
returns c = value_is
