use Rattle.mu_model_client_laws.proofs.Fields.{field_is_read}
use Rattle.mu_model_client_laws.proofs.laws.fields_are_read.Goals as goal

pub returns : goal.returns
returns c set = field_is_read set
