use Rattle.mu_model_client_rows.proofs.Worked.{each_initiator}
use Rattle.mu_model_client_rows.proofs.rows.initiators.Goals as goal

pub returns : goal.returns
returns c = each_initiator
