use Rattle.mu_model_mesh_rows.proofs.Settled.{is_settled}
use Rattle.mu_model_mesh_rows.proofs.rows.settles.Goals as goal

pub returns : goal.returns
returns c = is_settled
