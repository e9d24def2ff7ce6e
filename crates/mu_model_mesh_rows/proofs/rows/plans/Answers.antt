use Rattle.mu_model_mesh_rows.proofs.Plans.{plans_have_their_fields}
use Rattle.mu_model_mesh_rows.proofs.rows.plans.Goals as goal

pub returns : goal.returns
returns c = plans_have_their_fields
