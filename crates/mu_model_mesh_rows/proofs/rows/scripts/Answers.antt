use Rattle.mu_model_mesh_rows.proofs.Worked.{each_script}
use Rattle.mu_model_mesh_rows.proofs.rows.scripts.Goals as goal

pub returns : goal.returns
returns c = each_script
