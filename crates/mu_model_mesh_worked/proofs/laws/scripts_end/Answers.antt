use Rattle.mu_model_mesh_worked.proofs.Ended.{scripts_end}
use Rattle.mu_model_mesh_worked.proofs.laws.scripts_end.Goals as goal

pub returns : goal.returns
returns c = scripts_end
