use Rattle.mu_model_mesh_worked.proofs.Completed.{a_script_completes}
use Rattle.mu_model_mesh_worked.proofs.laws.a_script_completes.Goals as goal

pub returns : goal.returns
returns c = a_script_completes c.worlds_of_scripts.ensures.one_node c.settles.ensures c.scripts_complete.ensures.push
