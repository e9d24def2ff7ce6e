use Rattle.mu_model_mesh_rows.proofs.Worked.{each_refusal, each_limit}
use Rattle.mu_model_mesh_rows.proofs.rows.refusals.Goals as goal

pub returns-clause-scripts : goal.returns-clause-scripts
returns-clause-scripts c = each_refusal

pub returns-clause-limits : goal.returns-clause-limits
returns-clause-limits c = each_limit
