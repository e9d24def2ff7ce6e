use Rattle.mu_model_script_rows.proofs.Worked as worked
use Rattle.mu_model_script_rows.proofs.rows.lines.Goals as goal

pub returns : goal.returns
returns c = worked.lines
