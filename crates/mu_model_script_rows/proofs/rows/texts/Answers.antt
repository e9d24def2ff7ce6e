use Rattle.mu_model_script_rows.proofs.Worked as worked
use Rattle.mu_model_script_rows.proofs.rows.texts.Goals as goal

pub returns : goal.returns
returns c = worked.texts
