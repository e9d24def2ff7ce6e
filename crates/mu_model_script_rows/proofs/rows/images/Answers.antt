use Rattle.mu_model_script_rows.proofs.Worked as worked
use Rattle.mu_model_script_rows.proofs.rows.images.Goals as goal

pub returns : goal.returns
returns c = worked.images
