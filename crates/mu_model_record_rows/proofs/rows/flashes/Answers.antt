use Rattle.mu_model_record_rows.proofs.Flashes.{each_flash}
use Rattle.mu_model_record_rows.proofs.rows.flashes.Goals as goal

pub returns : goal.returns
returns c = each_flash
