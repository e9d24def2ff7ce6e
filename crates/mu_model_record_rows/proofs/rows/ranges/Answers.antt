use Rattle.mu_model_record_rows.proofs.Ranges.{each_range}
use Rattle.mu_model_record_rows.proofs.rows.ranges.Goals as goal

pub returns : goal.returns
returns c = each_range
