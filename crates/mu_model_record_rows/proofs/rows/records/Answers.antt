use Rattle.mu_model_record_rows.proofs.Records.{each_record}
use Rattle.mu_model_record_rows.proofs.rows.records.Goals as goal

pub returns : goal.returns
returns c = each_record
