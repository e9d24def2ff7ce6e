use Rattle.mu_model_represents_rows.proofs.DistributorRecords as worked
use Rattle.mu_model_represents_rows.proofs.rows.distributor_records.Goals as goal

pub returns : goal.returns
returns c = worked.distributor_records
