use Rattle.mu_model_represents_rows.proofs.NodeRecords as worked
use Rattle.mu_model_represents_rows.proofs.rows.node_records.Goals as goal

pub returns : goal.returns
returns c = worked.node_records
