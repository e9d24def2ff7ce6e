use Rattle.mu_model_distributor_rows.proofs.Worked.{each_bank, each_progress}
use Rattle.mu_model_distributor_rows.proofs.rows.banks.Goals as goal

pub returns-clause-banks : goal.returns-clause-banks
returns-clause-banks c = each_bank

pub returns-clause-progress : goal.returns-clause-progress
returns-clause-progress c = each_progress
