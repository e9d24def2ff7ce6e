use Rattle.mu_model_distributor_rows.proofs.Worked.{distributions, uploads}
use Rattle.mu_model_distributor_rows.proofs.rows.runs.Goals as goal

pub returns-clause-distributions : goal.returns-clause-distributions
returns-clause-distributions c = distributions

pub returns-clause-uploads : goal.returns-clause-uploads
returns-clause-uploads c = uploads
