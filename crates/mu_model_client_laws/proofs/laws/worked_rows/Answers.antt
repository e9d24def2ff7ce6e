use Rattle.mu_model_client_laws.proofs.Worked.{repairs, completes, goes_on, cancels}
use Rattle.mu_model_client_laws.proofs.laws.worked_rows.Goals as goal

pub returns-clause-repairs : goal.returns-clause-repairs
returns-clause-repairs c = repairs

pub returns-clause-completes : goal.returns-clause-completes
returns-clause-completes c = completes

pub returns-clause-goes_on : goal.returns-clause-goes_on
returns-clause-goes_on c = goes_on

pub returns-clause-cancels : goal.returns-clause-cancels
returns-clause-cancels c = cancels
