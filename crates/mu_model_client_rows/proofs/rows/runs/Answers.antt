use Rattle.mu_model_client_rows.proofs.Worked.{rounds_and_chunks, pull_and_rest}
use Rattle.mu_model_client_rows.proofs.rows.runs.Goals as goal

pub returns-clause-rounds : goal.returns-clause-rounds
returns-clause-rounds c = rounds_and_chunks

pub returns-clause-rest : goal.returns-clause-rest
returns-clause-rest c = pull_and_rest
