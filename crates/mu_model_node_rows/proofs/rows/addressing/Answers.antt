use Rattle.mu_model_node_rows.proofs.Worked.{addresses, moments}
use Rattle.mu_model_node_rows.proofs.rows.addressing.Goals as goal

pub returns-clause-addresses : goal.returns-clause-addresses
returns-clause-addresses c = addresses

pub returns-clause-moments : goal.returns-clause-moments
returns-clause-moments c = moments
