use Rattle.mu_model_mesh_runs.proofs.Worked.{operations_are, worn_is}
use Rattle.mu_model_mesh_runs.proofs.laws.worked_operations.Goals as goal

pub returns-clause-operations : goal.returns-clause-operations
returns-clause-operations c = operations_are

pub returns-clause-worn : goal.returns-clause-worn
returns-clause-worn c = worn_is
