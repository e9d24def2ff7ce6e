use Rattle.mu_model_node_rows.proofs.Worked.{logs_are, operations, worn_are}
use Rattle.mu_model_node_rows.proofs.rows.log_and_flash.Goals as goal

pub returns-clause-logs : goal.returns-clause-logs
returns-clause-logs c = logs_are

pub returns-clause-operations : goal.returns-clause-operations
returns-clause-operations c = operations

pub returns-clause-worn : goal.returns-clause-worn
returns-clause-worn c = worn_are
