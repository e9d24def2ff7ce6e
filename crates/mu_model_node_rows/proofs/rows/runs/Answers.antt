use Rattle.mu_model_node_rows.proofs.Worked.{block_by_block, update_by_update}
use Rattle.mu_model_node_rows.proofs.rows.runs.Goals as goal

pub returns-clause-blocks : goal.returns-clause-blocks
returns-clause-blocks c = block_by_block

pub returns-clause-updates : goal.returns-clause-updates
returns-clause-updates c = update_by_update
