use Rattle.mu_model_node_rows.proofs.Worked.{sessions}
use Rattle.mu_model_node_rows.proofs.rows.links.Goals as goal

pub returns : goal.returns
returns c = sessions
