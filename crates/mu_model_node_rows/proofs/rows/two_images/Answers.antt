use Rattle.mu_model_node_rows.proofs.Worked.{pairs}
use Rattle.mu_model_node_rows.proofs.rows.two_images.Goals as goal

pub returns : goal.returns
returns c = pairs
