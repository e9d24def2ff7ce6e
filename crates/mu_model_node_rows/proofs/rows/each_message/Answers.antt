use Rattle.mu_model_node_rows.proofs.Worked.{each_message_is}
use Rattle.mu_model_node_rows.proofs.rows.each_message.Goals as goal

pub returns : goal.returns
returns c = each_message_is
