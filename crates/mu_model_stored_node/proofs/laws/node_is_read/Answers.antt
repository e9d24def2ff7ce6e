use Rattle.mu_model_stored_node.proofs.NodeIn.{note_read, node_read}
use Rattle.mu_model_stored_node.proofs.laws.node_is_read.Goals as goal

pub returns-clause-note : goal.returns-clause-note
returns-clause-note c banks note octets is = note_read banks note octets is

pub returns-clause-node : goal.returns-clause-node
returns-clause-node c s d is = node_read c.parts.ensures.read s d is
