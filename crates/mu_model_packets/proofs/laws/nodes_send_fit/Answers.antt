use Rattle.mu_model_packets.proofs.Nodes.{nodes_send_fit}
use Rattle.mu_model_packets.proofs.laws.nodes_send_fit.Goals as goal

pub returns : goal.returns
returns c = nodes_send_fit c.opcodes_are_kept.ensures.one c.opcodes_are_kept.ensures.two
