use Rattle.mu_model_packets.proofs.Packets.{octets_say_fit}
use Rattle.mu_model_packets.proofs.laws.octets_say_fit.Goals as goal

pub returns : goal.returns
returns c = octets_say_fit c.octets_say_in_range.ensures
