use Rattle.mu_model_client_laws.proofs.Rising.{at_most_sixteen}
use Rattle.mu_model_client_laws.proofs.laws.few_packets.Goals as goal

pub returns : goal.returns
returns c client image now = at_most_sixteen client image now
