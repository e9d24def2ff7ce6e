use Rattle.mu_model_packets.proofs.Updaters.{updaters_send_fit}
use Rattle.mu_model_packets.proofs.laws.updaters_send_fit.Goals as goal

pub returns : goal.returns
returns c = updaters_send_fit c.requests_are_no_answers.ensures.opcodes
