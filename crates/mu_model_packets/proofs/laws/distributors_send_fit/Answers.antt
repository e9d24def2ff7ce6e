use Rattle.mu_model_packets.proofs.Distributors.{distributors_send_fit}
use Rattle.mu_model_packets.proofs.laws.distributors_send_fit.Goals as goal

pub returns : goal.returns
returns c = distributors_send_fit c.opcodes_are_kept.ensures.one c.opcodes_are_kept.ensures.two c.requests_are_no_answers.ensures.opcodes
