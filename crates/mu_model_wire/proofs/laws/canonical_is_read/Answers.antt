use Rattle.mu_model_wire.proofs.Spelled.{message_again}
use Rattle.mu_model_wire.proofs.laws.canonical_is_read.Goals as goal

pub returns : goal.returns
returns c = message_again
