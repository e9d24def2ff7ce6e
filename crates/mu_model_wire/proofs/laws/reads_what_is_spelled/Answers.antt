use Rattle.mu_model_wire.proofs.Spelled.{message_read}
use Rattle.mu_model_wire.proofs.Taken.{message_take}
use Rattle.mu_model_wire.proofs.laws.reads_what_is_spelled.Goals as goal

pub returns : goal.returns
returns c = λ table bytes m holds octets. ((λ read. message_take table bytes m octets holds read), (λ both. message_read table bytes m holds both.0 both.1))
