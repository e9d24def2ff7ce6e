use Rattle.mu_model_wire.specs.Reading.{message_at}
use Rattle.mu_model_wire.proofs.OneOrOther.{one_or_other}
use Rattle.mu_model_wire.proofs.laws.is_one_or_the_other.Goals as goal

pub returns : goal.returns
returns c = λ table bytes. one_or_other (message_at table bytes)
