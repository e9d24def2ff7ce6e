use Rattle.std.proofs.Common.{refl}
use Rattle.mu_model_record.specs.Record.{zeros}
use Rattle.mu_record.proofs.entry.entry_octets.Goals as goal

pub returns-in-Empty : goal.returns-in-Empty
unfolding zeros
returns-in-Empty c = rw c.in-Empty.is refl
