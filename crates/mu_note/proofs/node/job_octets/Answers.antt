use Rattle.std.proofs.Common.{refl}
use Rattle.mu_model_record.specs.Record.{zeros}
use Rattle.mu_note.proofs.node.job_octets.Goals as goal

pub returns-in_default : goal.returns-in_default
unfolding zeros
returns-in_default c = rw c.in_default.is refl
