use Rattle.std.proofs.Common.{refl}
use Rattle.mu_model_record.specs.Record.{zeros}
use Rattle.mu_note.proofs.blob.blob_octets.Goals as goal

pub returns-in-None : goal.returns-in-None
unfolding zeros
returns-in-None c = rw c.in-None.is refl
