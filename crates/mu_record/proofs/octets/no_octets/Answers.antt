use Rattle.std.proofs.Common.{refl}
use Rattle.mu_model_record.specs.Record.{zeros}
use Rattle.mu_record.proofs.octets.no_octets.Goals as goal

pub returns : goal.returns
unfolding zeros
returns c = refl
