use Rattle.mu_shown.proofs.Told.{adds_then}
use Rattle.mu_shown.proofs.writing.put_other.Goals as goal

pub returns : goal.returns
returns g c = adds_then c.put-colon.ensures c.put_value.ensures
