use Rattle.mu_shown.proofs.Told.{adds_then}
use Rattle.mu_shown.proofs.writing.put_name.Goals as goal

pub returns : goal.returns
returns g c = adds_then (adds_then c.put-blank.ensures c.put-named.ensures) c.put.ensures
