use Rattle.mu_shown.proofs.Told.{adds_then}
use Rattle.mu_shown.proofs.writing.put_named.Goals as goal

pub returns : goal.returns
returns g c = adds_then c.put_name-started.ensures c.put_entries.ensures
