use Rattle.mu_shown.proofs.Told.{adds_then, added}
use Rattle.mu_shown.proofs.writing.put_bare.Goals as goal

pub returns : goal.returns
returns g c = added _ _ _ _ _ _ _ (adds_then c.put-named.ensures c.put.ensures)
