use Rattle.mu_access.proofs.Back.{tells_all}
use Rattle.mu_access.proofs.laws.view_tells_all.Goals as goal

pub returns : goal.returns
returns c = tells_all c.view_tells_all.ensures c.view_tells_all-2.ensures c.view_tells_all-3.ensures
