use Rattle.std.proofs.Common.{refl}
use Rattle.mu_shown.proofs.Told.{adds_nothing, adds_as}
use Rattle.mu_shown.proofs.writing.put_list.Goals as goal

pub returns-in-Nothing : goal.returns-in-Nothing
returns-in-Nothing g c = adds_as (rw c.in-Nothing.is refl) (adds_nothing _ _ _)

pub returns-in-Numbers : goal.returns-in-Numbers
returns-in-Numbers g c = adds_as (rw c.in-Numbers.is refl) c.put_named.ensures
