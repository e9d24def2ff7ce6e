use Rattle.mu_script.proofs.Cuts.{nothing_left-pieces}
use Rattle.mu_script.proofs.cursor.Tokens.end.Goals as goal

pub returns-in-Some : goal.returns-in-Some
returns-in-Some c = rw (← c.self.view_is, c.in-Some.is) (nothing_left-pieces c.self.inside.at c.in-Some.field-0.now)
