use Rattle.mu_report.proofs.Bits.{bound_is}
use Rattle.mu_report.proofs.set.NumberSet.bound.Goals as goal

pub returns-clause-bound : goal.returns-clause-bound
returns-clause-bound c = bound_is c.self.inside.words c.self.inside.bound _ c.self.view_is
