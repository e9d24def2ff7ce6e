use Rattle.mu_model_wire.proofs.SetLaws.{are_those, rise, others, rest, both}
use Rattle.mu_model_wire.proofs.reports.sets.Goals as goal

pub returns-clause-members : goal.returns-clause-members
returns-clause-members c = are_those

pub returns-clause-rising : goal.returns-clause-rising
returns-clause-rising c = rise

pub returns-clause-complement : goal.returns-clause-complement
returns-clause-complement c = others

pub returns-clause-partition : goal.returns-clause-partition
returns-clause-partition c = rest

pub returns-clause-both : goal.returns-clause-both
returns-clause-both c = both
