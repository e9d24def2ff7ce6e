use Rattle.mu_model_wire.proofs.ReportLaws.{one_set, in_order, of_a_set}
use Rattle.mu_model_wire.proofs.reports.reports.Goals as goal

pub returns-clause-one_set : goal.returns-clause-one_set
returns-clause-one_set c = one_set

pub returns-clause-in_order : goal.returns-clause-in_order
returns-clause-in_order c = in_order

pub returns-clause-of_a_set : goal.returns-clause-of_a_set
returns-clause-of_a_set c = of_a_set
