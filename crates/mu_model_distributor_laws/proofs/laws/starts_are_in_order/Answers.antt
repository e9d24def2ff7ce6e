use Rattle.mu_model_distributor_laws.proofs.Starts.{starts_in_order, new_is_unused, stocked_is_unused}
use Rattle.mu_model_distributor_laws.proofs.laws.starts_are_in_order.Goals as goal

pub returns-clause-order : goal.returns-clause-order
returns-clause-order c = starts_in_order

pub returns-clause-new : goal.returns-clause-new
returns-clause-new c = new_is_unused

pub returns-clause-stocked : goal.returns-clause-stocked
returns-clause-stocked c = stocked_is_unused
