use Rattle.mu_model_distributor_laws.proofs.RunLaws.{runs_are_in_order, no_number_is_lost}
use Rattle.mu_model_distributor_laws.proofs.laws.runs_are_in_order.Goals as goal

pub returns-clause-order : goal.returns-clause-order
returns-clause-order c = runs_are_in_order c.states_are_sound.ensures.requests

pub returns-clause-numbers : goal.returns-clause-numbers
returns-clause-numbers c = no_number_is_lost c.states_are_sound.ensures.requests
