use Rattle.mu_model_distributor_laws.proofs.Planned.{events_plan, boots_plan}
use Rattle.mu_model_distributor_laws.proofs.Offered.{starts_offered}
use Rattle.mu_model_distributor_laws.proofs.Counters.{counters_rise}
use Rattle.mu_model_distributor_laws.proofs.laws.starts_are_offered.Goals as goal

pub returns-clause-events : goal.returns-clause-events
returns-clause-events c = events_plan

pub returns-clause-boots : goal.returns-clause-boots
returns-clause-boots c = boots_plan

pub returns-clause-offered : goal.returns-clause-offered
returns-clause-offered c = starts_offered

pub returns-clause-counters : goal.returns-clause-counters
returns-clause-counters c = counters_rise
