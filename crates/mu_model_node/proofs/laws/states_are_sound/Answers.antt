use Rattle.mu_model_node.proofs.Phases.{phases_are_sound}
use Rattle.mu_model_node.proofs.NodeSound.{asks_soundly, passes_soundly}
use Rattle.mu_model_node.proofs.Steps.{events_keep, boots_are_sound}
use Rattle.mu_model_node.proofs.laws.states_are_sound.Goals as goal

pub returns-clause-events : goal.returns-clause-events
returns-clause-events c = events_keep

pub returns-clause-boots : goal.returns-clause-boots
returns-clause-boots c = boots_are_sound

pub returns-clause-phases : goal.returns-clause-phases
returns-clause-phases c = phases_are_sound

pub returns-clause-requests : goal.returns-clause-requests
returns-clause-requests c = λ s from request fits h. (asks_soundly s from request fits h).state

pub returns-clause-time : goal.returns-clause-time
returns-clause-time c = λ s h. (passes_soundly s h).state
