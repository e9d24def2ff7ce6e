use Rattle.mu_model_distributor_laws.proofs.Records.{stocked_is_sound}
use Rattle.mu_model_distributor_laws.proofs.Steps.{events_keep, boots_are_sound, passed_are_sound, new_is_sound}
use Rattle.mu_model_distributor_laws.proofs.laws.states_are_sound.Goals as goal

pub returns-clause-events : goal.returns-clause-events
returns-clause-events c = events_keep c.states_are_sound.ensures.requests

pub returns-clause-boots : goal.returns-clause-boots
returns-clause-boots c = boots_are_sound

pub returns-clause-passed : goal.returns-clause-passed
returns-clause-passed c = passed_are_sound c.states_are_sound.ensures.requests

pub returns-clause-new : goal.returns-clause-new
returns-clause-new c = new_is_sound

pub returns-clause-stocked : goal.returns-clause-stocked
returns-clause-stocked c = stocked_is_sound
