use Rattle.mu_model_client_laws.proofs.Sound.{begins_sound, events_sound}
use Rattle.mu_model_client_laws.proofs.laws.clients_are_sound.Goals as goal

pub returns-clause-begins : goal.returns-clause-begins
returns-clause-begins c = begins_sound

pub returns-clause-events : goal.returns-clause-events
returns-clause-events c = events_sound
