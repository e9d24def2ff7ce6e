use Rattle.mu_model_client_bounds.proofs.Begins.{begins_bounded}
use Rattle.mu_model_client_bounds.proofs.Events.{events_bounded}
use Rattle.mu_model_client_bounds.proofs.Runs.{runs_are_bounded}
use Rattle.mu_model_client_bounds.proofs.laws.clients_are_bounded.Goals as goal

pub returns-clause-begins : goal.returns-clause-begins
returns-clause-begins c = begins_bounded

pub returns-clause-events : goal.returns-clause-events
returns-clause-events c = events_bounded

pub returns-clause-runs : goal.returns-clause-runs
returns-clause-runs c = runs_are_bounded c.clients_are_sound.ensures.begins c.clients_are_sound.ensures.events
