use Rattle.mu_model_serving.proofs.Alike.{serves_alike, waits_alike, phases_alike, cancels_in_failed}
use Rattle.mu_model_serving.proofs.Linked.{boots_linked, events_linked, request_linked}
use Rattle.mu_model_serving.proofs.laws.nodes_serve_by_their_blocks.Goals as goal

pub returns-clause-boots : goal.returns-clause-boots
returns-clause-boots c = boots_linked

pub returns-clause-events : goal.returns-clause-events
returns-clause-events c = events_linked

pub returns-clause-requests : goal.returns-clause-requests
returns-clause-requests c = request_linked

pub returns-clause-messages : goal.returns-clause-messages
returns-clause-messages c = serves_alike

pub returns-clause-time : goal.returns-clause-time
returns-clause-time c = waits_alike

pub returns-clause-phases : goal.returns-clause-phases
returns-clause-phases c = phases_alike

pub returns-clause-cancels : goal.returns-clause-cancels
returns-clause-cancels c = cancels_in_failed
