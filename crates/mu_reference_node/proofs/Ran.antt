-- An event at a sound node.
use Rattle.std.proofs.Common.{◌≡◌, ℕ, sym, subst}
use Rattle.mu_model_node.specs.NodeState.{NodeState, update_phase}
use Rattle.mu_model_node.specs.NodeMessages.{Request}
use Rattle.mu_model_node.specs.TimeTable.{on_time}
use Rattle.mu_model_node.specs.Events.{at_moment, on_request}
use Rattle.mu_model_node.specs.Sound.{RequestFits, IsNodeState}
use Rattle.mu_model_node.specs.Laws.{TimeKeepsStatesSound, RequestsKeepStatesSound}

pub moment_sound : (s m : NodeState) (now : ℕ) → IsNodeState s → m ≡ at_moment s now → IsNodeState m
moment_sound s m now h e = subst IsNodeState (sym e) (record { durable = h.durable; fresh = h.fresh; current = h.current })

pub time_sound : (m new : NodeState) → TimeKeepsStatesSound → IsNodeState m → new ≡ (on_time m (update_phase m)).next → IsNodeState new
time_sound m new law h e = subst IsNodeState (sym e) (law m h)

pub request_sound : (m new : NodeState) (from : ℕ) (request : Request) → RequestsKeepStatesSound → RequestFits request → IsNodeState m → new ≡ (on_request m from request).next → IsNodeState new
request_sound m new from request law fits h e = subst IsNodeState (sym e) (law m from request fits h)
