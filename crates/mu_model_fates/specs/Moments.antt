-- The moment of a node is the greatest that it was handed.
use Rattle.std.specs.Prelude.{ℕ, ◌≡◌, max}
use Rattle.mu_model_node.specs.declared.NodeConfig.{NodeConfig}
use Rattle.mu_model_node.specs.Events.{NodeEvent, node_step, on_request}
use Rattle.mu_model_node.specs.NodeMessages.{Request}
use Rattle.mu_model_node.specs.NodeState.{NodeState, update_phase}
use Rattle.mu_model_node.specs.TimeTable.{on_time}

-- no request and no time event changes the moment that was handed in with it
abbrev pub RequestsKeepMoments : Type 0
RequestsKeepMoments = (s : NodeState) (from : ℕ) (request : Request) → (on_request s from request).next.moment ≡ s.moment

abbrev pub TimeKeepsMoments : Type 0
TimeKeepsMoments = (s : NodeState) → (on_time s (update_phase s)).next.moment ≡ s.moment

abbrev pub MomentsAreTheGreatest : Type 0
MomentsAreTheGreatest = (config : NodeConfig) (s : NodeState) (event : NodeEvent) (now : ℕ) → (node_step config s event now).next.moment ≡ max s.moment now
