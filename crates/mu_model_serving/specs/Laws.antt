-- The BLOB server of a node, and one that knows nothing of update phases: by the job's blocks alone blocks are missing, or all are held.
use Rattle.std.specs.Prelude.{ℕ, ◌≡◌, [], ◌∷◌, Option, Some, None}
use Rattle.mu_model_node.specs.BlobMessages.{BlobRequest, TransferCancel, TransferStatus}
use Rattle.mu_model_node.specs.declared.Link.{Link}
use Rattle.mu_model_node.specs.declared.Link.TheVariants.{Cut}
use Rattle.mu_model_node.specs.BlobServer.{Serving, NoJob, serving_of, Server, server_phase, Same}
use Rattle.mu_model_node.specs.BlobTable.{on_blob, on_server_time}
use Rattle.mu_model_node.specs.declared.NodeConfig.{NodeConfig}
use Rattle.mu_model_node.specs.declared.Stored.{Stored}
use Rattle.mu_model_node.specs.declared.Stored.TheVariants.{Refused}
use Rattle.mu_model_node.specs.NodeState.{Job, NodeDurable, NodeState, restarted, UpdatePhase, Failed, update_phase, transfer_of, server_of, blob_phase}
use Rattle.mu_model_node.specs.NodeMessages.{Request}
use Rattle.mu_model_node.specs.Events.{NodeEvent, on_request, node_step}
use Rattle.mu_model_node.specs.Sound.{IsNodeState}

-- ---- by the blocks alone

abbrev pub serving_alone : Option Job → Serving
serving_alone None = NoJob
serving_alone (Some j) = serving_of (transfer_of j)

abbrev pub server_alone : NodeState → Server
server_alone s = record { capacity = s.durable.capacity; serving = serving_alone s.durable.job; session = s.session; now = s.moment }

-- ---- the link of a job that was refused

-- where the verification failed the link is Cut
abbrev pub CutIfRefused : Stored → Link → Type 0
CutIfRefused Refused link = link ≡ Cut
CutIfRefused _ link = Unit {0}

abbrev pub HasItsLink : Option Job → Link → Type 0
HasItsLink None link = Unit {0}
HasItsLink (Some j) link = CutIfRefused j.stored link

abbrev pub IsLinked : NodeState → Type 0
IsLinked s = HasItsLink s.durable.job s.session.link

-- so it is after each boot, and after each event
abbrev pub BootsAreLinked : Type 0
BootsAreLinked = (d : NodeDurable) → IsLinked (restarted d)

abbrev pub EventsKeepLinked : Type 0
EventsKeepLinked = (config : NodeConfig) (s : NodeState) (event : NodeEvent) (now : ℕ) → IsLinked s → IsLinked (node_step config s event now).next

-- and after each message that is taken
abbrev pub RequestsKeepLinked : Type 0
RequestsKeepLinked = (s : NodeState) (from : ℕ) (request : Request) → IsLinked s → IsLinked (on_request s from request).next

-- ---- both are alike

-- not a Transfer Cancel in update phase 5
abbrev pub IsServed : UpdatePhase → BlobRequest → Type 0
IsServed (Failed j) (TransferCancel id) = ⊥
IsServed phase request = Unit {0}

abbrev pub ServesAlike : Type 0
ServesAlike =
    (s : NodeState) (from : ℕ) (request : BlobRequest) → IsNodeState s → IsLinked s → IsServed (update_phase s) request
    → on_blob (server_of s) from request ≡ on_blob (server_alone s) from request

abbrev pub WaitsAlike : Type 0
WaitsAlike =
    (s : NodeState) → IsNodeState s → IsLinked s
    → on_server_time (server_of s) (server_of s).serving ≡ on_server_time (server_alone s) (server_alone s).serving

abbrev pub PhasesAreAlike : Type 0
PhasesAreAlike = (s : NodeState) → IsNodeState s → IsLinked s → blob_phase s ≡ server_phase (server_alone s)

-- and a Transfer Cancel in update phase 5 is answered as by an inactive server, and changes nothing
abbrev pub CancelsInFailed : Type 0
CancelsInFailed =
    (s : NodeState) (from id : ℕ) (j : Job) → update_phase s ≡ Failed j
    → on_blob (server_of s) from (TransferCancel id)
    ≡ record { session = s.session; change = Same; replies = (from, TransferStatus 0 0 0 None None []) ∷ [] }
