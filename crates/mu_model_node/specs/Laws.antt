-- What holds of a node's step, beside that one node among strangers is safe.
use Rattle.std.specs.Prelude.{ℕ, ◌≡◌, ◌≤◌, ◌+◌, ◌↔◌, ◌⊎◌, false, List, [], ◌∷◌, length, Option, Some, None, MatchOption, IsTrue}
use Rattle.std.specs.List.{AllByRecursion}
use Rattle.mu_model_wire.specs.Laws.{AreOctets}
use Rattle.mu_model_wire.specs.Reports.{has, complement}
use Rattle.mu_model_image.specs.Meta.{meta_from}
use Rattle.mu_model_node.specs.Slots.{Slots, received, missing, is_full, held_count}
use Rattle.mu_model_node.specs.BlobMessages.{Parameters, BlobRequest}
use Rattle.mu_model_node.specs.BlobServer.{Transfer, CurrentBlock, NextChunk, serving_phase, serving_after}
use Rattle.mu_model_node.specs.BlobTable.{on_blob}
use Rattle.mu_model_node.specs.UpdateMessages.{UpdateStart, StartUpdate, UpdateCancel, UpdateApply}
use Rattle.mu_model_node.specs.NodeMessages.{Request, OfUpdate, OfBlob, request_at}
use Rattle.mu_model_node.specs.FlashWork.{FlashWork, PutBlock}
use Rattle.mu_model_node.specs.NodeState.{Job, NodeDurable, NodeState, restarted, is_addressee, update_phase, update_number, transfer_of, server_of, blob_phase}
use Rattle.mu_model_node.specs.Events.{NodeEvent, PacketComes, TimeComes, on_request, node_step, node_passed, node_work}
use Rattle.mu_model_node.specs.TimeTable.{on_time}
use Rattle.mu_model_node.specs.Log.{LogEntry, Took, Asked, Active, Canceled, logged}
use Rattle.mu_model_node.specs.Sound.{IsNodeDurable, IsNodeState, IsPhase, RequestFits}
use Rattle.mu_model_node.specs.Safe.{left_after}
use Rattle.mu_model_node.specs.declared.NodeConfig.{NodeConfig}

-- ---- sound states

-- what a packet asks is in the ranges of the grammar
abbrev pub EventFits : NodeEvent → Type 0
EventFits (PacketComes packet) = MatchOption (request_at packet.payload) (Unit {0}) RequestFits
EventFits TimeComes = Unit {0}

-- what octets ask always is
abbrev pub OctetsAskInRange : Type 0
OctetsAskInRange = (payload : List ℕ) → AreOctets payload → MatchOption (request_at payload) (Unit {0}) RequestFits

-- from a sound state an event leads to a sound state
abbrev pub EventsKeepStatesSound : Type 0
EventsKeepStatesSound =
    (config : NodeConfig) (s : NodeState) (event : NodeEvent) (now : ℕ) → EventFits event → IsNodeState s
    → IsNodeState (node_step config s event now).next

-- so do a message that is taken, and time
abbrev pub RequestsKeepStatesSound : Type 0
RequestsKeepStatesSound = (s : NodeState) (from : ℕ) (request : Request) → RequestFits request → IsNodeState s → IsNodeState (on_request s from request).next

abbrev pub TimeKeepsStatesSound : Type 0
TimeKeepsStatesSound = (s : NodeState) → IsNodeState s → IsNodeState (on_time s (update_phase s)).next

-- and a boot does, from what it may find
abbrev pub BootsAreSound : Type 0
BootsAreSound = (d : NodeDurable) → IsNodeDurable d → IsNodeState (restarted d)

-- in a sound state what the BLOB phase has is sound
abbrev pub PhasesAreSound : Type 0
PhasesAreSound = (s : NodeState) → IsNodeState s → IsPhase (blob_phase s)

-- a node that waits for chunks has the job, its parameters and the block
pub record WaitsForChunks (s : NodeState) (t : Transfer) (p : Parameters) (c : CurrentBlock) : Type 0 where
  pub of : Job
  pub is : s.durable.job ≡ Some of
  pub transfer : t ≡ transfer_of of
  pub parameters : of.parameters ≡ Some p
  pub current : s.session.current ≡ Some c

abbrev pub ChunksAreOfTheJob : Type 0
ChunksAreOfTheJob = (s : NodeState) (t : Transfer) (p : Parameters) (c : CurrentBlock) → blob_phase s ≡ NextChunk t p c → WaitsForChunks s t p c

-- ---- the durable states that an event goes through

-- how many blocks are held
abbrev pub blocks_held : Option Job → ℕ
blocks_held None = 0
blocks_held (Some j) = held_count j.held

-- a record, or a mark
abbrev pub IsLater : NodeDurable → NodeDurable → Type 0
IsLater old new = (new.count ≡ old.count + 1) ⊎ ((new.count ≡ old.count) × (blocks_held new.job ≡ blocks_held old.job + 1))

-- the first is the old one, each later one follows a record or a mark, the last is the new one, and a boot may find each
abbrev pub PassesFrom : NodeDurable → NodeDurable → List NodeDurable → Type 0
PassesFrom old new [] = ⊥
PassesFrom old new (d ∷ []) = (d ≡ old) × (d ≡ new) × IsNodeDurable d
PassesFrom old new (d ∷ e ∷ ds) = (d ≡ old) × IsLater d e × IsNodeDurable d × PassesFrom e new (e ∷ ds)

abbrev pub StatesPassRising : Type 0
StatesPassRising =
    (config : NodeConfig) (s : NodeState) (event : NodeEvent) (now : ℕ) → EventFits event → IsNodeState s
    → PassesFrom s.durable (node_step config s event now).next.durable (node_passed config s event now)

-- ---- flash work

-- each operation leaves the old state or the new one
abbrev pub WorkLeavesOldOrNew : Type 0
WorkLeavesOldOrNew =
    (config : NodeConfig) (s : NodeState) (event : NodeEvent) (now : ℕ)
    → AllByRecursion (λ (d : NodeDurable). (d ≡ s.durable) ⊎ (d ≡ (node_step config s event now).next.durable)) (node_work config s event now)

-- and all of them the new one
abbrev pub WorkLeadsToTheNew : Type 0
WorkLeadsToTheNew =
    (config : NodeConfig) (s : NodeState) (event : NodeEvent) (now : ℕ) → EventFits event → IsNodeState s
    → left_after config s event now (length (node_work config s event now)) ≡ (node_step config s event now).next.durable

-- the pages of the block that is put
abbrev pub pages_put : FlashWork → ℕ
pages_put (PutBlock pages) = pages
pages_put _ = 0

-- an event costs at most the pages of a block and 5 operations; a block has at most 4 pages
abbrev pub WorkIsBounded : Type 0
WorkIsBounded =
    (config : NodeConfig) (s : NodeState) (event : NodeEvent) (now : ℕ) → EventFits event → IsNodeState s
    → (length (node_work config s event now) ≤ pages_put (node_step config s event now).work + 5)
    × (pages_put (node_step config s event now).work ≤ 4)

-- ---- what is told

-- the phase that a BLOB reply tells is that of the state after the message
abbrev pub ToldPhaseIsThePhase : Type 0
ToldPhaseIsThePhase =
    (s : NodeState) (from : ℕ) (request : BlobRequest)
    → blob_phase (on_request s from (OfBlob request)).next
    ≡ serving_phase (on_blob (server_of s) from request).session (serving_after (on_blob (server_of s) from request).change (server_of s).serving)

-- ---- missing and received

-- each number below the count is either missing or received, and none is both
abbrev pub MissingIsTheRest : Type 0
MissingIsTheRest = (slots : Slots) → (missing slots ≡ complement (received slots)) × (length (missing slots) ≡ length slots)

-- all are received exactly where none is missing
abbrev pub FullLacksNone : Type 0
FullLacksNone = (slots : Slots) → IsTrue (is_full slots) ↔ ((i : ℕ) → has (missing slots) i ≡ false)

-- ---- what the log says was the cause

-- an event is a packet that is addressed to the node and asks this
abbrev pub Asks : NodeConfig → NodeEvent → Request → Type 0
Asks config (PacketComes packet) request = IsTrue (is_addressee config packet) × (request_at packet.payload ≡ Some request)
Asks config TimeComes request = ⊥

-- the cause of an entry, in a state before it
abbrev pub Caused : NodeConfig → NodeState → NodeEvent → LogEntry → Type 0
-- an Update Start offered these metadata for this index with this BLOB ID
Caused config s event (Took id index meta) =
    (u : UpdateStart) × Asks config event (OfUpdate (StartUpdate u)) × (u.id ≡ id) × (u.index ≡ index) × (meta_from u.metadata ≡ Some meta)
-- an Update Apply came in Verification Succeeded
Caused config s event (Asked id) = Asks config event (OfUpdate UpdateApply) × (update_number (update_phase s) ≡ 4)
-- time passed in Applying Update
Caused config s event (Active index meta) = (event ≡ TimeComes) × (update_number (update_phase s) ≡ 6)
Caused config s event (Canceled id) = Asks config event (OfUpdate UpdateCancel)
Caused config s event _ = Unit {0}

abbrev pub EntriesHaveCauses : Type 0
EntriesHaveCauses =
    (config : NodeConfig) (s : NodeState) (event : NodeEvent) (now : ℕ)
    → AllByRecursion (Caused config s event) (logged s (node_step config s event now).next)
