-- What a distributor shows of a node was reached by the node.
use Rattle.std.specs.Prelude.{ℕ, ◌≡◌, ◌≤◌, ◌⊎◌, List, [], ◌∷◌, ◌++◌, Option, Some, None, true}
use Rattle.std.specs.List.{AllByRecursion}
pub use Rattle.mu_model_node.specs.Safe.{come_by, come_in}
use Rattle.mu_model_image.specs.declared.Meta.{Meta}
use Rattle.mu_model_image.specs.Meta.{firmware_id, own_company}
use Rattle.mu_model_wire.specs.Packet.{Packet}
use Rattle.mu_model_node.specs.declared.NodeConfig.{NodeConfig}
use Rattle.mu_model_node.specs.Events.{NodeEvent, PacketComes}
use Rattle.mu_model_node.specs.Log.{LogEntry, Reached}
use Rattle.mu_model_node.specs.NodeState.{NodeDurable, restarted as node_restarted}
use Rattle.mu_model_node.specs.Safe.{Happening, Done, Torn, InOrder as LogOrder, log_after}
use Rattle.mu_model_node.specs.Sound.{IsNodeDurable}
use Rattle.mu_model_client.specs.Answers.{Answer}
use Rattle.mu_model_client.specs.Rows.{Row, is_reported, transfer_canceled, apply_success, apply_failed, phase_unknown}
use Rattle.mu_model_distributor.specs.DistState.{Receiver, DistDurable, transfer_id, receiver_of}
use Rattle.mu_model_distributor.specs.DistEvents.{dist_step, live}
use Rattle.mu_model_distributor.specs.Runs.{state_after}
use Rattle.mu_model_distributor.specs.Sound.{IsDistDurable}
use Rattle.mu_model_distributor_laws.specs.Laws.{EventFits}
use Rattle.mu_model_distributor_laws.specs.RunLaws.{HappeningFits}
use Rattle.mu_model_distributor_laws.specs.RowsTold.{Heard, heard_in, InOrder, HasFound}
use Rattle.mu_model_distributor_laws.specs.Lists.{list_at}
use Rattle.mu_model_told.specs.Laws.{HasNumbers}
use Rattle.mu_model_told.specs.Reached.{HappeningFits as NodeHappeningFits, WasReached, IdIsSafe, sent_in}

-- ---- what comes from the node

-- one of them has these octets
abbrev pub HasPayload : List ℕ → List Packet → Type 0
HasPayload payload [] = ⊥
HasPayload payload (p ∷ packets) = (p.payload ≡ payload) ⊎ HasPayload payload packets

-- what came from an address was sent there; how often, how late and in which order it came is open
abbrev pub ComesFrom : ℕ → List Packet → List Packet → Type 0
ComesFrom address sent come = AllByRecursion (λ (p : Packet). p.from ≡ address → HasPayload p.payload sent) come

-- ---- a node and a distributor

-- what each had when it began, and what happened to each since
pub record Both : Type 0 where
  pub config : NodeConfig
  pub node : NodeDurable
  pub to_node : List Happening
  -- the distributor's address
  pub address : ℕ
  pub distributor : DistDurable
  -- slots after its record that it could still use
  pub fresh : ℕ
  pub to_distributor : List Happening

pub record AreBoth (b : Both) : Type 0 where
  pub node : IsNodeDurable b.node
  pub numbers : HasNumbers b.node.job
  pub to_node : AllByRecursion NodeHappeningFits b.to_node
  pub distributor : IsDistDurable b.distributor
  pub fresh : b.fresh ≤ 3
  pub to_distributor : AllByRecursion HappeningFits b.to_distributor
  pub comes : ComesFrom b.config.address (sent_in b.config (node_restarted b.node) b.to_node) (come_in b.to_distributor)

abbrev pub log_of : Both → List LogEntry
log_of b = log_after b.config (node_restarted b.node) b.to_node

abbrev pub heard_of : Both → List Heard
heard_of b = heard_in b.address (live b.address b.distributor b.fresh) b.to_distributor

-- the distributor as it stands
abbrev pub durable_of : Both → DistDurable
durable_of b = (state_after b.address (live b.address b.distributor b.fresh) b.to_distributor).durable

-- ---- what a row shows

-- the metadata were offered under this BLOB ID when something was heard, so by a distribution that went on then
abbrev pub WasOffered : Both → ℕ → Meta → Type 0
WasOffered b id meta = (from : ℕ) × (answer : Answer) × InOrder (record { from = from; answer = answer; id = id; offer = meta } ∷ []) (heard_of b)

-- the node has an image of this Firmware ID: one that it had, or a whole one that it took, verified, was asked for and made active
pub record HasOffered (b : Both) (id index : ℕ) : Type 0 where
  pub meta : Meta
  pub offered : WasOffered b id meta
  pub active : IdIsSafe b.node (log_of b) index (firmware_id own_company meta)

-- why a row of the node is in its phase; `found` where it is so since the distributor's run began, in the same distribution
pub data RowIsReached (b : Both) (r : Receiver) : Type 0 where
  -- a verdict of the distributor's own
  verdict : ((r.phase ≡ transfer_canceled) ⊎ ((r.phase ≡ apply_failed) ⊎ (r.phase ≡ phase_unknown))) → RowIsReached b r
  found : (durable_of b).counter ≡ b.distributor.counter → HasFound b.distributor.receivers r.address r.index r.phase → RowIsReached b r
  -- the node reached the phase, with the BLOB ID of this distribution
  reached : is_reported r.phase ≡ true → WasReached b.node (log_of b) (transfer_id b.address (durable_of b)) r.phase → RowIsReached b r
  -- the node reached a phase with the BLOB ID of this distribution, and has what is offered
  active : (phase : ℕ) → r.phase ≡ apply_success → is_reported phase ≡ true → WasReached b.node (log_of b) (transfer_id b.address (durable_of b)) phase
      → HasOffered b (transfer_id b.address (durable_of b)) r.index → RowIsReached b r
  active_since : (phase : ℕ) → r.phase ≡ apply_success → (durable_of b).counter ≡ b.distributor.counter → is_reported phase ≡ true → HasFound b.distributor.receivers r.address r.index phase
      → HasOffered b (transfer_id b.address (durable_of b)) r.index → RowIsReached b r

abbrev pub RowsAreReached : Type 0
RowsAreReached =
    (b : Both) → AreBoth b
    → AllByRecursion (λ (r : Receiver). r.address ≡ b.config.address → RowIsReached b r) (durable_of b).receivers

-- ---- what a list shows

abbrev pub ListIsReached : Both → Option (List Row) → Type 0
ListIsReached b None = Unit {0}
ListIsReached b (Some shown) = AllByRecursion (λ (row : Row). row.address ≡ b.config.address → RowIsReached b (receiver_of row)) shown

-- each Receivers List that the distributor then sends
abbrev pub ListsAreReached : Type 0
ListsAreReached =
    (b : Both) (event : NodeEvent) (now : ℕ) → AreBoth b → EventFits event
    → AllByRecursion (λ (p : Packet). ListIsReached b (list_at p.payload))
    (dist_step b.address (state_after b.address (live b.address b.distributor b.fresh) b.to_distributor) event now).sent

-- ---- from new ones on

-- where nothing was found, each phase that isn't a verdict stands in the node's log
pub data IsShownTruly (b : Both) (r : Receiver) : Type 0 where
  ruled : ((r.phase ≡ transfer_canceled) ⊎ ((r.phase ≡ apply_failed) ⊎ (r.phase ≡ phase_unknown))) → IsShownTruly b r
  logged : is_reported r.phase ≡ true → LogOrder (Reached (transfer_id b.address (durable_of b)) r.phase ∷ []) (log_of b) → IsShownTruly b r
  updated : (phase : ℕ) → r.phase ≡ apply_success → is_reported phase ≡ true → LogOrder (Reached (transfer_id b.address (durable_of b)) phase ∷ []) (log_of b)
      → HasOffered b (transfer_id b.address (durable_of b)) r.index → IsShownTruly b r

-- a distributor without receivers and a node without a job, as each is when it is made
abbrev pub AreNew : Both → Type 0
AreNew b = (b.distributor.receivers ≡ []) × (b.node.job ≡ None)

abbrev pub ListIsTrue : Both → Option (List Row) → Type 0
ListIsTrue b None = Unit {0}
ListIsTrue b (Some shown) = AllByRecursion (λ (row : Row). row.address ≡ b.config.address → IsShownTruly b (receiver_of row)) shown

abbrev pub NewListsAreTrue : Type 0
NewListsAreTrue =
    (b : Both) (event : NodeEvent) (now : ℕ) → AreBoth b → AreNew b → EventFits event
    → AllByRecursion (λ (p : Packet). ListIsTrue b (list_at p.payload))
    (dist_step b.address (state_after b.address (live b.address b.distributor b.fresh) b.to_distributor) event now).sent
