-- What a client reads from the octets of a node's packets is what the node is in.
use Rattle.std.specs.Prelude.{ℕ, ◌≡◌, ◌<◌, ◌^◌, List, length, map, take, drop, Option, Some, None, MatchOption}
use Rattle.std.specs.List.{AllByRecursion}
use Rattle.mu_model_image.specs.Meta.{Image, firmware_id, own_company}
use Rattle.mu_model_wire.specs.Laws.{AreOctets}
use Rattle.mu_model_wire.specs.Packet.{Packet}
use Rattle.mu_model_node.specs.declared.NodeConfig.{NodeConfig}
use Rattle.mu_model_node.specs.Events.{NodeEvent, PacketComes, TimeComes, node_step}
use Rattle.mu_model_node.specs.NodeMessages.{Request, OfUpdate, OfBlob, request_at}
use Rattle.mu_model_node.specs.NodeState.{Job, NodeState, update_number, update_phase}
use Rattle.mu_model_node.specs.Sound.{IsNodeState}
use Rattle.mu_model_node.specs.UpdateMessages.{ShownJob, UpdateStart, UpdateRequest, InformationGet, StartUpdate, UpdateReply, InformationStatus, MetadataStatus, UpdateStatus}
use Rattle.mu_model_node.specs.UpdateTable.{shown}
use Rattle.mu_model_client.specs.Answers.{Answer, FromUpdate, answer_at}

-- ---- numbers of messages

-- what an Update Start says is in the ranges of the grammar
pub record AreStartNumbers (u : UpdateStart) : Type 0 where
  pub ttl : u.ttl < 256
  pub base : u.base < 65536
  pub id : u.id < 2 ^ 64
  pub index : u.index < 256

abbrev pub AreUpdateNumbers : UpdateRequest → Type 0
AreUpdateNumbers (StartUpdate u) = AreStartNumbers u
AreUpdateNumbers (InformationGet first limit) = first < 256
AreUpdateNumbers _ = Unit {0}

abbrev pub AreRequestNumbers : Request → Type 0
AreRequestNumbers (OfUpdate request) = AreUpdateNumbers request
AreRequestNumbers (OfBlob request) = Unit {0}

abbrev pub AreNumbers : NodeEvent → Type 0
AreNumbers (PacketComes packet) = MatchOption (request_at packet.payload) (Unit {0}) AreRequestNumbers
AreNumbers TimeComes = Unit {0}

-- what octets say always is
abbrev pub OctetsSayNumbers : Type 0
OctetsSayNumbers = (payload : List ℕ) → AreOctets payload → MatchOption (request_at payload) (Unit {0}) AreRequestNumbers

-- ---- numbers of jobs

-- so are the numbers of a job
pub record AreJobNumbers (j : Job) : Type 0 where
  pub ttl : j.ttl < 256
  pub base : j.base < 65536
  pub id : j.id < 2 ^ 64
  pub index : j.index < 256

abbrev pub HasNumbers : Option Job → Type 0
HasNumbers None = Unit {0}
HasNumbers (Some j) = AreJobNumbers j

abbrev pub NumbersStay : Type 0
NumbersStay =
    (config : NodeConfig) (s : NodeState) (event : NodeEvent) (now : ℕ) → AreNumbers event → HasNumbers s.durable.job
    → HasNumbers (node_step config s event now).next.durable.job

-- ---- what is told

abbrev pub shown_in : Option Job → Option ShownJob
shown_in None = None
shown_in (Some j) = Some (shown j)

-- Firmware IDs of the active images
abbrev pub ids_of : List Image → List (List ℕ)
ids_of images = map (λ (image : Image). firmware_id own_company image.meta) images

-- an Update Status tells the phase and the job, an Information Status the active images from one on
abbrev pub IsSoOf : NodeState → UpdateReply → Type 0
IsSoOf s (UpdateStatus status phase job) = (phase ≡ update_number (update_phase s)) × (job ≡ shown_in s.durable.job)
IsSoOf s (InformationStatus count first ids) = (count ≡ length s.durable.images) × (limit : ℕ) × (ids ≡ take limit (drop first (ids_of s.durable.images)))
IsSoOf s (MetadataStatus status index) = Unit {0}

abbrev pub IsSo : NodeState → Option Answer → Type 0
IsSo s (Some (FromUpdate reply)) = IsSoOf s reply
IsSo s _ = Unit {0}

-- each packet that a node sends, read as a client reads it, tells what is so after the event
abbrev pub ToldIsSo : Type 0
ToldIsSo =
    (config : NodeConfig) (s : NodeState) (event : NodeEvent) (now : ℕ) → AreNumbers event → IsNodeState s → HasNumbers s.durable.job
    → AllByRecursion (λ (p : Packet). IsSo (node_step config s event now).next (answer_at p.payload)) (node_step config s event now).sent
