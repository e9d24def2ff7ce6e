-- A standalone updater of a script: a client of one update and the image that it sends. It keeps nothing on a flash, so no cut and no
-- torn write can come to it (this profile).
use Rattle.std.specs.Prelude.{ℕ, ◌+◌, ◌*◌, ◌^◌, ◌==◌, Bool, true, List, [], ◌∷◌, ◌++◌, length, map, Option, Some, None, if◌then◌else◌}
use Rattle.std.specs.List.{flat_map}
use Rattle.mu_model_image.specs.Meta.{Image, image_of}
use Rattle.mu_model_wire.specs.Packet.{Packet}
use Rattle.mu_model_node.specs.Events.{NodeEvent, PacketComes, TimeComes}
use Rattle.mu_model_node.specs.NodeMessages.{Request, OfUpdate}
use Rattle.mu_model_node.specs.UpdateMessages.{UpdateStart, StartUpdate}
use Rattle.mu_model_client.specs.declared.Plan.{Plan}
use Rattle.mu_model_client.specs.Answers.{Answer, answer_at}
use Rattle.mu_model_client.specs.Begin.{start}
use Rattle.mu_model_client.specs.Client.{Client}
use Rattle.mu_model_client.specs.Due.{due}
use Rattle.mu_model_client.specs.Packets.{ClientStep, client_packet, client_time}

pub record Updater : Type 0 where
  pub client : Client
  pub image : Image

-- an update by this plan, with these octets for its chunks, of these addresses, each with the index of its image
abbrev pub new_updater : Plan → Image → List (ℕ × ℕ) → Updater
new_updater plan image to = record { client = start plan to; image = image }

-- ---- the line of a script

-- `updater A G ID TTL BASE MODE LOG CHUNK VERSION CONTENT R,R,..`
pub record UpdaterLine : Type 0 where
  -- the updater's unicast address
  pub address : ℕ
  -- the group that chunks go to, or 0
  pub group : ℕ
  pub id : ℕ
  pub ttl : ℕ
  pub base : ℕ
  -- 1 push or 2 pull
  pub mode : ℕ
  pub log : ℕ
  -- octets of a chunk
  pub chunk : ℕ
  pub version : ℕ
  pub content : List ℕ
  -- unicast addresses
  pub receivers : List ℕ

-- the BLOB ID of a script's updater (this profile)
abbrev pub blob_id : (address id : ℕ) → ℕ
blob_id address id = address * 2 ^ 48 + id

-- what is verified is applied at once
abbrev pub plan_of : UpdaterLine → Plan
plan_of line = record {
  sending = record {
    from = line.address;
    id = blob_id line.address line.id;
    size = length line.content;
    log = line.log;
    chunk = line.chunk;
    mode = line.mode;
    group = line.group;
    ttl = line.ttl;
    base = line.base;
  };
  meta = (image_of line.version line.content).meta;
  apply = true;
}

-- the first image of each receiver is updated
abbrev pub first_image : ℕ → ℕ × ℕ
first_image address = (address, 0)

abbrev pub updater_of : UpdaterLine → Updater
updater_of line = new_updater (plan_of line) (image_of line.version line.content) (map first_image line.receivers)

-- ---- events

pub record UpdaterStep : Type 0 where
  pub next : Updater
  pub sent : List Packet
  pub handled : Bool

abbrev pub stepped : Updater → ClientStep → UpdaterStep
stepped u step = record { next = record u { client = step.next }; sent = step.sent; handled = step.handled }

-- an event at an updater, at a moment
abbrev pub updater_step : Updater → NodeEvent → (now : ℕ) → UpdaterStep
updater_step u (PacketComes packet) now = stepped u (client_packet u.client packet now)
updater_step u TimeComes now = stepped u (client_time u.client u.image.octets now)

-- what a time event sends, each with its destination
abbrev pub asked_by : Updater → NodeEvent → (now : ℕ) → List (ℕ × Request)
asked_by u (PacketComes packet) now = []
asked_by u TimeComes now = (due u.client u.image.octets now).packets

-- ---- runs

-- over events, each with its moment
abbrev pub updater_after : Updater → List (NodeEvent × ℕ) → Updater
updater_after u [] = u
updater_after u (e ∷ run) = updater_after (updater_step u e.0 e.1).next run

abbrev pub sent_in : Updater → List (NodeEvent × ℕ) → List Packet
sent_in u [] = []
sent_in u (e ∷ run) = (updater_step u e.0 e.1).sent ++ sent_in (updater_step u e.0 e.1).next run

-- the Update Starts, each with its destination
abbrev pub start_in : ℕ → Request → List (ℕ × UpdateStart)
start_in to (OfUpdate (StartUpdate u)) = (to, u) ∷ []
start_in to _ = []

abbrev pub starts_of : List (ℕ × Request) → List (ℕ × UpdateStart)
starts_of asked = flat_map (λ (x : ℕ × Request). start_in x.0 x.1) asked

abbrev pub starts_in : Updater → List (NodeEvent × ℕ) → List (ℕ × UpdateStart)
starts_in u [] = []
starts_in u (e ∷ run) = starts_of (asked_by u e.0 e.1) ++ starts_in (updater_step u e.0 e.1).next run

-- ---- what comes

abbrev pub come_by : NodeEvent → List Packet
come_by (PacketComes packet) = packet ∷ []
come_by TimeComes = []

abbrev pub come_in : List (NodeEvent × ℕ) → List Packet
come_in run = flat_map (λ (e : NodeEvent × ℕ). come_by e.0) run

-- an answer and its source
pub record Heard : Type 0 where
  pub from : ℕ
  pub answer : Answer

abbrev pub heard_as : ℕ → Option Answer → List Heard
heard_as from None = []
heard_as from (Some answer) = record { from = from; answer = answer } ∷ []

-- what is addressed to the updater and is a status or a report that it takes
abbrev pub heard_by : ℕ → NodeEvent → List Heard
heard_by address (PacketComes packet) = if packet.to == address then heard_as packet.from (answer_at packet.payload) else []
heard_by address TimeComes = []

abbrev pub heard_in : ℕ → List (NodeEvent × ℕ) → List Heard
heard_in address run = flat_map (λ (e : NodeEvent × ℕ). heard_by address e.0) run
