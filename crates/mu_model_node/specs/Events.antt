-- A node's step: the state after an event and what is sent, the durable states that the event goes through, and its flash work.
use Rattle.std.specs.Prelude.{ℕ, max, ◌==◌, ◌&&◌, Bool, true, false, List, [], map, Option, Some, None, if◌then◌else◌}
use Rattle.mu_model_wire.specs.Packet.{Packet}
use Rattle.mu_model_node.specs.NodeMessages.{Request, OfUpdate, OfBlob, request_at, reply_packet}
use Rattle.mu_model_node.specs.BlobTable.{on_blob}
use Rattle.mu_model_node.specs.FlashWork.{FlashWork, Untouched, Recorded, Begun, passed_by, work_by}
use Rattle.mu_model_node.specs.NodeState.{NodeDurable, NodeState, is_addressee, update_phase, server_of}
use Rattle.mu_model_node.specs.NodeOutcome.{Outcome, served}
use Rattle.mu_model_node.specs.UpdateTable.{on_update}
use Rattle.mu_model_node.specs.TimeTable.{on_time}
use Rattle.mu_model_node.specs.declared.NodeConfig.{NodeConfig}

pub data NodeEvent : Type 0 where
  PacketComes : Packet → NodeEvent
  TimeComes : NodeEvent

-- the state after an event, the packets that are sent, whether the event was handled, and what it did to the flash
pub record NodeStep : Type 0 where
  pub next : NodeState
  pub sent : List Packet
  pub handled : Bool
  pub work : FlashWork

-- the last moment is the greatest that was handed in, with a packet that isn't handled too
abbrev pub at_moment : NodeState → ℕ → NodeState
at_moment s now = record s { moment = max s.moment now }

abbrev pub passed_over : NodeState → NodeStep
passed_over s = record { next = s; sent = []; handled = false; work = Untouched }

-- replies go out from the node's address
abbrev pub stepped : NodeConfig → Outcome → NodeStep
stepped config o = record { next = o.next; sent = map (reply_packet config.address) o.replies; handled = true; work = o.work }

-- a message of a source
abbrev pub on_request : NodeState → ℕ → Request → Outcome
on_request s from (OfUpdate request) = on_update s from request
on_request s from (OfBlob request) = served s (on_blob (server_of s) from request)

abbrev pub on_packet : NodeConfig → NodeState → ℕ → Option Request → NodeStep
on_packet config s from (Some request) = stepped config (on_request s from request)
on_packet config s from None = passed_over s

-- a packet is handled where it is addressed to the node and its payload is a message that a node takes
abbrev pub on_event : NodeConfig → NodeState → NodeEvent → NodeStep
on_event config s (PacketComes packet) =
    if is_addressee config packet then on_packet config s packet.from (request_at packet.payload) else passed_over s
on_event config s TimeComes = stepped config (on_time s (update_phase s))

-- an event at a node, at a moment
abbrev pub node_step : NodeConfig → NodeState → NodeEvent → ℕ → NodeStep
node_step config s event now = on_event config (at_moment s now) event

-- the durable states that an event goes through, the old one first
abbrev pub node_passed : NodeConfig → NodeState → NodeEvent → ℕ → List NodeDurable
node_passed config s event now = passed_by s.durable (node_step config s event now).next.durable (node_step config s event now).work

-- the durable state that stands after each flash operation of an event
abbrev pub node_work : NodeConfig → NodeState → NodeEvent → ℕ → List NodeDurable
node_work config s event now = work_by s.fresh s.durable (node_step config s event now).next.durable (node_step config s event now).work

-- ---- the last record

-- records are counted to here, and a flash is worn out then
abbrev pub last_count : ℕ
last_count = 0xFFFF_FFFF

abbrev pub has_record : FlashWork → Bool
has_record (Recorded is_long) = true
has_record (Begun is_long) = true
has_record _ = false

-- a record is due, and the last was written: such an event isn't done, and the node answers Worn
abbrev pub is_worn : NodeConfig → NodeState → NodeEvent → ℕ → Bool
is_worn config s event now = has_record (node_step config s event now).work && (s.durable.count == last_count)
