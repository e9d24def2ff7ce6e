-- What comes to a node in memory, and what it sends, as the model's.
use Rattle.std.specs.Prelude.{ℕ, ◌≡◌, ◌==◌, ◌&&◌, true, false, List, ◌++◌, Result, Ok, Err}
use Rattle.mu_codec.specs.View.{packet_of}
use Rattle.mu_model_wire.specs.Packet.{Packet as PlainPacket}
use Rattle.mu_model_node.specs.declared.NodeConfig.{NodeConfig}
use Rattle.mu_model_node.specs.NodeState.{NodeState}
use Rattle.mu_model_node.specs.Events.{NodeEvent, PacketComes, TimeComes, on_event, has_record, last_count}
use Rattle.mu_reference.specs.declared.recording.Stop.{Stop}
use Rattle.mu_reference.specs.declared.recording.Stop.TheVariants.{NoMemory, Worn}
use Rattle.mu_reference_node.specs.declared.happening.Did.{Did}
use Rattle.mu_reference_node.specs.declared.event.Event.{Event}
use Rattle.mu_reference_node.specs.declared.event.Event.TheVariants.{Packet, Time}

abbrev pub event_of : Event → NodeEvent
event_of (Packet packet) = PacketComes (packet_of packet.now)
event_of Time = TimeComes

-- the node has done the event, its moment apart, and has sent these packets after those; or it has stopped, and all is as it was
abbrev pub DidAs : NodeConfig → NodeState → NodeEvent → List PlainPacket → Result Did Stop → NodeState → List PlainPacket → Type 0
DidAs config s event before (Ok did) new sent =
    (new ≡ (on_event config s event).next)
    × (sent ≡ before ++ (on_event config s event).sent)
    × (did.handled ≡ (on_event config s event).handled)
    × (did.work ≡ (on_event config s event).work)
    × ((has_record (on_event config s event).work && (s.durable.count == last_count)) ≡ false)
DidAs config s event before (Err Worn) new sent =
    ((has_record (on_event config s event).work && (s.durable.count == last_count)) ≡ true) × (new ≡ s) × (sent ≡ before)
DidAs config s event before (Err NoMemory) new sent = (new ≡ s) × (sent ≡ before)
