-- A packet in memory as a plain value.
use Rattle.mu_model_wire.specs.Packet.{Packet}
use Rattle.mu_codec.specs.declared.packet.Packet.{Packet as PacketInMemory}

abbrev pub packet_of : PacketInMemory → Packet
packet_of p = record { from = p.from; to = p.to; payload = p.payload.items }
