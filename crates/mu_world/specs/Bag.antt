-- Packets that stand one behind the other.
use Rattle.std.specs.Prelude.{ℕ, ◌+◌, ◌≤◌, List, length, take, drop}
use Rattle.mu_model_wire.specs.Limits.{most_octets}
use Rattle.mu_model_wire.specs.Packet.{Packet}
use Rattle.mu_world.specs.declared.head.Head.{Head}

-- the packet that stands at a place among octets
abbrev pub packet_in : List ℕ → Head → Packet
packet_in octets head = record { from = head.from; to = head.to; payload = take head.length (drop head.begins octets) }

-- its octets are there, and are no more than a packet may have
pub record IsWithin (octets : List ℕ) (head : Head) : Type 0 where
  pub there : head.begins + head.length ≤ length octets
  pub few : head.length ≤ most_octets
