-- Addresses, and a packet of the network as a plain value.
use Rattle.std.specs.Prelude.{ℕ, Bool, List, nat_le, ◌&&◌}

-- unicast addresses, and group addresses (Mesh Protocol, Addresses)
abbrev pub is_unicast : ℕ → Bool
is_unicast address = nat_le 0x0001 address && nat_le address 0x7FFF

abbrev pub is_group : ℕ → Bool
is_group address = nat_le 0xC000 address && nat_le address 0xFFFF

-- the source's address, the destination's, and the octets between
pub record Packet : Type 0 where
  pub from : ℕ
  pub to : ℕ
  pub payload : List ℕ
