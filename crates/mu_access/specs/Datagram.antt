-- Datagrams: a packet as the octets that a link carries (this profile).
use Rattle.std.specs.Prelude.{ℕ, ◌+◌, ◌<◌, Bool, IsTrue, List, [], ◌∷◌, ◌++◌, length, drop, Option, Some, None, Result, Ok, nat_lt, nat_le, ◌==◌, ◌&&◌, ◌||◌, not, if◌then◌else◌}
use Rattle.byteorder.specs.Endian.{little_bytes, little_number}
use Rattle.mu_model_wire.specs.declared.Refusal.{Refusal}
use Rattle.mu_model_wire.specs.declared.Why.TheVariants.{Short, Value, Long}
use Rattle.mu_model_wire.specs.Reading.{refuse}
use Rattle.mu_model_wire.specs.Packet.{Packet, is_unicast, is_group}

-- the octets that a datagram begins with
abbrev pub mark : List ℕ
mark = 0x4D ∷ 0x55 ∷ 0x01 ∷ 0x00 ∷ []

-- the mark, the addresses, the payload
abbrev pub datagram_spelling : Packet → List ℕ
datagram_spelling p = ((mark ++ little_bytes 2 p.from) ++ little_bytes 2 p.to) ++ p.payload

-- a packet that a datagram can carry
pub record CanTravel (p : Packet) : Type 0 where
  pub from : IsTrue (is_unicast p.from)
  pub to : IsTrue (is_unicast p.to || is_group p.to)
  pub some : 0 < length p.payload

-- the first place at which octets differ from others, as far as both go
abbrev pub first_difference : ℕ → List ℕ → List ℕ → Option ℕ
first_difference at [] others = None
first_difference at (x ∷ xs) [] = None
first_difference at (x ∷ xs) (y ∷ ys) = if x == y then first_difference (at + 1) xs ys else Some at

-- what stands behind the mark; the first that holds of what can be wrong
abbrev pub addressed_at : List ℕ → Result Packet Refusal
addressed_at octets =
    if nat_lt (length octets) 4 then refuse (length octets) Short
    else if nat_lt (length octets) 6 then refuse 4 Short
    else if nat_lt (length octets) 8 then refuse 6 Short
    else if not (is_unicast (little_number 2 (drop 4 octets))) then refuse 4 Value
    else if not (is_unicast (little_number 2 (drop 6 octets)) || is_group (little_number 2 (drop 6 octets))) then refuse 6 Value
    else if length octets == 8 then refuse 8 Short
    else if nat_lt 388 (length octets) then refuse 388 Long
    else Ok (record { from = little_number 2 (drop 4 octets); to = little_number 2 (drop 6 octets); payload = drop 8 octets })

abbrev pub marked_at : Option ℕ → List ℕ → Result Packet Refusal
marked_at (Some place) octets = refuse place Value
marked_at None octets = addressed_at octets

-- the packet that a datagram carries, or what is first wrong with it
abbrev pub datagram_at : List ℕ → Result Packet Refusal
datagram_at octets = marked_at (first_difference 0 mark octets) octets
