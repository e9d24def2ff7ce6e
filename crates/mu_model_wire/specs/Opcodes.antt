-- Octets that begin with an opcode are read as a message of it, or as none.
use Rattle.std.specs.Prelude.{ℕ, ◌≡◌, ◌<◌, ◌≤◌, ◌+◌, ◌*◌, List, ◌∷◌, Ok}
use Rattle.mu_model_wire.specs.Fields.{Row, Message}
use Rattle.mu_model_wire.specs.Reading.{message_at}

-- whatever message the octets are read as has this opcode
abbrev pub Keeps : List Row → ℕ → List ℕ → Type 0
Keeps table opcode bytes = (m : Message) → message_at table bytes ≡ Ok m → m.opcode ≡ opcode

-- an opcode of one octet, and one of two (Mesh Protocol, Opcodes)
abbrev pub OneOctetIsKept : Type 0
OneOctetIsKept = (table : List Row) (a : ℕ) (body : List ℕ) → a < 0x80 → Keeps table a (a ∷ body)

abbrev pub TwoOctetsAreKept : Type 0
TwoOctetsAreKept = (table : List Row) (a b : ℕ) (body : List ℕ) → 0x80 ≤ a → a < 0xC0 → Keeps table (a * 256 + b) (a ∷ b ∷ body)
