-- What a refusal of octets says of them (this profile).
use Rattle.std.specs.Prelude.{◌≡◌, ◌≢◌, ◌⊎◌, ℕ, ◌+◌, ◌<◌, ◌≤◌, Bool, true, false, ◌&&◌, List, ◌++◌, length, take, Option, Some, None, Ok, Err, IsTrue}
use Rattle.mu_model_wire.specs.Limits.{most_octets}
use Rattle.mu_model_wire.specs.declared.Refusal.{Refusal}
use Rattle.mu_model_wire.specs.declared.Why.{Why}
use Rattle.mu_model_wire.specs.declared.Why.TheVariants.{Opcode, Short, Value, Long}
use Rattle.mu_model_wire.specs.Fields.{Fields, end, ◌▹◌, when, Row, Message}
use Rattle.mu_model_wire.specs.Reading.{Left, opcode_at, fields_of, message_at}
use Rattle.mu_model_wire.specs.Spelling.{Fits}
use Rattle.mu_model_wire.specs.Spells.{Spells}
use Rattle.mu_model_wire.specs.Sound.{rows_hold}
use Rattle.mu_model_wire.specs.Laws.{AreOctets}
use Rattle.mu_model_wire.specs.Table.{rows}
use Rattle.mu_model_wire.specs.Patterns.{IsList, IsListFault}

-- ---- one or the other

-- the octets spell one message, which is in its ranges, and are refused nowhere
pub record AreMessage (table : List Row) (bytes : List ℕ) : Type 0 where
  pub message : Message
  pub fits : Fits table message
  pub spells : Spells table bytes message
  pub one : (m : Message) → Fits table m → Spells table bytes m → m ≡ message
  pub never : (e : Refusal) → ¬ (message_at table bytes ≡ Err e)

-- they are refused at one place for one reason, and spell no message that is in its ranges
pub record AreRefused (table : List Row) (bytes : List ℕ) : Type 0 where
  pub refusal : Refusal
  pub is : message_at table bytes ≡ Err refusal
  pub never : (m : Message) → Fits table m → ¬ Spells table bytes m

abbrev pub SpellOrAreRefused : Type 0
SpellOrAreRefused = (table : List Row) (bytes : List ℕ) → IsTrue (rows_hold table) → AreOctets bytes → AreMessage table bytes ⊎ AreRefused table bytes

-- ---- a value out of range

-- The field that failed ends at `last`, within the octets, at most five past the place. No octet behind it counts: with others there, as many as
-- before, the refusal is the same.
pub record FieldFails (bytes : List ℕ) (at : ℕ) : Type 0 where
  pub last : ℕ
  pub some : at < last
  pub few : last ≤ at + 5
  pub within : last ≤ length bytes
  pub alone : (other : List ℕ) → length other ≡ length bytes → take last other ≡ take last bytes → message_at rows other ≡ Err (record { at = at; why = Value })

abbrev pub ValueIsOfItsField : Type 0
ValueIsOfItsField = (bytes : List ℕ) (at : ℕ) → message_at rows bytes ≡ Err (record { at = at; why = Value }) → FieldFails bytes at

-- ---- octets that lack, and octets too many

-- The beginning of a message is a message itself, or is refused as too short. Of a Distribution Start the octets that are left decide whether a label
-- or a group stands there, so a beginning may be refused otherwise.
abbrev pub BeginningsAreShort : Type 0
BeginningsAreShort =
    (bytes : List ℕ) (m : Message) (n at : ℕ) (why : Why) → message_at rows bytes ≡ Ok m → m.opcode ≢ 0x8319
    → message_at rows (take n bytes) ≡ Err (record { at = at; why = why }) → (why ≡ Short) × (at ≤ length (take n bytes))

-- what is too long begins with a message that ends at the place, or has more than 380 octets
abbrev pub LongIsPastTheEnd : Type 0
LongIsPastTheEnd =
    (bytes : List ℕ) (at : ℕ) → message_at rows bytes ≡ Err (record { at = at; why = Long })
    → (at < length bytes) × ((at ≡ most_octets) ⊎ ((m : Message) × (message_at rows (take at bytes) ≡ Ok m)))

-- fields of which each has its place, up to the last one
abbrev pub is_fixed : Fields → Bool
is_fixed end = true
is_fixed (f ▹ fs) = is_fixed fs
is_fixed (when name values fs gs) = is_fixed fs && is_fixed gs
is_fixed _ = false

abbrev pub is_fixed_row : Option Fields → Bool
is_fixed_row None = false
is_fixed_row (Some fs) = is_fixed fs

-- octets behind such a message are too many, from the first of them on
abbrev pub MessagesEnd : Type 0
MessagesEnd =
    (bytes more : List ℕ) (m : Message) → message_at rows bytes ≡ Ok m → is_fixed_row (fields_of rows m.opcode) ≡ true → 0 < length more → length (bytes ++ more) ≤ 380
    → message_at rows (bytes ++ more) ≡ Err (record { at = length bytes; why = Long })

-- octets lack at a place that is there, or is the next; no field has more than 255 octets, so fewer are left
pub record LacksNear (bytes : List ℕ) (at : ℕ) : Type 0 where
  pub there : at ≤ length bytes
  pub near : length bytes < at + 255

abbrev pub ShortsLack : Type 0
ShortsLack = (bytes : List ℕ) (at : ℕ) → message_at rows bytes ≡ Err (record { at = at; why = Short }) → LacksNear bytes at

-- ---- opcodes

-- it is whole, and no row's
pub record HasForeignOpcode (bytes : List ℕ) (at : ℕ) : Type 0 where
  pub first : at ≡ 0
  pub opcode : ℕ
  pub others : Left
  pub read : opcode_at (record { at = 0; octets = bytes }) ≡ Ok (opcode, others)
  pub none : fields_of rows opcode ≡ None

-- an opcode is refused at the first octet, exactly where it is so, and the octets aren't too many
pub record OpcodesAreTold : Type 0 where
  pub told : (bytes : List ℕ) (at : ℕ) → message_at rows bytes ≡ Err (record { at = at; why = Opcode }) → HasForeignOpcode bytes at
  pub refused : (bytes : List ℕ) → HasForeignOpcode bytes 0 → length bytes ≤ most_octets → message_at rows bytes ≡ Err (record { at = 0; why = Opcode })

-- ---- lists of number patterns

-- octets are the patterns of some numbers, or have a first bad one
abbrev pub IsListOrFaulty : Type 0
IsListOrFaulty = (octets : List ℕ) → ((numbers : List ℕ) × IsList octets numbers) ⊎ ((at : ℕ) × (cut : _) × IsListFault octets at cut)
