-- What holds of every table of rows that passes the test `rows_hold`, and that the grammar passes it.
use Rattle.std.specs.Prelude.{◌≡◌, ℕ, ◌<◌, ◌↔◌, List, slice_index, Ok, Err, IsTrue, ◌⊎◌}
use Rattle.mu_model_wire.specs.declared.Refusal.{Refusal}
use Rattle.mu_model_wire.specs.Fields.{Row, Message}
use Rattle.mu_model_wire.specs.Reading.{message_at}
use Rattle.mu_model_wire.specs.Spelling.{Fits, spelling}
use Rattle.mu_model_wire.specs.Spells.{Spells}
use Rattle.mu_model_wire.specs.Sound.{rows_hold}
use Rattle.mu_model_wire.specs.Table.{rows}

abbrev pub AreOctets : List ℕ → Type 0
AreOctets bytes = (i : ℕ) → slice_index bytes i < 256

abbrev pub GrammarHolds : Type 0
GrammarHolds = IsTrue (rows_hold rows)

-- octets are read as a message exactly where its fields are in their ranges and the octets spell it
abbrev pub ReadsWhatIsSpelled : Type 0
ReadsWhatIsSpelled =
    (table : List Row) (bytes : List ℕ) (m : Message) → IsTrue (rows_hold table) → AreOctets bytes
    → (message_at table bytes ≡ Ok m) ↔ (Fits table m × Spells table bytes m)

-- a message in its ranges is spelled by its canonical octets, among others
abbrev pub CanonicalSpells : Type 0
CanonicalSpells = (table : List Row) (m : Message) → IsTrue (rows_hold table) → Fits table m → Spells table (spelling table m) m

-- and so these are read as it
abbrev pub CanonicalIsRead : Type 0
CanonicalIsRead = (table : List Row) (m : Message) → IsTrue (rows_hold table) → Fits table m → message_at table (spelling table m) ≡ Ok m

-- octets are one message or one refusal
abbrev pub IsOneOrTheOther : Type 0
IsOneOrTheOther =
    (table : List Row) (bytes : List ℕ)
    → ((m : Message) × (message_at table bytes ≡ Ok m) × ((n : Message) → message_at table bytes ≡ Ok n → n ≡ m) × ((e : Refusal) → ¬ (message_at table bytes ≡ Err e)))
    ⊎ ((e : Refusal) × (message_at table bytes ≡ Err e) × ((d : Refusal) → message_at table bytes ≡ Err d → d ≡ e) × ((m : Message) → ¬ (message_at table bytes ≡ Ok m)))
