-- Which octets spell a message: those of its fields in their order, where unused bits have any value.
use Rattle.std.specs.Prelude.{◌≡◌, ℕ, ◌<◌, ◌^◌, List, [], ◌∷◌, ◌++◌, take, drop, Option, Some, None, MatchBool}
use Rattle.byteorder.specs.Endian.{little_bytes}
use Rattle.mu_model_wire.specs.Fields.{Field, word, num, zero_or, split, counted, whole, pattern, Fields, end, rest, repeated, ◌▹◌, when, where_left, Row, Shown, Message}
use Rattle.mu_model_wire.specs.Reading.{value_of, is_one_of, fields_of, parts_of}
use Rattle.mu_model_wire.specs.Spelling.{part_count, shown_count, field_spelling, rest_spelling, opcode_spelling, begins_with}

-- a field has one spelling, but a split number any whose parts are as shown: its other bits are unused
abbrev pub FieldSpells : Field → List Shown → List ℕ → Type 0
FieldSpells (split k ps) shown bytes = (n : ℕ) × (n < 256 ^ k) × (bytes ≡ little_bytes k n) × (parts_of ps n ≡ take (part_count ps) shown)
FieldSpells (word name k) shown bytes = bytes ≡ field_spelling (word name k) shown
FieldSpells (num name k least most) shown bytes = bytes ≡ field_spelling (num name k least most) shown
FieldSpells (zero_or name k least most) shown bytes = bytes ≡ field_spelling (zero_or name k least most) shown
FieldSpells (counted name least most) shown bytes = bytes ≡ field_spelling (counted name least most) shown
FieldSpells (whole name size) shown bytes = bytes ≡ field_spelling (whole name size) shown
FieldSpells (pattern name) shown bytes = bytes ≡ field_spelling (pattern name) shown

abbrev pub EntrySpells : List Field → List Shown → List ℕ → Type 0
EntrySpells [] shown bytes = bytes ≡ []
EntrySpells (f ∷ fs) shown bytes =
    (own : List ℕ) × (others : List ℕ) × (bytes ≡ own ++ others)
    × FieldSpells f shown own × EntrySpells fs (drop (shown_count f) shown) others

abbrev pub EntriesSpell : List Field → List (List Shown) → List ℕ → Type 0
EntriesSpell fs [] bytes = bytes ≡ []
EntriesSpell fs (e ∷ es) bytes =
    (own : List ℕ) × (others : List ℕ) × (bytes ≡ own ++ others) × EntrySpells fs e own × EntriesSpell fs es others

abbrev pub FieldsSpell : Fields → List Shown → List Shown → List (List Shown) → List ℕ → Type 0
FieldsSpell end before shown entries bytes = bytes ≡ []
FieldsSpell (rest name least most) before shown entries bytes = bytes ≡ rest_spelling shown
FieldsSpell (repeated name least fs) before shown entries bytes = EntriesSpell fs entries bytes
FieldsSpell (f ▹ fs) before shown entries bytes =
    (own : List ℕ) × (others : List ℕ) × (bytes ≡ own ++ others)
    × FieldSpells f shown own × FieldsSpell fs (take (shown_count f) shown ++ before) (drop (shown_count f) shown) entries others
FieldsSpell (when name values fs gs) before shown entries bytes =
    MatchBool (is_one_of values (value_of name before)) (FieldsSpell fs before shown entries bytes) (FieldsSpell gs before shown entries bytes)
FieldsSpell (where_left n name fs gs) before shown entries bytes =
    MatchBool (begins_with name shown) (FieldsSpell fs before shown entries bytes) (FieldsSpell gs before shown entries bytes)

abbrev pub RowSpells : Option Fields → Message → List ℕ → Type 0
RowSpells None m bytes = ⊥
RowSpells (Some fs) m bytes = (body : List ℕ) × (bytes ≡ opcode_spelling m.opcode ++ body) × FieldsSpell fs [] m.fields m.entries body

-- the octets are the opcode and the fields of the message, with any unused bits
abbrev pub Spells : List Row → List ℕ → Message → Type 0
Spells rows bytes m = RowSpells (fields_of rows m.opcode) m bytes
