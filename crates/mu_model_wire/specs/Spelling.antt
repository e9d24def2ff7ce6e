-- The one spelling of a message with its unused bits 0, and which messages have one.
use Rattle.std.specs.Prelude.{◌≡◌, ℕ, suc, ◌+◌, ◌*◌, ◌/◌, ◌%◌, ◌^◌, ◌<◌, ◌≤◌, Bool, false, List, [], ◌∷◌, ◌++◌, length, take, drop, Option, Some, None, nat_lt, ◌==◌, if◌then◌else◌, MatchBool, ◌⊎◌}
use Rattle.byteorder.specs.Endian.{little_bytes}
use Rattle.mu_model_wire.specs.Limits.{most_octets}
use Rattle.mu_model_wire.specs.Fields.{Part, part, rfu, Field, word, num, zero_or, split, counted, whole, pattern, Fields, end, rest, repeated, ◌▹◌, when, where_left, Row, Shown, number, octets, Message}
use Rattle.mu_model_wire.specs.Patterns.{pattern_spelling}
use Rattle.mu_model_wire.specs.Reading.{value_of, is_one_of, fields_of}

-- how many things a field shows
abbrev pub part_count : List Part → ℕ
part_count [] = 0
part_count (rfu w ∷ ps) = part_count ps
part_count (part name w least most ∷ ps) = suc (part_count ps)

abbrev pub shown_count : Field → ℕ
shown_count (split k ps) = part_count ps
shown_count _ = 1

abbrev pub joined : List Part → List Shown → ℕ
joined [] shown = 0
joined (rfu w ∷ ps) shown = 2 ^ w * joined ps shown
joined (part name w least most ∷ ps) (number n v ∷ shown) = v + 2 ^ w * joined ps shown
joined (part name w least most ∷ ps) shown = 0

abbrev pub begins_with : ℕ → List Shown → Bool
begins_with name (number n v ∷ shown) = n == name
begins_with name (octets n os ∷ shown) = n == name
begins_with name [] = false

-- a field is spelled from the first things of a list
abbrev pub field_spelling : Field → List Shown → List ℕ
field_spelling (word name k) (number n v ∷ shown) = little_bytes k v
field_spelling (num name k least most) (number n v ∷ shown) = little_bytes k v
field_spelling (zero_or name k least most) (number n v ∷ shown) = little_bytes k v
field_spelling (split k ps) shown = little_bytes k (joined ps shown)
field_spelling (counted name least most) (octets n os ∷ shown) = little_bytes 1 (length os) ++ os
field_spelling (whole name size) (octets n os ∷ shown) = os
field_spelling (pattern name) (number n v ∷ shown) = pattern_spelling v
field_spelling _ _ = []

abbrev pub entry_spelling : List Field → List Shown → List ℕ
entry_spelling [] shown = []
entry_spelling (f ∷ fs) shown = field_spelling f shown ++ entry_spelling fs (drop (shown_count f) shown)

abbrev pub entries_spelling : List Field → List (List Shown) → List ℕ
entries_spelling fs [] = []
entries_spelling fs (e ∷ es) = entry_spelling fs e ++ entries_spelling fs es

abbrev pub rest_spelling : List Shown → List ℕ
rest_spelling (octets n os ∷ shown) = os
rest_spelling _ = []

abbrev pub fields_spelling : Fields → List Shown → List Shown → List (List Shown) → List ℕ
fields_spelling end before shown entries = []
fields_spelling (rest name least most) before shown entries = rest_spelling shown
fields_spelling (repeated name least fs) before shown entries = entries_spelling fs entries
fields_spelling (f ▹ fs) before shown entries =
    field_spelling f shown ++ fields_spelling fs (take (shown_count f) shown ++ before) (drop (shown_count f) shown) entries
fields_spelling (when name values fs gs) before shown entries =
    if is_one_of values (value_of name before) then fields_spelling fs before shown entries else fields_spelling gs before shown entries
fields_spelling (where_left n name fs gs) before shown entries =
    if begins_with name shown then fields_spelling fs before shown entries else fields_spelling gs before shown entries

abbrev pub opcode_spelling : ℕ → List ℕ
opcode_spelling opcode = if nat_lt opcode 256 then opcode ∷ [] else (opcode / 256) ∷ (opcode % 256) ∷ []

abbrev pub row_spelling : Option Fields → Message → List ℕ
row_spelling None m = []
row_spelling (Some fs) m = opcode_spelling m.opcode ++ fields_spelling fs [] m.fields m.entries

-- the canonical spelling
abbrev pub spelling : List Row → Message → List ℕ
spelling rows m = row_spelling (fields_of rows m.opcode) m

-- ---- what has a spelling

abbrev pub PartsFit : List Part → List Shown → Type 0
PartsFit [] shown = Unit {0}
PartsFit (rfu w ∷ ps) shown = PartsFit ps shown
PartsFit (part name w least most ∷ ps) (number n v ∷ shown) = (n ≡ name) × (least ≤ v) × (v ≤ most) × PartsFit ps shown
PartsFit (part name w least most ∷ ps) shown = ⊥

abbrev pub FieldFits : Field → List Shown → Type 0
FieldFits (word name k) (number n v ∷ shown) = (n ≡ name) × (v < 256 ^ k)
FieldFits (num name k least most) (number n v ∷ shown) = (n ≡ name) × (least ≤ v) × (v ≤ most)
FieldFits (zero_or name k least most) (number n v ∷ shown) = (n ≡ name) × ((v ≡ 0) ⊎ ((least ≤ v) × (v ≤ most)))
FieldFits (split k ps) shown = PartsFit ps shown
FieldFits (counted name least most) (octets n os ∷ shown) = (n ≡ name) × (least ≤ length os) × (length os ≤ most)
FieldFits (whole name size) (octets n os ∷ shown) = (n ≡ name) × (length os ≡ size)
FieldFits (pattern name) (number n v ∷ shown) = (n ≡ name) × (v ≤ 0xFFFF)
FieldFits _ _ = ⊥

abbrev pub EntryFits : List Field → List Shown → Type 0
EntryFits [] shown = shown ≡ []
EntryFits (f ∷ fs) shown = FieldFits f shown × EntryFits fs (drop (shown_count f) shown)

abbrev pub EntriesFit : List Field → List (List Shown) → Type 0
EntriesFit fs [] = Unit {0}
EntriesFit fs (e ∷ es) = EntryFits fs e × EntriesFit fs es

abbrev pub RestFits : ℕ → ℕ → ℕ → List Shown → Type 0
RestFits name least most (octets n os ∷ []) = (n ≡ name) × (least ≤ length os) × (length os ≤ most)
RestFits name least most _ = ⊥

abbrev pub FieldsFit : Fields → List Shown → List Shown → List (List Shown) → Type 0
FieldsFit end before shown entries = (shown ≡ []) × (entries ≡ [])
FieldsFit (rest name least most) before shown entries = RestFits name least most shown × (entries ≡ [])
FieldsFit (repeated name least fs) before shown entries = (shown ≡ []) × (least ≤ length (entries_spelling fs entries)) × EntriesFit fs entries
FieldsFit (f ▹ fs) before shown entries =
    FieldFits f shown × FieldsFit fs (take (shown_count f) shown ++ before) (drop (shown_count f) shown) entries
FieldsFit (when name values fs gs) before shown entries =
    MatchBool (is_one_of values (value_of name before)) (FieldsFit fs before shown entries) (FieldsFit gs before shown entries)
FieldsFit (where_left n name fs gs) before shown entries =
    MatchBool (begins_with name shown)
    (FieldsFit fs before shown entries × (n ≤ length (fields_spelling fs before shown entries)))
    (FieldsFit gs before shown entries × (length (fields_spelling gs before shown entries) < n))

abbrev pub RowFits : Option Fields → Message → Type 0
RowFits None m = ⊥
RowFits (Some fs) m = FieldsFit fs [] m.fields m.entries

-- the message is in its ranges, and its spelling isn't too long
abbrev pub Fits : List Row → Message → Type 0
Fits rows m = RowFits (fields_of rows m.opcode) m × (length (spelling rows m) ≤ most_octets)
