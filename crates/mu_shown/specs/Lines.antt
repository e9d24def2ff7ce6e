-- The line that shows a message (this profile): its name, then ` field=value` for each field that is there. Numbers are
-- decimal, octets hexadecimal; numbers of a list and entries are joined by commas, the parts of an entry by colons.
use Rattle.std.specs.Prelude.{ℕ, List, [], ◌∷◌, ◌++◌, map, take, drop, Option, Some, None, if◌then◌else◌}
use Rattle.std.specs.List.{flat_map, join_by}
use Rattle.std.specs.Fmt.{decimal}
use Rattle.hex.specs.Hex.{encode_lower}
use Rattle.mu_model_wire.specs.Fields.{Fields, end, rest, repeated, ◌▹◌, when, where_left, Shown, number, octets, Message}
use Rattle.mu_model_wire.specs.Names.{field_texts, message_texts, text_of}
use Rattle.mu_model_wire.specs.Reading.{value_of, is_one_of, fields_of}
use Rattle.mu_model_wire.specs.Spelling.{shown_count, begins_with}
use Rattle.mu_model_wire.specs.Table.{rows}

-- texts with an octet between them
abbrev pub joined : ℕ → List (List ℕ) → List ℕ
joined separator texts = join_by (λ text. text) (separator ∷ []) texts

abbrev pub value_text : Shown → List ℕ
value_text (number name n) = decimal n
value_text (octets name os) = encode_lower os

abbrev pub name_of : Shown → ℕ
name_of (number name n) = name
name_of (octets name os) = name

-- a blank, a name, an equals sign, a text
abbrev pub named : List ℕ → List ℕ → List ℕ
named name text = (32 ∷ name ++ 61 ∷ []) ++ text

abbrev pub field_text : Shown → List ℕ
field_text shown = named (text_of field_texts (name_of shown)) (value_text shown)

abbrev pub entry_text : List Shown → List ℕ
entry_text shown = joined 58 (map value_text shown)

abbrev pub entries_text : List (List Shown) → List ℕ
entries_text entries = joined 44 (map entry_text entries)

-- the name of the entries that a row has, where it has any
abbrev pub entries_name : Fields → List Shown → List Shown → Option ℕ
entries_name end before shown = None
entries_name (rest name least most) before shown = None
entries_name (repeated name least fs) before shown = Some name
entries_name (f ▹ fs) before shown = entries_name fs (take (shown_count f) shown ++ before) (drop (shown_count f) shown)
entries_name (when name values fs gs) before shown =
    if is_one_of values (value_of name before) then entries_name fs before shown else entries_name gs before shown
entries_name (where_left n name fs gs) before shown =
    if begins_with name shown then entries_name fs before shown else entries_name gs before shown

abbrev pub list_text : Option ℕ → List (List Shown) → List ℕ
list_text None entries = []
list_text (Some name) entries = named (text_of field_texts name) (entries_text entries)

abbrev pub row_list_text : Option Fields → Message → List ℕ
row_list_text None m = []
row_list_text (Some fs) m = list_text (entries_name fs [] m.fields) m.entries

-- the whole line, with its end
abbrev pub shown_line : Message → List ℕ
shown_line m =
    ((text_of message_texts m.opcode ++ flat_map field_text m.fields) ++ row_list_text (fields_of rows m.opcode) m) ++ 10 ∷ []
