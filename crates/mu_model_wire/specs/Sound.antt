-- Which rows can be read back: a test of the table alone.
use Rattle.std.specs.Prelude.{ℕ, ◌+◌, ◌^◌, Bool, true, false, List, [], ◌∷◌, ◌++◌, nat_lt, nat_le, ◌&&◌, ◌==◌, not, ◌||◌}
use Rattle.mu_model_wire.specs.Fields.{Part, part, rfu, Field, word, num, zero_or, split, counted, whole, pattern, Fields, end, rest, repeated, ◌▹◌, when, where_left, Row}
use Rattle.mu_model_wire.specs.Patterns.{within}
use Rattle.mu_model_wire.specs.Reading.{is_one_of}

abbrev pub bits_of : List Part → ℕ
bits_of [] = 0
bits_of (rfu w ∷ ps) = w + bits_of ps
bits_of (part name w least most ∷ ps) = w + bits_of ps

-- each part's most is in its bits
abbrev pub parts_hold : List Part → Bool
parts_hold [] = true
parts_hold (rfu w ∷ ps) = parts_hold ps
parts_hold (part name w least most ∷ ps) = nat_lt most (2 ^ w) && parts_hold ps

abbrev pub field_holds : Field → Bool
field_holds (word name k) = nat_lt 0 k
field_holds (num name k least most) = nat_lt 0 k && nat_lt most (256 ^ k)
field_holds (zero_or name k least most) = nat_lt 0 k && nat_lt most (256 ^ k)
field_holds (split k ps) = nat_lt 0 k && nat_le (2 ^ bits_of ps) (256 ^ k) && parts_hold ps
field_holds (counted name least most) = nat_lt most 256
field_holds (whole name size) = nat_lt 0 size
field_holds (pattern name) = true

abbrev pub entry_holds : List Field → Bool
entry_holds [] = true
entry_holds (f ∷ fs) = field_holds f && entry_holds fs

-- an entry has a field, so it has an octet
abbrev pub has_field : List Field → Bool
has_field [] = false
has_field (f ∷ fs) = true

-- what the field shows begins with this name, or with another
abbrev pub field_leads : ℕ → Field → Bool
field_leads name (word n k) = n == name
field_leads name (num n k least most) = n == name
field_leads name (zero_or n k least most) = n == name
field_leads name (counted n least most) = n == name
field_leads name (whole n size) = n == name
field_leads name (pattern n) = n == name
field_leads name _ = false

abbrev pub field_avoids : ℕ → Field → Bool
field_avoids name (word n k) = not (n == name)
field_avoids name (num n k least most) = not (n == name)
field_avoids name (zero_or n k least most) = not (n == name)
field_avoids name (counted n least most) = not (n == name)
field_avoids name (whole n size) = not (n == name)
field_avoids name (pattern n) = not (n == name)
field_avoids name _ = false

abbrev pub leads : ℕ → Fields → Bool
leads name (rest n least most) = n == name
leads name (f ▹ fs) = field_leads name f
leads name _ = false

abbrev pub avoids : ℕ → Fields → Bool
avoids name end = true
avoids name (rest n least most) = not (n == name)
avoids name (repeated n least fs) = true
avoids name (f ▹ fs) = field_avoids name f
avoids name _ = false

abbrev pub fields_hold : Fields → Bool
fields_hold end = true
fields_hold (rest name least most) = true
fields_hold (repeated name least fs) = has_field fs && entry_holds fs
fields_hold (f ▹ fs) = field_holds f && fields_hold fs
fields_hold (when name values fs gs) = fields_hold fs && fields_hold gs
fields_hold (where_left n name fs gs) = (fields_hold fs && fields_hold gs) && (leads name fs && avoids name gs)

-- the names that a field shows
abbrev pub part_names : List Part → List ℕ
part_names [] = []
part_names (rfu w ∷ ps) = part_names ps
part_names (part name w least most ∷ ps) = name ∷ part_names ps

abbrev pub field_names : Field → List ℕ
field_names (word n k) = n ∷ []
field_names (num n k least most) = n ∷ []
field_names (zero_or n k least most) = n ∷ []
field_names (split k ps) = part_names ps
field_names (counted n least most) = n ∷ []
field_names (whole n size) = n ∷ []
field_names (pattern n) = n ∷ []

-- each condition's field stands before it; `before` are the names of the fields there
abbrev pub conditions_hold : List ℕ → Fields → Bool
conditions_hold before (f ▹ fs) = conditions_hold (field_names f ++ before) fs
conditions_hold before (when name values fs gs) = is_one_of before name && conditions_hold before fs && conditions_hold before gs
conditions_hold before (where_left n name fs gs) = conditions_hold before fs && conditions_hold before gs
conditions_hold before _ = true

abbrev pub opcode_holds : ℕ → Bool
opcode_holds opcode = nat_lt opcode 0x80 || within 0x8000 0xBFFF opcode

abbrev pub row_holds : Row → Bool
row_holds row = opcode_holds row.opcode && fields_hold row.fields && conditions_hold [] row.fields

-- no row has the opcode
abbrev pub is_new : ℕ → List Row → Bool
is_new opcode [] = true
is_new opcode (row ∷ rows) = not (opcode == row.opcode) && is_new opcode rows

-- each row can be read back, and no two have one opcode
abbrev pub rows_hold : List Row → Bool
rows_hold [] = true
rows_hold (row ∷ rows) = row_holds row && is_new row.opcode rows && rows_hold rows
