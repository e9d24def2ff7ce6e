-- What octets spell by a row, or the first place where they don't.
use Rattle.std.specs.Prelude.{◌≡◌, ℕ, zero, suc, ◌+◌, ◌*◌, ◌/◌, ◌%◌, ◌^◌, Bool, true, false, List, [], ◌∷◌, ◌++◌, length, take, drop, slice_index, Option, Some, None, Result, Ok, Err, nat_lt, ◌==◌, ◌&&◌, ◌||◌, if◌then◌else◌}
use Rattle.byteorder.specs.Endian.{little_number}
use Rattle.mu_model_wire.specs.Limits.{most_octets}
use Rattle.mu_model_wire.specs.declared.Refusal.{Refusal}
use Rattle.mu_model_wire.specs.declared.Why.{Why}
use Rattle.mu_model_wire.specs.declared.Why.TheVariants.{Opcode, Short, Value, Long}
use Rattle.mu_model_wire.specs.Patterns.{within, pattern_length, pattern_number}
use Rattle.mu_model_wire.specs.Fields.{Part, part, rfu, Field, word, num, zero_or, split, counted, whole, pattern, Fields, end, rest, repeated, ◌▹◌, when, where_left, Row, Shown, number, octets, Message}

-- the octets that are left, and the place of the first of them
pub record Left : Type 0 where
  pub at : ℕ
  pub octets : List ℕ

abbrev pub refuse : {A : Type 0} → ℕ → Why → Result A Refusal
refuse at why = Err (record { at = at; why = why })

infixl 10 ◌>>=◌
abbrev pub ◌>>=◌ : {A B : Type 0} → Result A Refusal → (A → Result B Refusal) → Result B Refusal
(Ok x) >>= f = f x
(Err e) >>= f = Err e

-- what a function returned, seen by view, is what reading gives
abbrev pub Gives : {X Y : Type 0} → (X → Y) → Result X Refusal → Result Y Refusal → Type 0
Gives view (Ok x) read = read ≡ Ok (view x)
Gives view (Err e) read = read ≡ Err e

-- a cursor that was `old` gave what reading gives; after a refusal it is as it was
abbrev pub Leaves : {Y : Type 0} → Result Y Refusal → Result (Y × Left) Refusal → Left → Left → Type 0
Leaves (Ok x) read old new = read ≡ Ok (x, new)
Leaves (Err e) read old new = (read ≡ Err e) × (new ≡ old)

-- the same without a word on where a refusal leaves the cursor
abbrev pub Reads : {Y : Type 0} → Result Y Refusal → Result (Y × Left) Refusal → Left → Type 0
Reads (Ok x) read new = read ≡ Ok (x, new)
Reads (Err e) read new = read ≡ Err e

abbrev pub ReadsBy : {X Y : Type 0} → (X → Y) → Result X Refusal → Result (Y × Left) Refusal → Left → Type 0
ReadsBy view (Ok x) read new = read ≡ Ok (view x, new)
ReadsBy view (Err e) read new = read ≡ Err e

-- the same of a value that is seen by view, as octets that are lent
abbrev pub LeavesBy : {X Y : Type 0} → (X → Y) → Result X Refusal → Result (Y × Left) Refusal → Left → Left → Type 0
LeavesBy view (Ok x) read old new = read ≡ Ok (view x, new)
LeavesBy view (Err e) read old new = (read ≡ Err e) × (new ≡ old)

abbrev pub after : ℕ → Left → Left
after n left = record { at = left.at + n; octets = drop n left.octets }

-- ---- one field

-- the number in the next k octets
unfoldable pub word_at : ℕ → Left → Result (ℕ × Left) Refusal
word_at k left = if nat_lt (length left.octets) k then refuse left.at Short else Ok (little_number k left.octets, after k left)

-- the next n octets
unfoldable pub octets_at : ℕ → Left → Result (List ℕ × Left) Refusal
octets_at n left = if nat_lt (length left.octets) n then refuse left.at Short else Ok (take n left.octets, after n left)

abbrev pub or_value : ℕ → Option ℕ → Left → Result (ℕ × Left) Refusal
or_value at (Some n) left = Ok (n, left)
or_value at None left = refuse at Value

unfoldable pub pattern_at : Left → Result (ℕ × Left) Refusal
pattern_at left = do
  first ← word_at 1 left
  taken ← octets_at (pattern_length first.0) left
  or_value left.at (pattern_number taken.0) taken.1

-- whether each part of a word is in its range, and what the parts show
abbrev pub parts_in : List Part → ℕ → Bool
parts_in [] n = true
parts_in (rfu w ∷ ps) n = parts_in ps (n / 2 ^ w)
parts_in (part name w least most ∷ ps) n = within least most (n % 2 ^ w) && parts_in ps (n / 2 ^ w)

abbrev pub parts_of : List Part → ℕ → List Shown
parts_of [] n = []
parts_of (rfu w ∷ ps) n = parts_of ps (n / 2 ^ w)
parts_of (part name w least most ∷ ps) n = number name (n % 2 ^ w) ∷ parts_of ps (n / 2 ^ w)

-- a number in its range
abbrev pub number_at : ℕ → ℕ → ℕ → Left → Result (ℕ × Left) Refusal
number_at k least most left = do
  w ← word_at k left
  if within least most w.0 then Ok w else refuse left.at Value

-- a number that is 0 or in its range
abbrev pub zero_or_number_at : ℕ → ℕ → ℕ → Left → Result (ℕ × Left) Refusal
zero_or_number_at k least most left = do
  w ← word_at k left
  if (w.0 == 0) || within least most w.0 then Ok w else refuse left.at Value

-- octets behind their length
abbrev pub counted_at : ℕ → ℕ → Left → Result (List ℕ × Left) Refusal
counted_at least most left = do
  w ← number_at 1 least most left
  octets_at w.0 w.1

abbrev pub field_at : Field → Left → Result (List Shown × Left) Refusal
field_at (word name k) left = do
  w ← word_at k left
  Ok (number name w.0 ∷ [], w.1)
field_at (num name k least most) left = do
  w ← number_at k least most left
  Ok (number name w.0 ∷ [], w.1)
field_at (zero_or name k least most) left = do
  w ← zero_or_number_at k least most left
  Ok (number name w.0 ∷ [], w.1)
field_at (split k parts) left = do
  w ← word_at k left
  if parts_in parts w.0 then Ok (parts_of parts w.0, w.1) else refuse left.at Value
field_at (counted name least most) left = do
  taken ← counted_at least most left
  Ok (octets name taken.0 ∷ [], taken.1)
field_at (whole name n) left = do
  taken ← octets_at n left
  Ok (octets name taken.0 ∷ [], taken.1)
field_at (pattern name) left = do
  n ← pattern_at left
  Ok (number name n.0 ∷ [], n.1)

-- ---- fields

abbrev pub entry_at : List Field → Left → Result (List Shown × Left) Refusal
entry_at [] left = Ok ([], left)
entry_at (f ∷ fs) left = do
  first ← field_at f left
  others ← entry_at fs first.1
  Ok (first.0 ++ others.0, others.1)

-- entries to the end; there are at most as many as octets
abbrev pub entries_at : ℕ → List Field → Left → Result (List (List Shown)) Refusal
entries_at zero fs left = Ok []
entries_at (suc n) fs left =
    if length left.octets == 0 then Ok [] else (do
      first ← entry_at fs left
      others ← entries_at n fs first.1
      Ok (first.0 ∷ others))

-- the value of an earlier field
abbrev pub value_of : ℕ → List Shown → ℕ
value_of name [] = 0
value_of name (number n v ∷ shown) = if n == name then v else value_of name shown
value_of name (octets n v ∷ shown) = value_of name shown

abbrev pub is_one_of : List ℕ → ℕ → Bool
is_one_of [] n = false
is_one_of (x ∷ xs) n = (n == x) || is_one_of xs n

abbrev pub nothing_left : Left → Result (List Shown × List (List Shown)) Refusal
nothing_left left = if length left.octets == 0 then Ok ([], []) else refuse left.at Long

-- what is left is all octets of the field
abbrev pub rest_at : ℕ → ℕ → Left → Result (List ℕ) Refusal
rest_at least most left =
    if nat_lt (length left.octets) least then refuse left.at Short
    else if nat_lt most (length left.octets) then refuse (left.at + most) Long
    else Ok left.octets

-- what the fields show, and what their entries show; `before` is what the fields before them show
abbrev pub fields_at : Fields → List Shown → Left → Result (List Shown × List (List Shown)) Refusal
fields_at end before left = nothing_left left
fields_at (rest name least most) before left = do
  all ← rest_at least most left
  Ok (octets name all ∷ [], [])
fields_at (repeated name least fs) before left =
    if nat_lt (length left.octets) least then refuse left.at Short
    else (do
      es ← entries_at (length left.octets) fs left
      Ok ([], es))
fields_at (f ▹ fs) before left = do
  first ← field_at f left
  others ← fields_at fs (first.0 ++ before) first.1
  Ok (first.0 ++ others.0, others.1)
fields_at (when name values fs gs) before left =
    if is_one_of values (value_of name before) then fields_at fs before left else fields_at gs before left
fields_at (where_left n name fs gs) before left =
    if nat_lt (length left.octets) n then fields_at gs before left else fields_at fs before left

-- ---- a message

unfoldable pub opcode_at : Left → Result (ℕ × Left) Refusal
opcode_at left = do
  first ← word_at 1 left
  if within 0x80 0xBF first.0 then (if length first.1.octets == 0 then refuse left.at Short else Ok (first.0 * 256 + slice_index first.1.octets 0, after 1 first.1)) else Ok first

abbrev pub fields_of : List Row → ℕ → Option Fields
fields_of [] opcode = None
fields_of (row ∷ rows) opcode = if opcode == row.opcode then Some row.fields else fields_of rows opcode

abbrev pub row_at : Option Fields → ℕ → Left → Result Message Refusal
row_at None opcode left = refuse 0 Opcode
row_at (Some fields) opcode left = do
  shown ← fields_at fields [] left
  Ok (record { opcode = opcode; fields = shown.0; entries = shown.1 })

-- the message that the octets spell by the rows, or the first place where they spell none
abbrev pub message_at : List Row → List ℕ → Result Message Refusal
message_at rows bytes =
    if nat_lt most_octets (length bytes) then refuse most_octets Long else (do
      opcode ← opcode_at (record { at = 0; octets = bytes })
      row_at (fields_of rows opcode.0) opcode.0 opcode.1)
