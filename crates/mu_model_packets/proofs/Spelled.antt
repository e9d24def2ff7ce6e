-- The canonical octets of a message begin with octets up to the first field that is no number, whatever its numbers are and
-- whatever stands behind them.
use Rattle.std.proofs.Common.{◌≡◌, ℕ, zero, suc, ◌+◌, ◌/◌, ◌%◌, ◌^◌, ◌≤◌, ◌<◌, Bool, true, false, ltb, cond, List, [], ◌∷◌, ◌++◌, drop, take, Option, Some, None, refl, arith}
use Rattle.std.proofs.lemmas.Bool.{ltb-true}
use Rattle.std.specs.Int.{byte_at, bytes_low_first}
use Rattle.mu_model_wire.specs.Fields.{word, num, split, Fields, ◌▹◌, Shown, number, octets as shown_octets, Message}
use Rattle.mu_model_wire.specs.Reading.{fields_of}
use Rattle.mu_model_wire.specs.Spelling.{part_count, joined, fields_spelling, row_spelling, spelling}
use Rattle.mu_model_wire.specs.Table.{rows}
use Rattle.mu_model_packets.proofs.Tested.{Opens, numbers_of, row_numbers, opcode_width, opening}

-- ---- octets

opens_one : (m n x : ℕ) (bytes : List ℕ) → m ≤ suc n → x < 256 → Opens n bytes → Opens m (x ∷ bytes)
opens_one m n x bytes less small h zero l = small
opens_one m n x bytes less small h (suc i) l = h i (omega arith)

octet_small : (i v : ℕ) → byte_at i v < 256
octet_small zero v = omega arith
octet_small (suc i) v =
    let above : ℕ = v / 256 ^ suc i in
    let small : above % 256 < 256 = omega arith in
    small

opens_number : (i k v n : ℕ) (bytes : List ℕ) → Opens n bytes → Opens (k + n) (bytes_low_first i k v ++ bytes)
opens_number i zero v n bytes h = λ j l. h j (omega arith)
opens_number i (suc k) v n bytes h =
    opens_one (suc k + n) (k + n) (byte_at i v) (bytes_low_first (suc i) k v ++ bytes) (omega arith) (octet_small i v) (opens_number (suc i) k v n bytes h)

-- ---- fields

-- the list has a number for each field up to the first that is no number
abbrev HasNumbers : Fields → List Shown → Type 0
HasNumbers (word name k ▹ fs) (number n v ∷ shown) = HasNumbers fs shown
HasNumbers (word name k ▹ fs) shown = ⊥
HasNumbers (num name k least most ▹ fs) (number n v ∷ shown) = HasNumbers fs shown
HasNumbers (num name k least most ▹ fs) shown = ⊥
HasNumbers (split k ps ▹ fs) shown = HasNumbers fs (drop (part_count ps) shown)
HasNumbers fs shown = Unit {0}

fields_open : (fs : Fields) (before shown : List Shown) (entries : List (List Shown)) → HasNumbers fs shown → Opens (numbers_of fs) (fields_spelling fs before shown entries)
fields_open (word name k ▹ fs) before (number n v ∷ shown) entries h =
    opens_number 0 k v (numbers_of fs) (fields_spelling fs (number n v ∷ before) shown entries) (fields_open fs (number n v ∷ before) shown entries h)
fields_open (word name k ▹ fs) before (shown_octets n os ∷ shown) entries h = absurd h
fields_open (word name k ▹ fs) before [] entries h = absurd h
fields_open (num name k least most ▹ fs) before (number n v ∷ shown) entries h =
    opens_number 0 k v (numbers_of fs) (fields_spelling fs (number n v ∷ before) shown entries) (fields_open fs (number n v ∷ before) shown entries h)
fields_open (num name k least most ▹ fs) before (shown_octets n os ∷ shown) entries h = absurd h
fields_open (num name k least most ▹ fs) before [] entries h = absurd h
fields_open (split k ps ▹ fs) before shown entries h =
    let others = fields_open fs (take (part_count ps) shown ++ before) (drop (part_count ps) shown) entries h in
    opens_number 0 k (joined ps shown) (numbers_of fs) (fields_spelling fs (take (part_count ps) shown ++ before) (drop (part_count ps) shown) entries) others
fields_open fs before shown entries h = λ i l. absurd (omega arith)

-- ---- a message

opcode_opens : (wide : Bool) (opcode n : ℕ) (bytes : List ℕ) → ltb opcode 256 ≡ wide → opcode < 2 ^ 16 → Opens n bytes
    → Opens (cond wide 1 2 + n) (cond wide (opcode ∷ []) (opcode / 256 ∷ opcode % 256 ∷ []) ++ bytes)
opcode_opens true opcode n bytes e small h = opens_one (1 + n) n opcode bytes (omega arith) (ltb-true _ _ e) h
opcode_opens false opcode n bytes e small h =
    let low : opcode % 256 < 256 = omega arith in
    opens_one (2 + n) (1 + n) (opcode / 256) (opcode % 256 ∷ bytes) (omega arith) (omega arith) (opens_one (1 + n) n (opcode % 256) bytes (omega arith) low h)

abbrev RowHasNumbers : Option Fields → List Shown → Type 0
RowHasNumbers None shown = ⊥
RowHasNumbers (Some fs) shown = HasNumbers fs shown

-- a message with an opcode of at most two octets, and with its row's numbers
abbrev pub IsShaped : Message → Type 0
IsShaped m = (m.opcode < 2 ^ 16) × RowHasNumbers (fields_of rows m.opcode) m.fields

by_row : (found : Option Fields) (m : Message) → m.opcode < 2 ^ 16 → RowHasNumbers found m.fields → Opens (opcode_width m.opcode + row_numbers found) (row_spelling found m)
by_row None m small h = absurd h
by_row (Some fs) m small h =
    opcode_opens (ltb m.opcode 256) m.opcode (numbers_of fs) (fields_spelling fs [] m.fields m.entries) refl small (fields_open fs [] m.fields m.entries h)

pub spelling_opens : (m : Message) → IsShaped m → Opens (opening m.opcode) (spelling rows m)
spelling_opens m h = by_row (fields_of rows m.opcode) m h.0 h.1
