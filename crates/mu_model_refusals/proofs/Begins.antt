-- A beginning of what is read is read, or too short.
use Rattle.std.proofs.Common.{◌≡◌, ◌≢◌, ℕ, zero, suc, ◌+◌, ◌≤◌, Bool, true, false, cond, eqb, List, [], ◌∷◌, ◌++◌, length, take, drop, Option, Some, None, Result, Ok, Err, refl, sym, ap, subst, ◌∙◌, arith, inl, inr, length-append}
use Rattle.std.specs.Prelude.{nat_lt, ◌&&◌, ◌||◌, ◌==◌}
use Rattle.std.proofs.lemmas.Bool.{le-ltb, and_parts, ltb-true, ltb-false, eqb-true, or_cases}
use Rattle.std.proofs.lemmas.List.{take-append-drop}
use Rattle.mu_model_wire.specs.declared.Refusal.{Refusal}
use Rattle.mu_model_wire.specs.declared.Why.{Why}
use Rattle.mu_model_wire.specs.declared.Why.TheVariants.{Short, Long}
use Rattle.mu_model_wire.specs.Fields.{Field, word, num, zero_or, split, counted, whole, pattern, Fields, end, rest, repeated, ◌▹◌, when, where_left, Shown, octets, Row, Message}
use Rattle.mu_model_wire.specs.Reading.{◌>>=◌, Left, refuse, field_at, entry_at, entries_at, rest_at, fields_at, value_of, is_one_of, opcode_at, fields_of, row_at, message_at}
use Rattle.mu_model_wire.specs.Table.{rows}
use Rattle.mu_model_refusals.proofs.Readers.{left_at, Reader, Done, ok_is, place_of, why_of, bind_ok, split_at, word_lack, octets_lack}
use Rattle.mu_model_refusals.proofs.Fields.{Read, narrow, all_narrow, narrow_row, field_local, entry_local, more_entries, next_fields, listed, pattern_none}
use Rattle.mu_model_refusals.proofs.Messages.{opcode_local, found_narrow, read_by, not_zero}

-- it is read, or octets lack at a place that is there
abbrev Begins : {Y : Type 0} → ℕ → List ℕ → Result Y Refusal → Type 0
Begins at p (Ok y) = Unit {0}
Begins at p (Err e) = (e.why ≡ Short) × (e.at ≤ at + length p)

begins_more : {Y Z : Type 0} (at : ℕ) (p : List ℕ) (r : Result Y Refusal) (f : Y → Z) → Begins at p r → Begins at p (r >>= λ y. Ok (f y))
begins_more at p (Ok y) f h = tt
begins_more at p (Err e) f h = h

-- what follows begins further on
begins_later : {Y : Type 0} (at later : ℕ) (p used more : List ℕ) (r : Result Y Refusal) → later ≡ at + length used → p ≡ used ++ more → Begins later more r → Begins at p r
begins_later at later p used more (Ok y) e s h = tt
begins_later at later p used more (Err d) e s h =
    let n : length p ≡ length used + length more = ap (length {A = ℕ}) s ∙ length-append used more in
    let place = h.1 in
    (h.0, omega (arith, n, e, place))

-- a reader, and what follows it, on a beginning
after_reader : {A Y : Type 0} (r : Reader A) (f : A → Left → Result Y Refusal) (at : ℕ) (os p q : List ℕ) (x : A) (next : Left) → os ≡ p ++ q → Done r at os x next
    → ((more : List ℕ) → next.octets ≡ more ++ q → Begins next.at more (f x (left_at next.at more))) → Begins at p (r (left_at at p) >>= λ y. f y.0 y.1)
after_reader r f at os p q x next e d follows = elim (split_at d.used next.octets p q (sym d.split ∙ e)) [
  | inl h ↦ let s = d.short p h.0 h.1 h.2 in rw s.2 (refl, s.1)
  | inr h ↦
      let read : r (left_at at p) ≡ Ok (x, left_at next.at h.0) = ap (λ xs. r (left_at at xs)) h.1 ∙ d.alone h.0 in
      rw read (begins_later at next.at p d.used h.0 (f x (left_at next.at h.0)) d.place h.1 (follows h.0 h.2))
]

-- ---- entries

abbrev moves : Field → Bool
moves (word name k) = nat_lt 0 k
moves (num name k least most) = nat_lt 0 k
moves (zero_or name k least most) = nat_lt 0 k
moves (split k parts) = nat_lt 0 k
moves (counted name least most) = true
moves (whole name n) = nat_lt 0 n
moves (pattern name) = true

-- of nothing nothing is read
nothing_read : (f : Field) (at : ℕ) → moves f ≡ true → field_at f (left_at at []) ≡ refuse at Short
nothing_read (word name k) at h = rw (word_lack k at [] (ltb-true 0 k h)) refl
nothing_read (num name k least most) at h = rw (word_lack k at [] (ltb-true 0 k h)) refl
nothing_read (zero_or name k least most) at h = rw (word_lack k at [] (ltb-true 0 k h)) refl
nothing_read (split k parts) at h = rw (word_lack k at [] (ltb-true 0 k h)) refl
nothing_read (counted name least most) at h = rw (word_lack 1 at [] (omega arith)) refl
nothing_read (whole name n) at h = rw (octets_lack n at [] (ltb-true 0 n h)) refl
nothing_read (pattern name) at h = rw (pattern_none at) refl

abbrev has_octets : List Field → Bool
has_octets [] = false
has_octets (f ∷ fs) = moves f

entry_of_nothing : (fs : List Field) (at : ℕ) → has_octets fs ≡ true → entry_at fs (left_at at []) ≡ refuse at Short
entry_of_nothing [] at h = absurd cc
entry_of_nothing (f ∷ fs) at h = rw (nothing_read f at h) refl

entry_has : (fs : List Field) (at : ℕ) (os : List ℕ) (x : List Shown) (next : Left) → has_octets fs ≡ true → (d : Done (entry_at fs) at os x next) → (used : List ℕ) → d.used ≡ used → 1 ≤ length used
entry_has fs at os x next h d [] e =
    let read : entry_at fs (left_at at []) ≡ Ok (x, left_at next.at []) = ap (λ xs. entry_at fs (left_at at (xs ++ []))) (sym e) ∙ d.alone [] in
    absurd (let no : refuse at Short ≡ Ok (x, left_at next.at []) = sym (entry_of_nothing fs at h) ∙ read in cc)
entry_has fs at os x next h d (a ∷ used) e = omega arith

entries_begin : (n m : ℕ) (fs : List Field) → all_narrow fs ≡ true → has_octets fs ≡ true → (at : ℕ) (os p q : List ℕ) → length os ≤ n → os ≡ p ++ q → (es : List (List Shown))
    → entries_at n fs (left_at at os) ≡ Ok es → Begins at p (entries_at m fs (left_at at p))
entries_begin n zero fs h k at os p q few e es read = tt
entries_begin n (suc m) fs h k at os [] q few e es read = tt
entries_begin zero (suc m) fs h k at os (a ∷ p) q few e es read =
    absurd (let c : length os ≡ suc (length p + length q) = ap (length {A = ℕ}) e ∙ ap suc (length-append p q) in omega (arith, few, c))
entries_begin (suc n) (suc m) fs h k at os (a ∷ p) q few e es read =
    let more_read : entries_at (suc n) fs (left_at at (a ∷ p ++ q)) ≡ Ok es = ap (λ xs. entries_at (suc n) fs (left_at at xs)) (sym e) ∙ read in
    let here : (entry_at fs (left_at at (a ∷ p ++ q)) >>= λ first. more_entries n fs first.0 first.1) ≡ Ok es = rw (not_zero (length (p ++ q))) at more_read in
    let b = bind_ok (entry_at fs (left_at at (a ∷ p ++ q))) (λ first. more_entries n fs first.0 first.1) es here in
    let d = (entry_local fs h).done at (a ∷ p ++ q) b.0.0 b.0.1 b.1 in
    let c = bind_ok (entries_at n fs b.0.1) (λ others. Ok (b.0.0 ∷ others)) es b.2 in
    let some = entry_has fs at (a ∷ p ++ q) b.0.0 b.0.1 k d d.used refl in
    let total : length os ≡ length d.used + length b.0.1.octets = ap (length {A = ℕ}) (e ∙ d.split) ∙ length-append d.used b.0.1.octets in
    rw (not_zero (length p)) (after_reader (entry_at fs) (more_entries m fs) at (a ∷ p ++ q) (a ∷ p) q b.0.0 b.0.1 refl d
    (λ more s. begins_more b.0.1.at more (entries_at m fs (left_at b.0.1.at more)) (λ others. b.0.0 ∷ others)
    (entries_begin n m fs h k b.0.1.at b.0.1.octets more q (omega (arith, few, some, total)) s c.0 c.1)))

-- ---- all fields of a row

abbrev is_end : Fields → Bool
is_end end = true
is_end _ = false

-- what stands there is decided by the octets that are left only where it may lack
abbrev pub plain : Fields → Bool
plain end = true
plain (rest name least most) = true
plain (repeated name least fs) = has_octets fs
plain (f ▹ fs) = plain fs
plain (when name values fs gs) = plain fs && plain gs
plain (where_left n name fs gs) = (n == 1) && is_end gs && plain fs

end_begins : (at : ℕ) (os p q : List ℕ) (y : Read) → os ≡ p ++ q → cond (eqb (length os) 0) (Ok ([], [])) (refuse at Long) ≡ Ok y → Begins at p (fields_at end [] (left_at at p))
end_begins at os [] q y e read = tt
end_begins at os (a ∷ p) q y e read =
    let here : cond (eqb (length (a ∷ p ++ q)) 0) (Ok ([], [])) (refuse at Long) ≡ Ok y = ap (λ xs. cond (eqb (length xs) 0) (Ok ([], [])) (refuse at Long)) (sym e) ∙ read in
    absurd (let no : refuse at Long ≡ Ok y = rw (not_zero (length (p ++ q))) at here in cc)

rest_begins : (name least most at : ℕ) (p : List ℕ) (few many : Bool) → many ≡ false
    → Begins {Y = Read} at p (cond few (refuse at Short) (cond many (refuse (at + most) Long) (Ok p)) >>= λ all. Ok (octets name all ∷ [], []))
rest_begins name least most at p true many fits = (refl, omega arith)
rest_begins name least most at p false true fits = absurd cc
rest_begins name least most at p false false fits = tt

rest_most : (few many : Bool) (at last : ℕ) (os all : List ℕ) → cond few (refuse at Short) (cond many (refuse last Long) (Ok os)) ≡ Ok all → many ≡ false
rest_most true many at last os all e = absurd cc
rest_most false true at last os all e = absurd cc
rest_most false false at last os all e = refl

few_begins : (at : ℕ) (p : List ℕ) (few : Bool) (r : Result Read Refusal) → Begins at p r → Begins at p (cond few (refuse at Short) r)
few_begins at p true r h = (refl, omega arith)
few_begins at p false r h = h

not_few : (few : Bool) (at : ℕ) (r : Result Read Refusal) (y : Read) → cond few (refuse at Short) r ≡ Ok y → r ≡ Ok y
not_few true at r y e = absurd cc
not_few false at r y e = e

when_begins : (b : Bool) (at : ℕ) (p : List ℕ) (fs gs fs_os gs_os : Result Read Refusal) (y : Read) → (fs_os ≡ Ok y → Begins at p fs) → (gs_os ≡ Ok y → Begins at p gs) → cond b fs_os gs_os ≡ Ok y → Begins at p (cond b fs gs)
when_begins true at p fs gs fs_os gs_os y f g e = f e
when_begins false at p fs gs fs_os gs_os y f g e = g e

optional_begins : (n name : ℕ) (fs gs : Fields) (before : List Shown) (at : ℕ) (os p q : List ℕ) → n ≡ 1 → is_end gs ≡ true → os ≡ p ++ q → (y : Read)
    → (fields_at fs before (left_at at os) ≡ Ok y → Begins at p (fields_at fs before (left_at at p)))
    → fields_at (where_left n name fs gs) before (left_at at os) ≡ Ok y → Begins at p (fields_at (where_left n name fs gs) before (left_at at p))
optional_begins n name fs end before at os [] q one last e y f read = rw one tt
optional_begins n name fs end before at os (a ∷ p) q one last e y f read =
    let there : nat_lt (length (a ∷ p)) n ≡ false = le-ltb (length (a ∷ p)) n (omega (arith, one)) in
    let c : length os ≡ suc (length p + length q) = ap (length {A = ℕ}) e ∙ ap suc (length-append p q) in
    let all : nat_lt (length os) n ≡ false = le-ltb (length os) n (omega (arith, one, c)) in
    rw there (f (rw all at read))
optional_begins n name fs (rest a b c) before at os p q one last e y f read = absurd cc
optional_begins n name fs (repeated a b c) before at os p q one last e y f read = absurd cc
optional_begins n name fs (a ▹ b) before at os p q one last e y f read = absurd cc
optional_begins n name fs (when a b c d) before at os p q one last e y f read = absurd cc
optional_begins n name fs (where_left a b c d) before at os p q one last e y f read = absurd cc

pub fields_begin : (fs : Fields) → narrow_row fs ≡ true → plain fs ≡ true → (before : List Shown) (at : ℕ) (os p q : List ℕ) → os ≡ p ++ q → (y : Read)
    → fields_at fs before (left_at at os) ≡ Ok y → Begins at p (fields_at fs before (left_at at p))
fields_begin end h k before at os p q e y read = end_begins at os p q y e read
fields_begin (rest name least most) h k before at os p q e y read =
    let b = bind_ok (rest_at least most (left_at at os)) (λ all. Ok (octets name all ∷ [], [])) y read in
    let all = ltb-false most (length os) (rest_most (nat_lt (length os) least) (nat_lt most (length os)) at (at + most) os b.0 b.1) in
    let c : length os ≡ length p + length q = ap (length {A = ℕ}) e ∙ length-append p q in
    rest_begins name least most at p (nat_lt (length p) least) (nat_lt most (length p)) (le-ltb most (length p) (omega (arith, all, c)))
fields_begin (repeated name least fs) h k before at os p q e y read =
    let here = not_few (nat_lt (length os) least) at (listed (length os) fs (left_at at os)) y read in
    let b = bind_ok (entries_at (length os) fs (left_at at os)) (λ es. Ok ([], es)) y here in
    few_begins at p (nat_lt (length p) least) (listed (length p) fs (left_at at p))
    (begins_more at p (entries_at (length p) fs (left_at at p)) (λ es. ([], es)) (entries_begin (length os) (length p) fs h k at os p q (omega arith) e b.0 b.1))
fields_begin (f ▹ fs) h k before at os p q e y read =
    let parts = and_parts (narrow f) (narrow_row fs) h in
    let b = bind_ok (field_at f (left_at at os)) (λ first. next_fields fs before first.0 first.1) y read in
    let d = (field_local f parts.0).done at os b.0.0 b.0.1 b.1 in
    let c = bind_ok (fields_at fs (b.0.0 ++ before) b.0.1) (λ others. Ok (b.0.0 ++ others.0, others.1)) y b.2 in
    after_reader (field_at f) (next_fields fs before) at os p q b.0.0 b.0.1 e d
    (λ more s. begins_more b.0.1.at more (fields_at fs (b.0.0 ++ before) (left_at b.0.1.at more)) (λ others. (b.0.0 ++ others.0, others.1))
    (fields_begin fs parts.1 k (b.0.0 ++ before) b.0.1.at b.0.1.octets more q s c.0 c.1))
fields_begin (when name values fs gs) h k before at os p q e y read =
    let ns = and_parts (narrow_row fs) (narrow_row gs) h in
    let ps = and_parts (plain fs) (plain gs) k in
    when_begins (is_one_of values (value_of name before)) at p (fields_at fs before (left_at at p)) (fields_at gs before (left_at at p)) (fields_at fs before (left_at at os)) (fields_at gs before (left_at at os)) y
    (fields_begin fs ns.0 ps.0 before at os p q e y) (fields_begin gs ns.1 ps.1 before at os p q e y) read
fields_begin (where_left n name fs gs) h k before at os p q e y read =
    let ns = and_parts (narrow_row fs) (narrow_row gs) h in
    let ps = and_parts ((n == 1) && is_end gs) (plain fs) k in
    let qs = and_parts (n == 1) (is_end gs) ps.0 in
    optional_begins n name fs gs before at os p q (eqb-true n 1 qs.0) qs.1 e y (fields_begin fs ns.0 ps.1 before at os p q e y) read

-- ---- messages

abbrev row_plain : Row → Bool
row_plain row = (row.opcode == 0x8319) || plain row.fields

abbrev all_rows_plain : List Row → Bool
all_rows_plain [] = true
all_rows_plain (row ∷ rows) = row_plain row && all_rows_plain rows

plain_by : (row : Row) (opcode : ℕ) (fs : Fields) (found : Option Fields) (b : Bool) → (opcode == row.opcode) ≡ b → opcode ≢ 0x8319 → row_plain row ≡ true → (found ≡ Some fs → plain fs ≡ true)
    → cond b (Some row.fields) found ≡ Some fs → plain fs ≡ true
plain_by row opcode fs found true is other here more e =
    let same : row.fields ≡ fs = cc in
    subst (λ f. plain f ≡ true) same (elim (or_cases (row.opcode == 0x8319) (plain row.fields) here) [
      | inl h ↦ absurd (other (eqb-true opcode row.opcode is ∙ eqb-true row.opcode 0x8319 h))
      | inr h ↦ h
    ])
plain_by row opcode fs found false is other here more e = more e

found_plain : (table : List Row) (opcode : ℕ) (fs : Fields) → opcode ≢ 0x8319 → all_rows_plain table ≡ true → fields_of table opcode ≡ Some fs → plain fs ≡ true
found_plain [] opcode fs other h e = absurd cc
found_plain (row ∷ table) opcode fs other h e =
    let p = and_parts (row_plain row) (all_rows_plain table) h in
    plain_by row opcode fs (fields_of table opcode) (opcode == row.opcode) refl other p.0 (found_plain table opcode fs other p.1) e

row_begins : (opcode : ℕ) (found : Option Fields) → ((fs : Fields) → found ≡ Some fs → narrow_row fs ≡ true) → ((fs : Fields) → found ≡ Some fs → plain fs ≡ true) → (at : ℕ) (os p q : List ℕ) → os ≡ p ++ q → (m : Message)
    → row_at found opcode (left_at at os) ≡ Ok m → Begins at p (row_at found opcode (left_at at p))
row_begins opcode None h k at os p q e m read = absurd cc
row_begins opcode (Some fs) h k at os p q e m read =
    let b = bind_ok (fields_at fs [] (left_at at os)) (λ shown. Ok (record { opcode = opcode; fields = shown.0; entries = shown.1 })) m read in
    begins_more at p (fields_at fs [] (left_at at p)) (λ shown. record { opcode = opcode; fields = shown.0; entries = shown.1 }) (fields_begin fs (h fs refl) (k fs refl) [] at os p q e b.0 b.1)

-- the opcode of what is read
pub row_opcode : (opcode : ℕ) (found : Option Fields) (left : Left) (m : Message) → row_at found opcode left ≡ Ok m → opcode ≡ m.opcode
row_opcode opcode None left m e = absurd cc
row_opcode opcode (Some fs) left m e = let b = bind_ok (fields_at fs [] left) (λ shown. Ok (record { opcode = opcode; fields = shown.0; entries = shown.1 })) m e in let same = ok_is b.2 in ap (λ (x : Message). x.opcode) same

pub message_begins : (p q : List ℕ) (m : Message) → m.opcode ≢ 0x8319 → read_by false (p ++ q) ≡ Ok m → Begins 0 p (read_by false p)
message_begins p q m other read =
    let b = bind_ok (opcode_at (left_at 0 (p ++ q))) (λ opcode. row_at (fields_of rows opcode.0) opcode.0 opcode.1) m read in
    let d = opcode_local.done 0 (p ++ q) b.0.0 b.0.1 b.1 in
    let opcode = row_opcode b.0.0 (fields_of rows b.0.0) b.0.1 m b.2 in
    let another : b.0.0 ≢ 0x8319 = λ is. other (sym opcode ∙ is) in
    after_reader opcode_at (λ opcode left. row_at (fields_of rows opcode) opcode left) 0 (p ++ q) p q b.0.0 b.0.1 refl d
    (λ more s. row_begins b.0.0 (fields_of rows b.0.0) (λ fs. found_narrow rows b.0.0 fs refl) (λ fs. found_plain rows b.0.0 fs another refl) b.0.1.at b.0.1.octets more q s m b.2)

told_short : (p : List ℕ) (r : Result Message Refusal) (at : ℕ) (why : Why) → Begins 0 p r → r ≡ refuse at why → (why ≡ Short) × (at ≤ length p)
told_short p (Ok m) at why h e = absurd cc
told_short p (Err d) at why h e =
    let reason : d.why ≡ why = ap (λ (r : Result Message Refusal). why_of r) e in
    let place : d.at ≡ at = ap (λ (r : Result Message Refusal). place_of r) e in
    let there = h.1 in
    (sym reason ∙ h.0, omega (arith, place, there))

pub within_limit : (bytes : List ℕ) (b : Bool) (m : Message) → nat_lt 380 (length bytes) ≡ b → read_by b bytes ≡ Ok m → (nat_lt 380 (length bytes) ≡ false) × (read_by false bytes ≡ Ok m)
within_limit bytes true m is e = absurd cc
within_limit bytes false m is e = (is, e)

pub beginnings_are_short : (bytes : List ℕ) (m : Message) (n at : ℕ) (why : Why) → message_at rows bytes ≡ Ok m → m.opcode ≢ 0x8319
    → message_at rows (take n bytes) ≡ refuse at why → (why ≡ Short) × (at ≤ length (take n bytes))
beginnings_are_short bytes m n at why read other e =
    let w = within_limit bytes (nat_lt 380 (length bytes)) m refl read in
    let few = ltb-false 380 (length bytes) w.0 in
    let c : length bytes ≡ length (take n bytes) + length (drop n bytes) = ap (length {A = ℕ}) (sym (take-append-drop n bytes)) ∙ length-append (take n bytes) (drop n bytes) in
    let limit : nat_lt 380 (length (take n bytes)) ≡ false = le-ltb 380 (length (take n bytes)) (omega (arith, few, c)) in
    let whole : read_by false (take n bytes ++ drop n bytes) ≡ Ok m = ap (λ xs. read_by false xs) (take-append-drop n bytes) ∙ w.1 in
    let part : read_by false (take n bytes) ≡ refuse at why = rw limit at e in
    told_short (take n bytes) (read_by false (take n bytes)) at why (message_begins (take n bytes) (drop n bytes) m other whole) part
