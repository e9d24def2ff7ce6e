-- What is too long begins with what is read whole.
use Rattle.std.proofs.Common.{◌≡◌, ℕ, zero, suc, ◌+◌, ◌≤◌, ◌<◌, ◌⊎◌, Bool, true, false, cond, eqb, List, [], ◌∷◌, ◌++◌, length, take, drop, Option, Some, None, Result, Ok, refl, sym, ap, subst, ◌∙◌, arith, inl, inr, append_assoc, length-append}
use Rattle.std.specs.Prelude.{nat_lt, nat_le, ◌&&◌, ◌==◌}
use Rattle.std.proofs.lemmas.Bool.{lt-ltb, le-ltb, cases_lt, and_parts, ltb-true, ltb-false, leb-true}
use Rattle.std.proofs.lemmas.List.{take-append-drop, take_at, length-take-le}
use Rattle.mu_model_wire.specs.declared.Refusal.{Refusal}
use Rattle.mu_model_wire.specs.declared.Why.TheVariants.{Opcode, Short, Long}
use Rattle.mu_model_wire.specs.Fields.{Field, word, num, zero_or, split, counted, whole, pattern, Fields, end, rest, repeated, ◌▹◌, when, where_left, Shown, octets, Row, Message}
use Rattle.mu_model_wire.specs.Reading.{◌>>=◌, Left, refuse, field_at, entry_at, entries_at, rest_at, fields_at, value_of, is_one_of, opcode_at, fields_of, row_at, message_at}
use Rattle.mu_model_wire.specs.Table.{rows}
use Rattle.mu_model_refusals.proofs.Readers.{left_at, Reader, Done, place_is, why_is, short_long, bind_err, octets_lack}
use Rattle.mu_model_refusals.proofs.Fields.{Read, narrow, all_narrow, narrow_row, field_local, entry_local, more_entries, next_fields, listed}
use Rattle.mu_model_refusals.proofs.Messages.{opcode_local, found_narrow, read_by}

-- the octets in front of the place are read whole, and some are behind it
record Ends {Y : Type 0} (r : Left → Result Y Refusal) (at : ℕ) (os : List ℕ) (a : ℕ) : Type 0 where
  front : List ℕ
  behind : List ℕ
  split : os ≡ front ++ behind
  some : 0 < length behind
  place : a ≡ at + length front
  what : Y
  read : r (left_at at front) ≡ Ok what

ends_more : {Y Z : Type 0} (r : Left → Result Y Refusal) (f : Y → Z) (at : ℕ) (os : List ℕ) (a : ℕ) → Ends r at os a → Ends (λ left. r left >>= λ y. Ok (f y)) at os a
ends_more r f at os a h = record { front = h.front; behind = h.behind; split = h.split; some = h.some; place = h.place; what = f h.what; read = rw h.read refl }

-- behind a reader
ends_behind : {A Y : Type 0} (r : Reader A) (f : A → Left → Result Y Refusal) (at : ℕ) (os : List ℕ) (x : A) (next : Left) (a : ℕ) → Done r at os x next → Ends (f x) next.at next.octets a
    → Ends (λ left. r left >>= λ y. f y.0 y.1) at os a
ends_behind r f at os x next a d h =
    let n : length (d.used ++ h.front) ≡ length d.used + length h.front = length-append d.used h.front in
    let here = h.place in
    let there = d.place in
    record {
      front = d.used ++ h.front;
      behind = h.behind;
      split = d.split ∙ ap (λ xs. d.used ++ xs) h.split ∙ sym (append_assoc d.used h.front h.behind);
      some = h.some;
      place = omega (arith, n, here, there);
      what = h.what;
      read = rw (d.alone h.front) h.read;
    }

-- ---- entries are never too long

entries_never : (n : ℕ) (fs : List Field) → all_narrow fs ≡ true → (at : ℕ) (os : List ℕ) (a : ℕ) → entries_at n fs (left_at at os) ≡ refuse a Long → ⊥
entries_never zero fs h at os a e = absurd cc
entries_never (suc n) fs h at os a e = by_end (eqb (length os) 0) fs h at os a (entries_never n fs h) e
  where
    by_end : (b : Bool) (fs : List Field) → all_narrow fs ≡ true → (at : ℕ) (os : List ℕ) (a : ℕ) → ((at : ℕ) (os : List ℕ) (a : ℕ) → entries_at n fs (left_at at os) ≡ refuse a Long → ⊥)
        → cond b (Ok []) (entry_at fs (left_at at os) >>= λ first. more_entries n fs first.0 first.1) ≡ refuse a Long → ⊥
    by_end true fs h at os a again e = absurd cc
    by_end false fs h at os a again e = elim (bind_err (entry_at fs (left_at at os)) (λ first. more_entries n fs first.0 first.1) (record { at = a; why = Long }) e) [
      | inl k ↦ (entry_local fs h).never_long at os a k
      | inr k ↦ elim (bind_err (entries_at n fs k.0.1) (λ others. Ok (k.0.0 ∷ others)) (record { at = a; why = Long }) k.2) [
        | inl m ↦ again k.0.1.at k.0.1.octets a m
        | inr m ↦ let no : Ok (k.0.0 ∷ m.0) ≡ refuse a Long = m.2 in absurd cc
      ]
    ]

listed_never : (n : ℕ) (fs : List Field) → all_narrow fs ≡ true → (at : ℕ) (os : List ℕ) (a : ℕ) → listed n fs (left_at at os) ≡ refuse a Long → ⊥
listed_never n fs h at os a e = elim (bind_err (entries_at n fs (left_at at os)) (λ es. Ok ([], es)) (record { at = a; why = Long }) e) [
  | inl k ↦ entries_never n fs h at os a k
  | inr k ↦ let no : ◌≡◌ {A = Result Read Refusal} (Ok ([], k.0)) (refuse a Long) = k.2 in absurd cc
]

few_never : (few : Bool) (at a : ℕ) (r : Result Read Refusal) → (r ≡ refuse a Long → ⊥) → cond few (refuse at Short) r ≡ refuse a Long → ⊥
few_never true at a r h e = short_long e
few_never false at a r h e = h e

-- ---- all fields of a row

-- fields that have at least so many octets
abbrev has_least : ℕ → Fields → Bool
has_least n (rest name least most) = nat_le n least
has_least n (whole name m ▹ fs) = nat_le n m
has_least n _ = false

-- octets that are all have at most as many as they may have, and what is chosen by what is left has so many
abbrev pub ordered : Fields → Bool
ordered end = true
ordered (rest name least most) = nat_le least most
ordered (repeated name least fs) = true
ordered (f ▹ fs) = ordered fs
ordered (when name values fs gs) = ordered fs && ordered gs
ordered (where_left n name fs gs) = has_least n fs && ordered fs && ordered gs

end_ends : (b : Bool) (at a : ℕ) (os : List ℕ) (before : List Shown) → eqb (length os) 0 ≡ b → cond b (Ok ([], [])) (refuse {A = Read} at Long) ≡ refuse a Long → Ends (fields_at end before) at os a
end_ends true at a os before is e = absurd cc
end_ends false at a [] before is e = absurd (let no : true ≡ false = is in cc)
end_ends false at a (x ∷ os) before is e =
    let same : at ≡ a = place_is e in
    record { front = []; behind = x ∷ os; split = refl; some = omega arith; place = omega (arith, same); what = ([], []); read = refl }

rest_long : (few many : Bool) (at last a : ℕ) (os : List ℕ) → cond few (refuse at Short) (cond many (refuse last Long) (Ok os)) ≡ refuse a Long → (many ≡ true) × (last ≡ a)
rest_long true many at last a os e = absurd (short_long e)
rest_long false true at last a os e = (refl, place_is e)
rest_long false false at last a os e = absurd cc

rest_ends : (name least most at a : ℕ) (os : List ℕ) (before : List Shown) → least ≤ most → nat_lt most (length os) ≡ true → at + most ≡ a → Ends (fields_at (rest name least most) before) at os a
rest_ends name least most at a os before order long e =
    let more = ltb-true most (length os) long in
    let n : length (take most os) ≡ most = length-take-le most os (omega (arith, more)) in
    let c : length os ≡ length (take most os) + length (drop most os) = ap (length {A = ℕ}) (sym (take-append-drop most os)) ∙ length-append (take most os) (drop most os) in
    record {
      front = take most os;
      behind = drop most os;
      split = sym (take-append-drop most os);
      some = omega (arith, more, n, c);
      place = omega (arith, n, e);
      what = (octets name (take most os) ∷ [], []);
      read = rw (le-ltb (length (take most os)) least (omega (arith, n, order)), le-ltb most (length (take most os)) (omega (arith, n))) refl;
    }

-- as many octets as the first field has are read
enough : (n : ℕ) (fs : Fields) (before : List Shown) (at : ℕ) (os : List ℕ) (y : Read) → has_least n fs ≡ true → fields_at fs before (left_at at os) ≡ Ok y → n ≤ length os
enough n end before at os y h e = absurd cc
enough n (rest name least most) before at os y h e = by_few (nat_lt (length os) least) refl e
  where
    by_few : (few : Bool) → nat_lt (length os) least ≡ few → (cond few (refuse at Short) (cond (nat_lt most (length os)) (refuse (at + most) Long) (Ok os)) >>= λ all. Ok (octets name all ∷ [], [])) ≡ Ok y → n ≤ length os
    by_few true is e = absurd cc
    by_few false is e = let a = ltb-false (length os) least is in let b = leb-true n least h in omega (arith, a, b)
enough n (repeated name least fs) before at os y h e = absurd cc
enough n (whole name m ▹ fs) before at os y h e = elim (cases_lt (length os) m) [
  | inl few ↦ absurd (let no : refuse at Short ≡ Ok y = sym (lacks few) ∙ e in cc)
  | inr all ↦ let b = leb-true n m h in omega (arith, all, b)
]
  where
    lacks : length os < m → fields_at (whole name m ▹ fs) before (left_at at os) ≡ refuse at Short
    lacks few = rw (octets_lack m at os few) refl
enough n (word a b ▹ fs) before at os y h e = absurd cc
enough n (num a b c d ▹ fs) before at os y h e = absurd cc
enough n (zero_or a b c d ▹ fs) before at os y h e = absurd cc
enough n (split a b ▹ fs) before at os y h e = absurd cc
enough n (counted a b c ▹ fs) before at os y h e = absurd cc
enough n (pattern a ▹ fs) before at os y h e = absurd cc
enough n (when name values fs gs) before at os y h e = absurd cc
enough n (where_left m name fs gs) before at os y h e = absurd cc

next_long : (fs : Fields) (before first : List Shown) (left : Left) (a : ℕ) → next_fields fs before first left ≡ refuse a Long → fields_at fs (first ++ before) left ≡ refuse a Long
next_long fs before first left a e = elim (bind_err (fields_at fs (first ++ before) left) (λ others. Ok (first ++ others.0, others.1)) (record { at = a; why = Long }) e) [
  | inl k ↦ k
  | inr k ↦ absurd (let no : ◌≡◌ {A = Result Read Refusal} (Ok (first ++ k.0.0, k.0.1)) (refuse a Long) = k.2 in cc)
]

chosen_ends : {Y : Type 0} (r g : Left → Result Y Refusal) (at : ℕ) (os : List ℕ) (a : ℕ) (h : Ends g at os a) → r (left_at at h.front) ≡ g (left_at at h.front) → Ends r at os a
chosen_ends r g at os a h same = record { front = h.front; behind = h.behind; split = h.split; some = h.some; place = h.place; what = h.what; read = same ∙ h.read }

when_ends : (name : ℕ) (values : List ℕ) (fs gs : Fields) (before : List Shown) (at : ℕ) (os : List ℕ) (a : ℕ) (b : Bool) → is_one_of values (value_of name before) ≡ b
    → (fields_at fs before (left_at at os) ≡ refuse a Long → Ends (fields_at fs before) at os a) → (fields_at gs before (left_at at os) ≡ refuse a Long → Ends (fields_at gs before) at os a)
    → cond b (fields_at fs before (left_at at os)) (fields_at gs before (left_at at os)) ≡ refuse a Long → Ends (fields_at (when name values fs gs) before) at os a
when_ends name values fs gs before at os a true is f g e = chosen_ends (fields_at (when name values fs gs) before) (fields_at fs before) at os a (f e) (rw is refl)
when_ends name values fs gs before at os a false is f g e = chosen_ends (fields_at (when name values fs gs) before) (fields_at gs before) at os a (g e) (rw is refl)

where_ends : (n name : ℕ) (fs gs : Fields) (before : List Shown) (at : ℕ) (os : List ℕ) (a : ℕ) (b : Bool) → nat_lt (length os) n ≡ b → has_least n fs ≡ true
    → (fields_at fs before (left_at at os) ≡ refuse a Long → Ends (fields_at fs before) at os a) → (fields_at gs before (left_at at os) ≡ refuse a Long → Ends (fields_at gs before) at os a)
    → cond b (fields_at gs before (left_at at os)) (fields_at fs before (left_at at os)) ≡ refuse a Long → Ends (fields_at (where_left n name fs gs) before) at os a
where_ends n name fs gs before at os a true is h f g e =
    let k = g e in
    let few = ltb-true (length os) n is in
    let c : length os ≡ length k.front + length k.behind = ap (length {A = ℕ}) k.split ∙ length-append k.front k.behind in
    chosen_ends (fields_at (where_left n name fs gs) before) (fields_at gs before) at os a k (rw (lt-ltb (length k.front) n (omega (arith, few, c))) refl)
where_ends n name fs gs before at os a false is h f g e =
    let k = f e in
    chosen_ends (fields_at (where_left n name fs gs) before) (fields_at fs before) at os a k (rw (le-ltb (length k.front) n (enough n fs before at k.front k.what h k.read)) refl)

fields_long : (fs : Fields) → narrow_row fs ≡ true → ordered fs ≡ true → (before : List Shown) (at : ℕ) (os : List ℕ) (a : ℕ) → fields_at fs before (left_at at os) ≡ refuse a Long → Ends (fields_at fs before) at os a
fields_long end h k before at os a e = end_ends (eqb (length os) 0) at a os before refl e
fields_long (rest name least most) h k before at os a e = elim (bind_err (rest_at least most (left_at at os)) (λ all. Ok (octets name all ∷ [], [])) (record { at = a; why = Long }) e) [
  | inl m ↦ let l = rest_long (nat_lt (length os) least) (nat_lt most (length os)) at (at + most) a os m in rest_ends name least most at a os before (leb-true least most k) l.0 l.1
  | inr m ↦ absurd (let no : ◌≡◌ {A = Result Read Refusal} (Ok (octets name m.0 ∷ [], [])) (refuse a Long) = m.2 in cc)
]
fields_long (repeated name least fs) h k before at os a e = absurd (few_never (nat_lt (length os) least) at a (listed (length os) fs (left_at at os)) (listed_never (length os) fs h at os a) e)
fields_long (f ▹ fs) h k before at os a e =
    let p = and_parts (narrow f) (narrow_row fs) h in
    elim (bind_err (field_at f (left_at at os)) (λ first. next_fields fs before first.0 first.1) (record { at = a; why = Long }) e) [
      | inl m ↦ absurd ((field_local f p.0).never_long at os a m)
      | inr m ↦ ends_behind (field_at f) (next_fields fs before) at os m.0.0 m.0.1 a ((field_local f p.0).done at os m.0.0 m.0.1 m.1)
          (ends_more (fields_at fs (m.0.0 ++ before)) (λ others. (m.0.0 ++ others.0, others.1)) m.0.1.at m.0.1.octets a
          (fields_long fs p.1 k (m.0.0 ++ before) m.0.1.at m.0.1.octets a (next_long fs before m.0.0 m.0.1 a m.2)))
    ]
fields_long (when name values fs gs) h k before at os a e =
    let ns = and_parts (narrow_row fs) (narrow_row gs) h in
    let ps = and_parts (ordered fs) (ordered gs) k in
    when_ends name values fs gs before at os a (is_one_of values (value_of name before)) refl (fields_long fs ns.0 ps.0 before at os a) (fields_long gs ns.1 ps.1 before at os a) e
fields_long (where_left n name fs gs) h k before at os a e =
    let ns = and_parts (narrow_row fs) (narrow_row gs) h in
    let ps = and_parts (has_least n fs && ordered fs) (ordered gs) k in
    let qs = and_parts (has_least n fs) (ordered fs) ps.0 in
    where_ends n name fs gs before at os a (nat_lt (length os) n) refl qs.0 (fields_long fs ns.0 qs.1 before at os a) (fields_long gs ns.1 ps.1 before at os a) e

-- ---- messages

abbrev all_rows_ordered : List Row → Bool
all_rows_ordered [] = true
all_rows_ordered (row ∷ rows) = ordered row.fields && all_rows_ordered rows

ordered_by : (row : Row) (fs : Fields) (found : Option Fields) (b : Bool) → ordered row.fields ≡ true → (found ≡ Some fs → ordered fs ≡ true) → cond b (Some row.fields) found ≡ Some fs → ordered fs ≡ true
ordered_by row fs found true here more e = let same : row.fields ≡ fs = cc in subst (λ f. ordered f ≡ true) same here
ordered_by row fs found false here more e = more e

found_ordered : (table : List Row) (opcode : ℕ) (fs : Fields) → all_rows_ordered table ≡ true → fields_of table opcode ≡ Some fs → ordered fs ≡ true
found_ordered [] opcode fs h e = absurd cc
found_ordered (row ∷ table) opcode fs h e =
    let p = and_parts (ordered row.fields) (all_rows_ordered table) h in
    ordered_by row fs (fields_of table opcode) (opcode == row.opcode) p.0 (found_ordered table opcode fs p.1) e

row_long : (opcode : ℕ) (found : Option Fields) → ((fs : Fields) → found ≡ Some fs → narrow_row fs ≡ true) → ((fs : Fields) → found ≡ Some fs → ordered fs ≡ true) → (at : ℕ) (os : List ℕ) (a : ℕ)
    → row_at found opcode (left_at at os) ≡ refuse a Long → Ends (row_at found opcode) at os a
row_long opcode None h k at os a e = absurd (let no : Opcode ≡ Long = why_is e in cc)
row_long opcode (Some fs) h k at os a e = elim (bind_err (fields_at fs [] (left_at at os)) (λ shown. Ok (record { opcode = opcode; fields = shown.0; entries = shown.1 })) (record { at = a; why = Long }) e) [
  | inl m ↦ ends_more (fields_at fs []) (λ shown. record { opcode = opcode; fields = shown.0; entries = shown.1 }) at os a (fields_long fs (h fs refl) (k fs refl) [] at os a m)
  | inr m ↦ absurd (let no : ◌≡◌ {A = Result Message Refusal} (Ok (record { opcode = opcode; fields = m.0.0; entries = m.0.1 })) (refuse a Long) = m.2 in cc)
]

message_long : (bytes : List ℕ) (a : ℕ) → read_by false bytes ≡ refuse a Long → Ends (λ left. opcode_at left >>= λ opcode. row_at (fields_of rows opcode.0) opcode.0 opcode.1) 0 bytes a
message_long bytes a e = elim (bind_err (opcode_at (left_at 0 bytes)) (λ opcode. row_at (fields_of rows opcode.0) opcode.0 opcode.1) (record { at = a; why = Long }) e) [
  | inl m ↦ absurd (opcode_local.never_long 0 bytes a m)
  | inr m ↦ ends_behind opcode_at (λ opcode left. row_at (fields_of rows opcode) opcode left) 0 bytes m.0.0 m.0.1 a (opcode_local.done 0 bytes m.0.0 m.0.1 m.1)
      (row_long m.0.0 (fields_of rows m.0.0) (λ fs. found_narrow rows m.0.0 fs refl) (λ fs. found_ordered rows m.0.0 fs refl) m.0.1.at m.0.1.octets a m.2)
]

long_by : (b : Bool) (bytes : List ℕ) (at : ℕ) → nat_lt 380 (length bytes) ≡ b → read_by b bytes ≡ refuse at Long
    → (at < length bytes) × ((at ≡ 380) ⊎ ((m : Message) × (message_at rows (take at bytes) ≡ Ok m)))
long_by true bytes at is e = let same : 380 ≡ at = place_is e in let more = ltb-true 380 (length bytes) is in (omega (arith, same, more), inl (sym same))
long_by false bytes at is e =
    let h = message_long bytes at e in
    let few = ltb-false 380 (length bytes) is in
    let place = h.place in
    let some = h.some in
    let c : length bytes ≡ length h.front + length h.behind = ap (length {A = ℕ}) h.split ∙ length-append h.front h.behind in
    let front : take at bytes ≡ h.front = ap (λ xs. take at xs) h.split ∙ take_at h.front h.behind at (omega (arith, place)) in
    let limit : nat_lt 380 (length h.front) ≡ false = le-ltb 380 (length h.front) (omega (arith, few, c)) in
    let whole : message_at rows h.front ≡ Ok h.what = rw limit h.read in
    (omega (arith, c, some, place), inr (h.what, ap (message_at rows) front ∙ whole))

pub long_is_past : (bytes : List ℕ) (at : ℕ) → message_at rows bytes ≡ refuse at Long → (at < length bytes) × ((at ≡ 380) ⊎ ((m : Message) × (message_at rows (take at bytes) ≡ Ok m)))
long_is_past bytes at e = long_by (nat_lt 380 (length bytes)) bytes at refl e
