-- Octets lack near their end alone, and an opcode that no row has is refused as such, and nothing else.
use Rattle.std.proofs.Common.{◌≡◌, ℕ, zero, suc, ◌+◌, ◌*◌, ◌≤◌, ◌<◌, Bool, true, false, cond, eqb, get_or, List, [], ◌∷◌, ◌++◌, length, drop, Option, Some, None, Result, Ok, Err, refl, sym, ap, subst, ◌∙◌, arith, inl, inr, length-append}
use Rattle.std.specs.Prelude.{nat_lt, nat_le, ◌&&◌, ◌||◌, ◌==◌}
use Rattle.std.proofs.lemmas.Bool.{and_parts, ltb-true, leb-true, le-ltb}
use Rattle.mu_model_wire.specs.declared.Refusal.{Refusal}
use Rattle.mu_model_wire.specs.declared.Why.{Why}
use Rattle.mu_model_wire.specs.declared.Why.TheVariants.{Opcode, Short, Value, Long}
use Rattle.mu_model_wire.specs.Patterns.{within, pattern_length, pattern_number}
use Rattle.mu_model_wire.specs.Fields.{Field, word, num, zero_or, split, counted, whole, pattern, Fields, end, rest, repeated, ◌▹◌, when, where_left, Shown, octets, number, Row, Message}
use Rattle.mu_model_wire.specs.Reading.{◌>>=◌, Left, refuse, word_at, octets_at, or_value, pattern_at, number_at, zero_or_number_at, counted_at, parts_in, parts_of, field_at, entry_at, entries_at, rest_at, fields_at, value_of, is_one_of, opcode_at, fields_of, row_at, message_at}
use Rattle.mu_model_wire.specs.Table.{rows}
use Rattle.mu_model_refusals.specs.Refusals.{LacksNear, HasForeignOpcode}
use Rattle.mu_model_refusals.proofs.Readers.{left_at, Reader, Done, IsLocal, place_of, why_of, bind_ok, bind_err}
use Rattle.mu_model_refusals.proofs.Fields.{Read, narrow, all_narrow, narrow_row, number_local, field_local, entry_local, more_entries, next_fields, listed}
use Rattle.mu_model_refusals.proofs.Messages.{opcode_is, opcode_none, opcode_local, found_narrow, read_by, not_zero}

-- ---- what a reason says

abbrev Reason : (at : ℕ) → List ℕ → (place : ℕ) → Why → Type 0
Reason at os place Short = (place ≤ at + length os) × (at + length os < place + 255)
Reason at os place Opcode = ⊥
Reason at os place Value = Unit {0}
Reason at os place Long = Unit {0}

abbrev Told : {Y : Type 0} → ℕ → List ℕ → Result Y Refusal → Type 0
Told at os (Ok y) = Unit {0}
Told at os (Err e) = Reason at os e.at e.why

told_bind : {A B : Type 0} (at : ℕ) (os : List ℕ) (r : Result A Refusal) (f : A → Result B Refusal) → Told at os r → ((x : A) → r ≡ Ok x → Told at os (f x)) → Told at os (r >>= f)
told_bind at os (Ok x) f h k = k x refl
told_bind at os (Err e) f h k = h

told_more : {A B : Type 0} (at : ℕ) (os : List ℕ) (r : Result A Refusal) (f : A → B) → Told at os r → Told at os (r >>= λ x. Ok (f x))
told_more at os r f h = told_bind at os r (λ x. Ok (f x)) h (λ x e. tt)

reason_later : (at later : ℕ) (os more : List ℕ) (place : ℕ) (why : Why) → later + length more ≡ at + length os → Reason later more place why → Reason at os place why
reason_later at later os more place Short e h = let a = h.0 in let b = h.1 in (omega (arith, e, a), omega (arith, e, b))
reason_later at later os more place Opcode e h = h
reason_later at later os more place Value e h = tt
reason_later at later os more place Long e h = tt

told_later : {Y : Type 0} (at later : ℕ) (os more : List ℕ) (r : Result Y Refusal) → later + length more ≡ at + length os → Told later more r → Told at os r
told_later at later os more (Ok y) e h = tt
told_later at later os more (Err d) e h = reason_later at later os more d.at d.why e h

-- after what was read the same octets are left
as_many : {A : Type 0} (r : Reader A) (at : ℕ) (os : List ℕ) (x : A) (next : Left) → Done r at os x next → next.at + length next.octets ≡ at + length os
as_many r at os x next d =
    let n : length os ≡ length d.used + length next.octets = ap (length {A = ℕ}) d.split ∙ length-append d.used next.octets in
    let place = d.place in
    omega (arith, n, place)

-- a reader, and what follows it
told_then : {A Y : Type 0} (r : Reader A) (f : A → Left → Result Y Refusal) (at : ℕ) (os : List ℕ) → IsLocal r → Told at os (r (left_at at os))
    → ((x : A) (next : Left) → r (left_at at os) ≡ Ok (x, next) → Told next.at next.octets (f x next)) → Told at os (r (left_at at os) >>= λ y. f y.0 y.1)
told_then r f at os local h k =
    told_bind at os (r (left_at at os)) (λ y. f y.0 y.1) h
    (λ y e. told_later at y.1.at os y.1.octets (f y.0 y.1) (as_many r at os y.0 y.1 (local.done at os y.0 y.1 e)) (k y.0 y.1 e))

-- ---- one field

lack_told : {Y : Type 0} (k at : ℕ) (os : List ℕ) (x : Y) (few : Bool) → nat_lt (length os) k ≡ few → k < 256 → Told at os (cond few (refuse at Short) (Ok x))
lack_told k at os x true e small = let few = ltb-true (length os) k e in (omega arith, omega (arith, few, small))
lack_told k at os x false e small = tt

word_told : (k at : ℕ) (os : List ℕ) → k < 256 → Told at os (word_at k (left_at at os))
unfolding word_at
word_told k at os small = lack_told k at os _ (nat_lt (length os) k) refl small

octets_told : (k at : ℕ) (os : List ℕ) → k < 256 → Told at os (octets_at k (left_at at os))
unfolding octets_at
octets_told k at os small = lack_told k at os _ (nat_lt (length os) k) refl small

test_told : {Y : Type 0} (at place : ℕ) (os : List ℕ) (x : Y) (test : Bool) → Told at os (cond test (Ok x) (refuse place Value))
test_told at place os x true = tt
test_told at place os x false = tt

number_told : (k least most at : ℕ) (os : List ℕ) → k < 256 → Told at os (number_at k least most (left_at at os))
number_told k least most at os small =
    told_bind at os (word_at k (left_at at os)) _ (word_told k at os small) (λ w e. test_told at at os w (within least most w.0))

zero_or_told : (k least most at : ℕ) (os : List ℕ) → k < 256 → Told at os (zero_or_number_at k least most (left_at at os))
zero_or_told k least most at os small =
    told_bind at os (word_at k (left_at at os)) _ (word_told k at os small) (λ w e. test_told at at os w ((w.0 == 0) || within least most w.0))

split_told : (k at : ℕ) (parts : List _) (os : List ℕ) → k < 256 → Told at os (field_at (split k parts) (left_at at os))
split_told k at parts os small =
    told_bind at os (word_at k (left_at at os)) _ (word_told k at os small) (λ w e. test_told at at os (parts_of parts w.0, w.1) (parts_in parts w.0))

-- a length that is read is in its range
test_is : (at most : ℕ) (w x : ℕ × Left) (test : Bool) → (test ≡ true → w.0 ≤ most) → cond test (Ok w) (refuse at Value) ≡ Ok x → x.0 ≤ most
test_is at most w x true h e = let same : w ≡ x = cc in subst (λ (y : ℕ × Left). y.0 ≤ most) same (h refl)
test_is at most w x false h e = absurd cc

number_most : (k least most at : ℕ) (os : List ℕ) (x : ℕ × Left) → number_at k least most (left_at at os) ≡ Ok x → x.0 ≤ most
number_most k least most at os x e =
    let b = bind_ok (word_at k (left_at at os)) _ x e in
    test_is at most b.0 x (within least most b.0.0) (λ t. leb-true b.0.0 most ((and_parts (nat_le least b.0.0) (nat_le b.0.0 most) t).1)) b.2

pattern_small : (a : ℕ) → pattern_length a < 256
pattern_small a = grind arith

value_told : (at place : ℕ) (os : List ℕ) (n : Option ℕ) (left : Left) → Told at os (or_value place n left)
value_told at place os (Some n) left = tt
value_told at place os None left = tt

pattern_told : (at : ℕ) (os : List ℕ) → Told at os (pattern_at (left_at at os))
unfolding pattern_at
pattern_told at os =
    told_bind at os (word_at 1 (left_at at os)) _ (word_told 1 at os (omega arith))
    (λ first e. told_bind at os (octets_at (pattern_length first.0) (left_at at os)) _ (octets_told (pattern_length first.0) at os (pattern_small first.0))
    (λ taken d. value_told at at os (pattern_number taken.0) taken.1))

-- no field asks for more than 255 octets
abbrev small : Field → Bool
small (word name k) = nat_lt k 256
small (num name k least most) = nat_lt k 256
small (zero_or name k least most) = nat_lt k 256
small (split k parts) = nat_lt k 256
small (counted name least most) = nat_lt most 256
small (whole name n) = nat_lt n 256
small (pattern name) = true

counted_told : (least most at : ℕ) (os : List ℕ) → IsLocal (number_at 1 least most) → most < 256 → Told at os (counted_at least most (left_at at os))
counted_told least most at os local few =
    told_then (number_at 1 least most) octets_at at os local (number_told 1 least most at os (omega arith))
    (λ n next e. (let most_is = number_most 1 least most at os (n, next) e in octets_told n next.at next.octets (omega (arith, most_is, few))))

field_told : (f : Field) → small f ≡ true → narrow f ≡ true → (at : ℕ) (os : List ℕ) → Told at os (field_at f (left_at at os))
field_told (word name k) s h at os = told_more at os (word_at k (left_at at os)) _ (word_told k at os (ltb-true k 256 s))
field_told (num name k least most) s h at os = told_more at os (number_at k least most (left_at at os)) _ (number_told k least most at os (ltb-true k 256 s))
field_told (zero_or name k least most) s h at os = told_more at os (zero_or_number_at k least most (left_at at os)) _ (zero_or_told k least most at os (ltb-true k 256 s))
field_told (split k parts) s h at os = split_told k at parts os (ltb-true k 256 s)
field_told (counted name least most) s h at os =
    told_more at os (counted_at least most (left_at at os)) _ (counted_told least most at os (number_local 1 least most (omega arith) (omega arith)) (ltb-true most 256 s))
field_told (whole name n) s h at os = told_more at os (octets_at n (left_at at os)) _ (octets_told n at os (ltb-true n 256 s))
field_told (pattern name) s h at os = told_more at os (pattern_at (left_at at os)) _ (pattern_told at os)

-- ---- entries

abbrev all_small : List Field → Bool
all_small [] = true
all_small (f ∷ fs) = small f && all_small fs

entry_told : (fs : List Field) → all_small fs ≡ true → all_narrow fs ≡ true → (at : ℕ) (os : List ℕ) → Told at os (entry_at fs (left_at at os))
entry_told [] s h at os = tt
entry_told (f ∷ fs) s h at os =
    let ss = and_parts (small f) (all_small fs) s in
    let hs = and_parts (narrow f) (all_narrow fs) h in
    told_then (field_at f) (λ first left. entry_at fs left >>= λ others. Ok (first ++ others.0, others.1)) at os (field_local f hs.0) (field_told f ss.0 hs.0 at os)
    (λ first next e. told_more next.at next.octets (entry_at fs next) _ (entry_told fs ss.1 hs.1 next.at next.octets))

end_or_told : {Y : Type 0} (at : ℕ) (os : List ℕ) (x : Y) (r : Result Y Refusal) (none : Bool) → Told at os r → Told at os (cond none (Ok x) r)
end_or_told at os x r true h = tt
end_or_told at os x r false h = h

entries_told : (n : ℕ) (fs : List Field) → all_small fs ≡ true → all_narrow fs ≡ true → (at : ℕ) (os : List ℕ) → Told at os (entries_at n fs (left_at at os))
entries_told zero fs s h at os = tt
entries_told (suc n) fs s h at os =
    end_or_told at os [] (entry_at fs (left_at at os) >>= λ first. more_entries n fs first.0 first.1) (eqb (length os) 0)
    (told_then (entry_at fs) (more_entries n fs) at os (entry_local fs h) (entry_told fs s h at os)
    (λ first next e. told_more next.at next.octets (entries_at n fs next) _ (entries_told n fs s h next.at next.octets)))

-- ---- all fields of a row

abbrev small_row : Fields → Bool
small_row end = true
small_row (rest name least most) = nat_lt least 256
small_row (repeated name least fs) = nat_lt least 256 && all_small fs
small_row (f ▹ fs) = small f && small_row fs
small_row (when name values fs gs) = small_row fs && small_row gs
small_row (where_left n name fs gs) = small_row fs && small_row gs

end_told : (at : ℕ) (os : List ℕ) (x : Read) (none : Bool) → Told at os (cond none (Ok x) (refuse at Long))
end_told at os x true = tt
end_told at os x false = tt

few_told : {Y : Type 0} (least at : ℕ) (os : List ℕ) (r : Result Y Refusal) (few : Bool) → nat_lt (length os) least ≡ few → least < 256 → Told at os r → Told at os (cond few (refuse at Short) r)
few_told least at os r true e small h = let lack = ltb-true (length os) least e in (omega arith, omega (arith, lack, small))
few_told least at os r false e small h = h

many_told : (at last : ℕ) (os : List ℕ) (many : Bool) → Told at os (cond many (refuse last Long) (Ok os))
many_told at last os true = tt
many_told at last os false = tt

chosen_told : (at : ℕ) (os : List ℕ) (r q : Result Read Refusal) (test : Bool) → Told at os r → Told at os q → Told at os (cond test r q)
chosen_told at os r q true h k = h
chosen_told at os r q false h k = k

fields_told : (fs : Fields) → small_row fs ≡ true → narrow_row fs ≡ true → (before : List Shown) (at : ℕ) (os : List ℕ) → Told at os (fields_at fs before (left_at at os))
fields_told end s h before at os = end_told at os ([], []) (eqb (length os) 0)
fields_told (rest name least most) s h before at os =
    told_more at os (rest_at least most (left_at at os)) _
    (few_told least at os _ (nat_lt (length os) least) refl (ltb-true least 256 s) (many_told at (at + most) os (nat_lt most (length os))))
fields_told (repeated name least fs) s h before at os =
    let ss = and_parts (nat_lt least 256) (all_small fs) s in
    few_told least at os (listed (length os) fs (left_at at os)) (nat_lt (length os) least) refl (ltb-true least 256 ss.0)
    (told_more at os (entries_at (length os) fs (left_at at os)) _ (entries_told (length os) fs ss.1 h at os))
fields_told (f ▹ fs) s h before at os =
    let ss = and_parts (small f) (small_row fs) s in
    let hs = and_parts (narrow f) (narrow_row fs) h in
    told_then (field_at f) (next_fields fs before) at os (field_local f hs.0) (field_told f ss.0 hs.0 at os)
    (λ first next e. told_more next.at next.octets (fields_at fs (first ++ before) next) _ (fields_told fs ss.1 hs.1 (first ++ before) next.at next.octets))
fields_told (when name values fs gs) s h before at os =
    let ss = and_parts (small_row fs) (small_row gs) s in
    let hs = and_parts (narrow_row fs) (narrow_row gs) h in
    chosen_told at os (fields_at fs before (left_at at os)) (fields_at gs before (left_at at os)) (is_one_of values (value_of name before))
    (fields_told fs ss.0 hs.0 before at os) (fields_told gs ss.1 hs.1 before at os)
fields_told (where_left n name fs gs) s h before at os =
    let ss = and_parts (small_row fs) (small_row gs) s in
    let hs = and_parts (narrow_row fs) (narrow_row gs) h in
    chosen_told at os (fields_at gs before (left_at at os)) (fields_at fs before (left_at at os)) (nat_lt (length os) n)
    (fields_told gs ss.1 hs.1 before at os) (fields_told fs ss.0 hs.0 before at os)

-- ---- messages

abbrev all_rows_small : List Row → Bool
all_rows_small [] = true
all_rows_small (row ∷ rows) = small_row row.fields && all_rows_small rows

found_small : (table : List Row) (opcode : ℕ) (fs : Fields) → all_rows_small table ≡ true → fields_of table opcode ≡ Some fs → small_row fs ≡ true
found_small [] opcode fs h e = absurd cc
found_small (row ∷ table) opcode fs h e =
    let p = and_parts (small_row row.fields) (all_rows_small table) h in
    by_row (opcode == row.opcode) p.0 (found_small table opcode fs p.1) e
  where
    by_row : (b : Bool) → small_row row.fields ≡ true → (fields_of table opcode ≡ Some fs → small_row fs ≡ true) → cond b (Some row.fields) (fields_of table opcode) ≡ Some fs → small_row fs ≡ true
    by_row true here more e = let same : row.fields ≡ fs = cc in subst (λ f. small_row f ≡ true) same here
    by_row false here more e = more e

-- an opcode is read, or octets lack
opcode_told : (at : ℕ) (os : List ℕ) → Told at os (opcode_at (left_at at os))
opcode_told at [] = subst (λ (r : Result (ℕ × Left) Refusal). Told at [] r) (sym (opcode_none at)) (omega arith, omega arith)
opcode_told at (a ∷ more) =
    subst (λ (r : Result (ℕ × Left) Refusal). Told at (a ∷ more) r) (sym (opcode_is at a more)) (by_first (within 0x80 0xBF a) (eqb (length more) 0) more refl)
  where
    by_first : (two none : Bool) (others : List ℕ) → eqb (length others) 0 ≡ none
        → Told at (a ∷ others) (cond two (cond none (refuse {A = ℕ × Left} at Short) (Ok (a * 256 + get_or others 0 0, left_at (at + 1 + 1) (drop 1 others)))) (Ok (a, left_at (at + 1) others)))
    by_first false none others e = tt
    by_first true false others e = tt
    by_first true true [] e = (omega arith, omega arith)
    by_first true true (o ∷ others) e = absurd (let no : false ≡ true = sym (not_zero (length others)) ∙ e in cc)

-- what is refused so, of what is told
refused_short : {Y : Type 0} (at : ℕ) (os : List ℕ) (r : Result Y Refusal) (place : ℕ) → Told at os r → r ≡ refuse place Short → (place ≤ at + length os) × (at + length os < place + 255)
refused_short at os r place h e = subst (λ (r : Result _ Refusal). Told at os r) e h

refused_opcode : {Y : Type 0} (at : ℕ) (os : List ℕ) (r : Result Y Refusal) (place : ℕ) → Told at os r → r ≡ refuse place Opcode → ⊥
refused_opcode at os r place h e = subst (λ (r : Result _ Refusal). Told at os r) e h

row_told : (opcode : ℕ) (fs : Fields) → small_row fs ≡ true → narrow_row fs ≡ true → (at : ℕ) (os : List ℕ) → Told at os (row_at (Some fs) opcode (left_at at os))
row_told opcode fs s h at os = told_more at os (fields_at fs [] (left_at at os)) _ (fields_told fs s h [] at os)

-- behind an opcode
row_lacks : (opcode : ℕ) (found : Option Fields) → ((fs : Fields) → found ≡ Some fs → small_row fs ≡ true) → ((fs : Fields) → found ≡ Some fs → narrow_row fs ≡ true) → (at : ℕ) (os : List ℕ) (place : ℕ)
    → row_at found opcode (left_at at os) ≡ refuse place Short → (place ≤ at + length os) × (at + length os < place + 255)
row_lacks opcode None s h at os place e = absurd (let no : Opcode ≡ Short = ap why_of e in cc)
row_lacks opcode (Some fs) s h at os place e = refused_short at os _ place (row_told opcode fs (s fs refl) (h fs refl) at os) e

row_foreign : (opcode : ℕ) (found : Option Fields) → ((fs : Fields) → found ≡ Some fs → small_row fs ≡ true) → ((fs : Fields) → found ≡ Some fs → narrow_row fs ≡ true) → (at : ℕ) (os : List ℕ) (place : ℕ)
    → row_at found opcode (left_at at os) ≡ refuse place Opcode → (place ≡ 0) × (found ≡ None)
row_foreign opcode None s h at os place e = (sym (ap place_of e), refl)
row_foreign opcode (Some fs) s h at os place e = absurd (refused_opcode at os _ place (row_told opcode fs (s fs refl) (h fs refl) at os) e)

lacks_by : (long : Bool) (bytes : List ℕ) (at : ℕ) → read_by long bytes ≡ refuse at Short → LacksNear bytes at
lacks_by true bytes at e = absurd (let no : Long ≡ Short = ap why_of e in cc)
lacks_by false bytes at e = elim (bind_err (opcode_at (left_at 0 bytes)) (λ opcode. row_at (fields_of rows opcode.0) opcode.0 opcode.1) (record { at = at; why = Short }) e) [
  | inl h ↦ let b = refused_short 0 bytes _ at (opcode_told 0 bytes) h in let there = b.0 in let near = b.1 in record { there = omega (arith, there); near = omega (arith, near) }
  | inr h ↦
      let n = as_many opcode_at 0 bytes h.0.0 h.0.1 (opcode_local.done 0 bytes h.0.0 h.0.1 h.1) in
      let b = row_lacks h.0.0 (fields_of rows h.0.0) (λ fs. found_small rows h.0.0 fs refl) (λ fs. found_narrow rows h.0.0 fs refl) h.0.1.at h.0.1.octets at h.2 in
      let there = b.0 in
      let near = b.1 in
      record { there = omega (arith, n, there); near = omega (arith, n, near) }
]

pub shorts_lack : (bytes : List ℕ) (at : ℕ) → message_at rows bytes ≡ refuse at Short → LacksNear bytes at
shorts_lack bytes at e = lacks_by (nat_lt 380 (length bytes)) bytes at e

foreign_by : (long : Bool) (bytes : List ℕ) (at : ℕ) → read_by long bytes ≡ refuse at Opcode → HasForeignOpcode bytes at
foreign_by true bytes at e = absurd (let no : Long ≡ Opcode = ap why_of e in cc)
foreign_by false bytes at e = elim (bind_err (opcode_at (left_at 0 bytes)) (λ opcode. row_at (fields_of rows opcode.0) opcode.0 opcode.1) (record { at = at; why = Opcode }) e) [
  | inl h ↦ absurd (refused_opcode 0 bytes _ at (opcode_told 0 bytes) h)
  | inr h ↦
      let b = row_foreign h.0.0 (fields_of rows h.0.0) (λ fs. found_small rows h.0.0 fs refl) (λ fs. found_narrow rows h.0.0 fs refl) h.0.1.at h.0.1.octets at h.2 in
      record { first = b.0; opcode = h.0.0; others = h.0.1; read = h.1; none = b.1 }
]

pub foreign_told : (bytes : List ℕ) (at : ℕ) → message_at rows bytes ≡ refuse at Opcode → HasForeignOpcode bytes at
foreign_told bytes at e = foreign_by (nat_lt 380 (length bytes)) bytes at e

pub foreign_refused : (bytes : List ℕ) → HasForeignOpcode bytes 0 → length bytes ≤ 380 → message_at rows bytes ≡ refuse 0 Opcode
foreign_refused bytes h few =
    let within : nat_lt 380 (length bytes) ≡ false = le-ltb 380 (length bytes) few in
    rw (within, h.read, h.none) refl
