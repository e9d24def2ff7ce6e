-- Each field, each entry and all fields of a row are read so.
use Rattle.std.proofs.Common.{◌≡◌, ℕ, zero, suc, ◌+◌, ◌*◌, ◌≤◌, ◌<◌, Bool, true, false, cond, eqb, get_or, List, [], ◌∷◌, ◌++◌, length, take, drop, Option, Some, None, Result, Ok, refl, sym, ap, subst, ◌∙◌, arith, inl, inr, length-append}
use Rattle.std.specs.Prelude.{nat_lt, nat_le, ◌&&◌, ◌||◌, ◌==◌}
use Rattle.std.proofs.lemmas.Bool.{cases_lt, and_parts, ltb-true, leb-true, ne_eqb}
use Rattle.std.proofs.lemmas.List.{take-append-drop, length-take-le}
use Rattle.mu_model_wire.specs.declared.Refusal.{Refusal}
use Rattle.mu_model_wire.specs.declared.Why.TheVariants.{Short, Value, Long}
use Rattle.mu_model_wire.specs.Patterns.{within, pattern_length, pattern_number}
use Rattle.mu_model_wire.specs.Fields.{Field, word, num, zero_or, split, counted, whole, pattern, Fields, end, rest, repeated, ◌▹◌, when, where_left, Shown, number, octets}
use Rattle.mu_model_wire.specs.Reading.{◌>>=◌, Left, refuse, word_at, octets_at, or_value, pattern_at, number_at, zero_or_number_at, counted_at, parts_in, parts_of, field_at, entry_at, entries_at, rest_at, fields_at, value_of, is_one_of}
use Rattle.mu_model_refusals.proofs.Readers.{left_at, Done, Fails, IsLocal, ok_is, place_is, short_value, short_long, value_long, bind_err, word_local, octets_local, tested_local, ok_local, bind_fails, bound_local, word_lack, word_there, octets_lack, octets_there}

-- ---- a number pattern

abbrev first_of : List ℕ → ℕ
first_of os = get_or os 0 0

-- the octets of a pattern that begins with this one
abbrev size_of : ℕ → ℕ
size_of a = pattern_length a

small_size : (a : ℕ) → size_of a ≤ 3
small_size a = grind arith

pub first_word : (at a : ℕ) (more : List ℕ) → word_at 1 (left_at at (a ∷ more)) ≡ Ok (a, left_at (at + 1) more)
first_word at a more = let w = word_there 1 at (a ∷ []) more refl in let n : a + 256 * 0 ≡ a = omega arith in w ∙ ap (λ x. Ok (x, left_at (at + 1) more)) n

abbrev judged : ℕ → Result (List ℕ × Left) Refusal → Result (ℕ × Left) Refusal
judged at r = r >>= λ taken. or_value at (pattern_number taken.0) taken.1

pattern_by : (at a : ℕ) (more : List ℕ) → pattern_at (left_at at (a ∷ more)) ≡ judged at (octets_at (size_of a) (left_at at (a ∷ more)))
unfolding pattern_at
pattern_by at a more = rw (first_word at a more) refl

pub pattern_none : (at : ℕ) → pattern_at (left_at at []) ≡ refuse at Short
unfolding pattern_at
pattern_none at = rw (word_lack 1 at [] (omega arith)) refl

-- the octets that are looked at: the first, and those that it announces
pattern_there : (at a : ℕ) (u more : List ℕ) → length (a ∷ u) ≡ size_of a → pattern_at (left_at at ((a ∷ u) ++ more)) ≡ or_value at (pattern_number (a ∷ u)) (left_at (at + length (a ∷ u)) more)
pattern_there at a u more long =
    let there : octets_at (size_of a) (left_at at ((a ∷ u) ++ more)) ≡ Ok (a ∷ u, left_at (at + size_of a) more) = octets_there (size_of a) at (a ∷ u) more long in
    pattern_by at a (u ++ more) ∙ ap (judged at) there ∙ ap (λ n. or_value at (pattern_number (a ∷ u)) (left_at (at + n) more)) (sym long)

pattern_bad : (at a : ℕ) (more : List ℕ) → size_of a ≡ 0 → pattern_at (left_at at (a ∷ more)) ≡ refuse at Value
pattern_bad at a more e =
    let there : octets_at 0 (left_at at (a ∷ more)) ≡ Ok ([], left_at (at + 0) (a ∷ more)) = octets_there 0 at [] (a ∷ more) refl in
    pattern_by at a more ∙ ap (λ k. judged at (octets_at k (left_at at (a ∷ more)))) e ∙ ap (judged at) there

pattern_lacks : (at a : ℕ) (u : List ℕ) → length (a ∷ u) < size_of a → pattern_at (left_at at (a ∷ u)) ≡ refuse at Short
pattern_lacks at a u few = pattern_by at a u ∙ ap (judged at) (octets_lack (size_of a) at (a ∷ u) few)

-- what is there of a pattern that is cut off
pattern_short : (at a : ℕ) (u p q : List ℕ) → length (a ∷ u) ≡ size_of a → a ∷ u ≡ p ++ q → 0 < length q → (b : ℕ) × (b ≤ at + length p) × (pattern_at (left_at at p) ≡ refuse b Short)
pattern_short at a u [] q long e some = (at, omega arith, pattern_none at)
pattern_short at a u (b ∷ p) q long e some =
    let head : a ≡ b = cc in
    let tail : u ≡ p ++ q = cc in
    let n : length u ≡ length p + length q = ap (length {A = ℕ}) tail ∙ length-append p q in
    let fewer : length (b ∷ p) < size_of b = subst (λ c. length (b ∷ p) < size_of c) head (omega (arith, long, n, some)) in
    (at, omega arith, pattern_lacks at b p fewer)

pattern_done : (at a : ℕ) (u more : List ℕ) (x : ℕ) (next : Left) (o : Option ℕ) → length (a ∷ u) ≡ size_of a → pattern_number (a ∷ u) ≡ o
    → or_value at o (left_at (at + length (a ∷ u)) more) ≡ Ok (x, next) → Done pattern_at at ((a ∷ u) ++ more) x next
pattern_done at a u more x next None long is e = absurd cc
pattern_done at a u more x next (Some y) long is e =
    subst (λ (z : ℕ × Left). Done pattern_at at ((a ∷ u) ++ more) z.0 z.1) (ok_is e) (record {
      used = a ∷ u;
      split = refl;
      place = refl;
      alone = λ others. pattern_there at a u others long ∙ ap (λ o. or_value at o (left_at (at + length (a ∷ u)) others)) is;
      short = λ p q e some. pattern_short at a u p q long e some;
    })

pattern_fails : (at a : ℕ) (u more : List ℕ) (b : ℕ) (o : Option ℕ) → length (a ∷ u) ≡ size_of a → pattern_number (a ∷ u) ≡ o
    → or_value at o (left_at (at + length (a ∷ u)) more) ≡ refuse b Value → Fails pattern_at at ((a ∷ u) ++ more) b
pattern_fails at a u more b (Some y) long is e = absurd cc
pattern_fails at a u more b None long is e =
    let same : at ≡ b = place_is e in
    let few = small_size a in
    subst (λ c. Fails pattern_at at ((a ∷ u) ++ more) c) same (record {
      used = a ∷ u;
      others = more;
      split = refl;
      from = omega arith;
      some = omega arith;
      few = omega (arith, few, long);
      alone = λ others m. pattern_there at a u others long ∙ ap (λ o. or_value at o (left_at (at + length (a ∷ u)) others)) is;
    })

bad_fails : (at a : ℕ) (more : List ℕ) (b : ℕ) → size_of a ≡ 0 → at ≡ b → Fails pattern_at at (a ∷ more) b
bad_fails at a more b e same = subst (λ c. Fails pattern_at at (a ∷ more) c) same (record {
  used = a ∷ [];
  others = more;
  split = refl;
  from = omega arith;
  some = omega arith;
  few = omega arith;
  alone = λ others m. pattern_bad at a others e;
})

value_never : (at b : ℕ) (o : Option ℕ) (next : Left) → or_value at o next ≡ refuse b Long → ⊥
value_never at b None next e = value_long e
value_never at b (Some x) next e = absurd cc

-- a pattern that is announced is there, or cut off, or none begins so
data Stands (at a : ℕ) (more : List ℕ) : Type 0 where
  none : size_of a ≡ 0 → Stands at a more
  cut : pattern_at (left_at at (a ∷ more)) ≡ refuse at Short → Stands at a more
  there : (u others : List ℕ) → more ≡ u ++ others → length (a ∷ u) ≡ size_of a → Stands at a more

stands : (at a : ℕ) (more : List ℕ) (k : ℕ) → size_of a ≡ k → Stands at a more
stands at a more zero e = none e
stands at a more (suc k) e = elim (cases_lt (length more) k) [
  | inl few ↦ cut (pattern_lacks at a more (omega (arith, e, few)))
  | inr enough ↦ let n : length (take k more) ≡ k = length-take-le k more enough in there (take k more) (drop k more) (sym (take-append-drop k more)) (omega (arith, e, n))
]

pattern_read : (at : ℕ) (os : List ℕ) (x : ℕ) (next : Left) → pattern_at (left_at at os) ≡ Ok (x, next) → Done pattern_at at os x next
pattern_read at [] x next e = absurd (let no : refuse at Short ≡ Ok (x, next) = sym (pattern_none at) ∙ e in cc)
pattern_read at (a ∷ more) x next e = elim (stands at a more (size_of a) refl) [
  | none h ↦ absurd (let no : refuse at Value ≡ Ok (x, next) = sym (pattern_bad at a more h) ∙ e in cc)
  | cut h ↦ absurd (let no : refuse at Short ≡ Ok (x, next) = sym h ∙ e in cc)
  | there u others h long ↦
      let e2 : pattern_at (left_at at ((a ∷ u) ++ others)) ≡ Ok (x, next) = ap (λ xs. pattern_at (left_at at (a ∷ xs))) (sym h) ∙ e in
      subst (λ xs. Done pattern_at at (a ∷ xs) x next) (sym h) (pattern_done at a u others x next (pattern_number (a ∷ u)) long refl (sym (pattern_there at a u others long) ∙ e2))
]

pattern_refused : (at : ℕ) (os : List ℕ) (b : ℕ) → pattern_at (left_at at os) ≡ refuse b Value → Fails pattern_at at os b
pattern_refused at [] b e = absurd (short_value (sym (pattern_none at) ∙ e))
pattern_refused at (a ∷ more) b e = elim (stands at a more (size_of a) refl) [
  | none h ↦ bad_fails at a more b h (place_is (sym (pattern_bad at a more h) ∙ e))
  | cut h ↦ absurd (short_value (sym h ∙ e))
  | there u others h long ↦
      let e2 : pattern_at (left_at at ((a ∷ u) ++ others)) ≡ refuse b Value = ap (λ xs. pattern_at (left_at at (a ∷ xs))) (sym h) ∙ e in
      subst (λ xs. Fails pattern_at at (a ∷ xs) b) (sym h) (pattern_fails at a u others b (pattern_number (a ∷ u)) long refl (sym (pattern_there at a u others long) ∙ e2))
]

pattern_never : (at : ℕ) (os : List ℕ) (b : ℕ) → pattern_at (left_at at os) ≡ refuse b Long → ⊥
pattern_never at [] b e = short_long (sym (pattern_none at) ∙ e)
pattern_never at (a ∷ more) b e = elim (stands at a more (size_of a) refl) [
  | none h ↦ value_long (sym (pattern_bad at a more h) ∙ e)
  | cut h ↦ short_long (sym h ∙ e)
  | there u others h long ↦
      let e2 : pattern_at (left_at at ((a ∷ u) ++ others)) ≡ refuse b Long = ap (λ xs. pattern_at (left_at at (a ∷ xs))) (sym h) ∙ e in
      value_never at b (pattern_number (a ∷ u)) (left_at (at + length (a ∷ u)) others) (sym (pattern_there at a u others long) ∙ e2)
]

pattern_local : IsLocal pattern_at
pattern_local = record { done = pattern_read; fails = pattern_refused; never_long = pattern_never }

-- ---- a field

-- a word that may be out of its range has at most five octets, and one at least
abbrev is_narrow : ℕ → Bool
is_narrow k = nat_lt 0 k && nat_le k 5

abbrev pub narrow : Field → Bool
narrow (num name k least most) = is_narrow k
narrow (zero_or name k least most) = is_narrow k
narrow (split k parts) = is_narrow k
narrow _ = true

widths : (k : ℕ) → is_narrow k ≡ true → (0 < k) × (k ≤ 5)
widths k e = let h = and_parts (nat_lt 0 k) (nat_le k 5) e in (ltb-true 0 k h.0, leb-true k 5 h.1)

pub number_local : (k least most : ℕ) → 0 < k → k ≤ 5 → IsLocal (number_at k least most)
number_local k least most some few = tested_local k (within least most) (λ n. n) some few

pub field_local : (f : Field) → narrow f ≡ true → IsLocal (field_at f)
field_local (word name k) h = bound_local (word_at k) (λ n left. Ok (number name n ∷ [], left)) (word_local k) (λ n. ok_local (number name n ∷ []))
field_local (num name k least most) h =
    let w = widths k h in
    bound_local (number_at k least most) (λ n left. Ok (number name n ∷ [], left)) (number_local k least most w.0 w.1) (λ n. ok_local (number name n ∷ []))
field_local (zero_or name k least most) h =
    let w = widths k h in
    bound_local (zero_or_number_at k least most) (λ n left. Ok (number name n ∷ [], left)) (tested_local k (λ n. (n == 0) || within least most n) (λ n. n) w.0 w.1) (λ n. ok_local (number name n ∷ []))
field_local (split k parts) h = let w = widths k h in tested_local k (parts_in parts) (parts_of parts) w.0 w.1
field_local (counted name least most) h =
    bound_local (counted_at least most) (λ os left. Ok (octets name os ∷ [], left))
    (bound_local (number_at 1 least most) octets_at (number_local 1 least most (omega arith) (omega arith)) octets_local) (λ os. ok_local (octets name os ∷ []))
field_local (whole name n) h = bound_local (octets_at n) (λ os left. Ok (octets name os ∷ [], left)) (octets_local n) (λ os. ok_local (octets name os ∷ []))
field_local (pattern name) h = bound_local pattern_at (λ n left. Ok (number name n ∷ [], left)) pattern_local (λ n. ok_local (number name n ∷ []))

-- ---- an entry

abbrev pub all_narrow : List Field → Bool
all_narrow [] = true
all_narrow (f ∷ fs) = narrow f && all_narrow fs

pub entry_local : (fs : List Field) → all_narrow fs ≡ true → IsLocal (entry_at fs)
entry_local [] h = ok_local []
entry_local (f ∷ fs) h =
    let p = and_parts (narrow f) (all_narrow fs) h in
    let others : IsLocal (entry_at fs) = entry_local fs p.1 in
    bound_local (field_at f) (λ first left. entry_at fs left >>= λ others. Ok (first ++ others.0, others.1)) (field_local f p.0)
    (λ first. bound_local (entry_at fs) (λ more left. Ok (first ++ more, left)) others (λ more. ok_local (first ++ more)))

-- ---- entries

-- octets that something failed in are some
some_used : {Y : Type 0} (r : Left → Result Y Refusal) (at : ℕ) (os : List ℕ) (a : ℕ) (h : Fails r at os a) → (more : List ℕ) → length more ≡ length h.others
    → (eqb (length (h.used ++ more)) 0 ≡ false) × (length (h.used ++ more) ≡ length os)
some_used r at os a h more m =
    let n : length (h.used ++ more) ≡ length h.used + length more = length-append h.used more in
    let k : length os ≡ length h.used + length h.others = ap (length {A = ℕ}) h.split ∙ length-append h.used h.others in
    let from = h.from in
    let some = h.some in
    (ne_eqb (length (h.used ++ more)) 0 (λ e. let no : ⊥ = omega (arith, n, e, from, some) in no), omega (arith, n, k, m))

abbrev pub more_entries : ℕ → List Field → List Shown → Left → Result (List (List Shown)) Refusal
more_entries n fs first left = entries_at n fs left >>= λ others. Ok (first ∷ others)

more_fail : (n : ℕ) (fs : List Field) (first : List Shown) (at : ℕ) (os : List ℕ) (a : ℕ)
    → (entries_at n fs (left_at at os) ≡ refuse a Value → Fails (entries_at n fs) at os a) → more_entries n fs first (left_at at os) ≡ refuse a Value → Fails (more_entries n fs first) at os a
more_fail n fs first at os a again e = elim (bind_err (entries_at n fs (left_at at os)) (λ others. Ok (first ∷ others)) (record { at = a; why = Value }) e) [
  | inl h ↦
      let f = again h in
      record { used = f.used; others = f.others; split = f.split; from = f.from; some = f.some; few = f.few; alone = λ more m. rw (f.alone more m) refl }
  | inr h ↦ absurd (let no : Ok (first ∷ h.0) ≡ refuse a Value = h.2 in cc)
]

-- at an end nothing is read, and else an entry and more
abbrev entries_by : Bool → ℕ → List Field → Left → Result (List (List Shown)) Refusal
entries_by b n fs left = cond b (Ok []) (entry_at fs left >>= λ first. more_entries n fs first.0 first.1)

entries_from : (n : ℕ) (fs : List Field) → all_narrow fs ≡ true
    → ((at : ℕ) (os : List ℕ) (a : ℕ) → entries_at n fs (left_at at os) ≡ refuse a Value → Fails (entries_at n fs) at os a)
    → (at : ℕ) (os : List ℕ) (a : ℕ) (b : Bool) → entries_by b n fs (left_at at os) ≡ refuse a Value → Fails (entries_at (suc n) fs) at os a
entries_from n fs h again at os a true e = absurd cc
entries_from n fs h again at os a false e =
    let f = bind_fails (entry_at fs) (more_entries n fs) (entry_local fs h) (λ first at os a. more_fail n fs first at os a (again at os a)) at os a e in
    record {
      used = f.used;
      others = f.others;
      split = f.split;
      from = f.from;
      some = f.some;
      few = f.few;
      alone = λ more m. rw ((some_used (entries_by false n fs) at os a f more m).0) (f.alone more m);
    }

pub entries_fail : (n : ℕ) (fs : List Field) → all_narrow fs ≡ true → (at : ℕ) (os : List ℕ) (a : ℕ) → entries_at n fs (left_at at os) ≡ refuse a Value → Fails (entries_at n fs) at os a
entries_fail zero fs h at os a e = absurd cc
entries_fail (suc n) fs h at os a e = entries_from n fs h (entries_fail n fs h) at os a (eqb (length os) 0) e

-- ---- all fields of a row

abbrev pub Read : Type 0
Read = List Shown × List (List Shown)

abbrev pub narrow_row : Fields → Bool
narrow_row end = true
narrow_row (rest name least most) = true
narrow_row (repeated name least fs) = all_narrow fs
narrow_row (f ▹ fs) = narrow f && narrow_row fs
narrow_row (when name values fs gs) = narrow_row fs && narrow_row gs
narrow_row (where_left n name fs gs) = narrow_row fs && narrow_row gs

end_never : (b : Bool) (at a : ℕ) (x : Read) → cond b (Ok x) (refuse at Long) ≡ refuse a Value → ⊥
end_never true at a x e = absurd cc
end_never false at a x e = value_long (sym e)

rest_never : (few many : Bool) (at last a : ℕ) (os : List ℕ) → cond few (refuse at Short) (cond many (refuse last Long) (Ok os)) ≡ refuse a Value → ⊥
rest_never true many at last a os e = short_value e
rest_never false true at last a os e = value_long (sym e)
rest_never false false at last a os e = absurd cc

-- a failure with as many octets is one where a test of their number chooses
chosen_fails : {Y : Type 0} (r g : Left → Result Y Refusal) (at : ℕ) (os : List ℕ) (a : ℕ) (f : Fails g at os a)
    → ((more : List ℕ) → length (f.used ++ more) ≡ length os → r (left_at at (f.used ++ more)) ≡ g (left_at at (f.used ++ more))) → Fails r at os a
chosen_fails r g at os a f same = record {
  used = f.used;
  others = f.others;
  split = f.split;
  from = f.from;
  some = f.some;
  few = f.few;
  alone = λ more m. same more ((some_used g at os a f more m).1) ∙ f.alone more m;
}

abbrev pub listed : ℕ → List Field → Left → Result Read Refusal
listed n fs left = entries_at n fs left >>= λ es. Ok ([], es)

listed_fail : (n : ℕ) (fs : List Field) → all_narrow fs ≡ true → (at : ℕ) (os : List ℕ) (a : ℕ) → listed n fs (left_at at os) ≡ refuse a Value → Fails (listed n fs) at os a
listed_fail n fs h at os a e = elim (bind_err (entries_at n fs (left_at at os)) (λ es. Ok ([], es)) (record { at = a; why = Value }) e) [
  | inl k ↦
      let f = entries_fail n fs h at os a k in
      record { used = f.used; others = f.others; split = f.split; from = f.from; some = f.some; few = f.few; alone = λ more m. rw (f.alone more m) refl }
  | inr k ↦ absurd (let no : ◌≡◌ {A = Result Read Refusal} (Ok ([], k.0)) (refuse a Value) = k.2 in cc)
]

repeated_fail : (name least : ℕ) (fs : List Field) (before : List Shown) → all_narrow fs ≡ true → (at : ℕ) (os : List ℕ) (a : ℕ) (b : Bool) → nat_lt (length os) least ≡ b
    → cond b (refuse at Short) (listed (length os) fs (left_at at os)) ≡ refuse a Value → Fails (fields_at (repeated name least fs) before) at os a
repeated_fail name least fs before h at os a true is e = absurd (short_value e)
repeated_fail name least fs before h at os a false is e =
    chosen_fails (fields_at (repeated name least fs) before) (listed (length os) fs) at os a (listed_fail (length os) fs h at os a e) (λ more n. rw (n, is) refl)

abbrev pub next_fields : Fields → List Shown → List Shown → Left → Result Read Refusal
next_fields fs before first left = fields_at fs (first ++ before) left >>= λ others. Ok (first ++ others.0, others.1)

next_fail : (fs : Fields) (before first : List Shown) (at : ℕ) (os : List ℕ) (a : ℕ)
    → (fields_at fs (first ++ before) (left_at at os) ≡ refuse a Value → Fails (fields_at fs (first ++ before)) at os a) → next_fields fs before first (left_at at os) ≡ refuse a Value
    → Fails (next_fields fs before first) at os a
next_fail fs before first at os a again e = elim (bind_err (fields_at fs (first ++ before) (left_at at os)) (λ others. Ok (first ++ others.0, others.1)) (record { at = a; why = Value }) e) [
  | inl k ↦
      let f = again k in
      record { used = f.used; others = f.others; split = f.split; from = f.from; some = f.some; few = f.few; alone = λ more m. rw (f.alone more m) refl }
  | inr k ↦ absurd (let no : ◌≡◌ {A = Result Read Refusal} (Ok (first ++ k.0.0, k.0.1)) (refuse a Value) = k.2 in cc)
]

when_fail : (name : ℕ) (values : List ℕ) (fs gs : Fields) (before : List Shown) (at : ℕ) (os : List ℕ) (a : ℕ) (b : Bool) → is_one_of values (value_of name before) ≡ b
    → (fields_at fs before (left_at at os) ≡ refuse a Value → Fails (fields_at fs before) at os a) → (fields_at gs before (left_at at os) ≡ refuse a Value → Fails (fields_at gs before) at os a)
    → cond b (fields_at fs before (left_at at os)) (fields_at gs before (left_at at os)) ≡ refuse a Value → Fails (fields_at (when name values fs gs) before) at os a
when_fail name values fs gs before at os a true is f g e = chosen_fails (fields_at (when name values fs gs) before) (fields_at fs before) at os a (f e) (λ more n. rw is refl)
when_fail name values fs gs before at os a false is f g e = chosen_fails (fields_at (when name values fs gs) before) (fields_at gs before) at os a (g e) (λ more n. rw is refl)

where_fail : (n name : ℕ) (fs gs : Fields) (before : List Shown) (at : ℕ) (os : List ℕ) (a : ℕ) (b : Bool) → nat_lt (length os) n ≡ b
    → (fields_at fs before (left_at at os) ≡ refuse a Value → Fails (fields_at fs before) at os a) → (fields_at gs before (left_at at os) ≡ refuse a Value → Fails (fields_at gs before) at os a)
    → cond b (fields_at gs before (left_at at os)) (fields_at fs before (left_at at os)) ≡ refuse a Value → Fails (fields_at (where_left n name fs gs) before) at os a
where_fail n name fs gs before at os a true is f g e = chosen_fails (fields_at (where_left n name fs gs) before) (fields_at gs before) at os a (g e) (λ more m. rw (m, is) refl)
where_fail n name fs gs before at os a false is f g e = chosen_fails (fields_at (where_left n name fs gs) before) (fields_at fs before) at os a (f e) (λ more m. rw (m, is) refl)

pub fields_fail : (fs : Fields) → narrow_row fs ≡ true → (before : List Shown) (at : ℕ) (os : List ℕ) (a : ℕ) → fields_at fs before (left_at at os) ≡ refuse a Value → Fails (fields_at fs before) at os a
fields_fail end h before at os a e = absurd (end_never (eqb (length os) 0) at a ([], []) e)
fields_fail (rest name least most) h before at os a e = elim (bind_err (rest_at least most (left_at at os)) (λ all. Ok (octets name all ∷ [], [])) (record { at = a; why = Value }) e) [
  | inl k ↦ absurd (rest_never (nat_lt (length os) least) (nat_lt most (length os)) at (at + most) a os k)
  | inr k ↦ absurd (let no : ◌≡◌ {A = Result Read Refusal} (Ok (octets name k.0 ∷ [], [])) (refuse a Value) = k.2 in cc)
]
fields_fail (repeated name least fs) h before at os a e = repeated_fail name least fs before h at os a (nat_lt (length os) least) refl e
fields_fail (f ▹ fs) h before at os a e =
    let p = and_parts (narrow f) (narrow_row fs) h in
    bind_fails (field_at f) (next_fields fs before) (field_local f p.0) (λ first at os a. next_fail fs before first at os a (fields_fail fs p.1 (first ++ before) at os a)) at os a e
fields_fail (when name values fs gs) h before at os a e =
    let p = and_parts (narrow_row fs) (narrow_row gs) h in
    when_fail name values fs gs before at os a (is_one_of values (value_of name before)) refl (fields_fail fs p.0 before at os a) (fields_fail gs p.1 before at os a) e
fields_fail (where_left n name fs gs) h before at os a e =
    let p = and_parts (narrow_row fs) (narrow_row gs) h in
    where_fail n name fs gs before at os a (nat_lt (length os) n) refl (fields_fail fs p.0 before at os a) (fields_fail gs p.1 before at os a) e
