-- Whole messages: a value that is out of its range.
use Rattle.std.proofs.Common.{◌≡◌, ℕ, suc, ◌+◌, ◌-◌, ◌*◌, ◌≤◌, ◌<◌, Bool, true, false, cond, eqb, get_or, List, [], ◌∷◌, ◌++◌, length, take, drop, Option, Some, None, Result, Ok, refl, sym, ap, subst, ◌∙◌, arith, inl, inr, length-append, length-drop}
use Rattle.std.specs.Prelude.{nat_lt, ◌&&◌, ◌==◌}
use Rattle.std.proofs.lemmas.Bool.{and_parts, ne_eqb}
use Rattle.std.proofs.lemmas.List.{take_at, take-append-drop}
use Rattle.mu_model_wire.specs.declared.Refusal.{Refusal}
use Rattle.mu_model_wire.specs.declared.Why.{Why}
use Rattle.mu_model_wire.specs.declared.Why.TheVariants.{Short, Value, Long}
use Rattle.mu_model_wire.specs.Patterns.{within}
use Rattle.mu_model_wire.specs.Fields.{Fields, Row, Message}
use Rattle.mu_model_wire.specs.Reading.{◌>>=◌, Left, refuse, fields_at, opcode_at, fields_of, row_at, message_at}
use Rattle.mu_model_wire.specs.Table.{rows}
use Rattle.mu_model_refusals.specs.Refusals.{FieldFails}
use Rattle.mu_model_refusals.proofs.Readers.{left_at, Done, Fails, IsLocal, ok_is, why_is, value_long, opcode_value, bind_err, bind_fails, word_lack}
use Rattle.mu_model_refusals.proofs.Fields.{first_word, narrow_row, fields_fail}

-- ---- the opcode

-- it has two octets where the first one says so
abbrev is_first : ℕ → Bool
is_first a = within 0x80 0xBF a

abbrev opcode_by : Bool → ℕ → ℕ → List ℕ → Result (ℕ × Left) Refusal
opcode_by two at a more = cond two (cond (eqb (length more) 0) (refuse at Short) (Ok (a * 256 + get_or more 0 0, left_at (at + 1 + 1) (drop 1 more)))) (Ok (a, left_at (at + 1) more))

pub opcode_none : (at : ℕ) → opcode_at (left_at at []) ≡ refuse at Short
unfolding opcode_at
opcode_none at = rw (word_lack 1 at [] (omega arith)) refl

pub opcode_is : (at a : ℕ) (more : List ℕ) → opcode_at (left_at at (a ∷ more)) ≡ opcode_by (is_first a) at a more
unfolding opcode_at
opcode_is at a more = rw (first_word at a more) refl

pub not_zero : (n : ℕ) → eqb (suc n) 0 ≡ false
not_zero n = ne_eqb (suc n) 0 (λ e. let no : ⊥ = omega (arith, e) in no)

two_read : (at a b : ℕ) (more : List ℕ) → opcode_by true at a (b ∷ more) ≡ Ok (a * 256 + b, left_at (at + 1 + 1) more)
two_read at a b more = rw (not_zero (length more)) refl

one_done : (at a : ℕ) (more : List ℕ) (x : ℕ) (next : Left) → is_first a ≡ false → ◌≡◌ {A = Result (ℕ × Left) Refusal} (Ok (a, left_at (at + 1) more)) (Ok (x, next)) → Done opcode_at at (a ∷ more) x next
one_done at a more x next is e = subst (λ (z : ℕ × Left). Done opcode_at at (a ∷ more) z.0 z.1) (ok_is e) (record {
  used = a ∷ [];
  split = refl;
  place = refl;
  alone = λ others. opcode_is at a others ∙ ap (λ b. opcode_by b at a others) is;
  short = λ p q e some. one_short p q e some;
})
  where
    one_short : (p q : List ℕ) → a ∷ [] ≡ p ++ q → 0 < length q → (b : ℕ) × (b ≤ at + length p) × (opcode_at (left_at at p) ≡ refuse b Short)
    one_short [] q e some = (at, omega arith, opcode_none at)
    one_short (b ∷ p) q e some = absurd (let n : 0 ≡ length p + length q = (let tail : [] ≡ p ++ q = cc in ap (length {A = ℕ}) tail ∙ length-append p q) in omega (arith, n, some))

two_done : (at a b : ℕ) (more : List ℕ) (x : ℕ) (next : Left) → is_first a ≡ true → ◌≡◌ {A = Result (ℕ × Left) Refusal} (Ok (a * 256 + b, left_at (at + 1 + 1) more)) (Ok (x, next))
    → Done opcode_at at (a ∷ b ∷ more) x next
two_done at a b more x next is e = subst (λ (z : ℕ × Left). Done opcode_at at (a ∷ b ∷ more) z.0 z.1) (ok_is e) (record {
  used = a ∷ b ∷ [];
  split = refl;
  place = omega arith;
  alone = λ others. opcode_is at a (b ∷ others) ∙ ap (λ t. opcode_by t at a (b ∷ others)) is ∙ two_read at a b others;
  short = λ p q e some. two_short p q e some;
})
  where
    two_short : (p q : List ℕ) → a ∷ b ∷ [] ≡ p ++ q → 0 < length q → (c : ℕ) × (c ≤ at + length p) × (opcode_at (left_at at p) ≡ refuse c Short)
    two_short [] q e some = (at, omega arith, opcode_none at)
    two_short (c ∷ []) q e some =
        let head : a ≡ c = cc in
        (at, omega arith, opcode_is at c [] ∙ ap (λ t. opcode_by t at c []) (subst (λ d. is_first d ≡ true) head is))
    two_short (c ∷ d ∷ p) q e some = absurd (let n : 0 ≡ length p + length q = (let tail : [] ≡ p ++ q = cc in ap (length {A = ℕ}) tail ∙ length-append p q) in omega (arith, n, some))

opcode_read : (at : ℕ) (os : List ℕ) (x : ℕ) (next : Left) → opcode_at (left_at at os) ≡ Ok (x, next) → Done opcode_at at os x next
opcode_read at [] x next e = absurd (let no : refuse at Short ≡ Ok (x, next) = sym (opcode_none at) ∙ e in cc)
opcode_read at (a ∷ more) x next e = by_first (is_first a) more refl (sym (opcode_is at a more) ∙ e)
  where
    by_first : (two : Bool) (more : List ℕ) → is_first a ≡ two → opcode_by two at a more ≡ Ok (x, next) → Done opcode_at at (a ∷ more) x next
    by_first false more is e = one_done at a more x next is e
    by_first true [] is e = absurd (let no : refuse at Short ≡ Ok (x, next) = e in cc)
    by_first true (b ∷ more) is e = two_done at a b more x next is (sym (two_read at a b more) ∙ e)

-- an opcode is refused only where octets lack
opcode_refused : (at b : ℕ) (os : List ℕ) (why : Why) → opcode_at (left_at at os) ≡ refuse b why → why ≡ Short
opcode_refused at b [] why e = let same : ◌≡◌ {A = Result (ℕ × Left) Refusal} (refuse at Short) (refuse b why) = sym (opcode_none at) ∙ e in sym (why_is {X = ℕ × Left} same)
opcode_refused at b (a ∷ more) why e = by_first (is_first a) (eqb (length more) 0) (sym (opcode_is at a more) ∙ e)
  where
    by_first : (two none : Bool) → cond two (cond none (refuse {A = ℕ × Left} at Short) (Ok (a * 256 + get_or more 0 0, left_at (at + 1 + 1) (drop 1 more)))) (Ok (a, left_at (at + 1) more)) ≡ refuse b why → why ≡ Short
    by_first false none e = absurd (let no : Ok (a, left_at (at + 1) more) ≡ refuse b why = e in cc)
    by_first true false e = absurd (let no : Ok (a * 256 + get_or more 0 0, left_at (at + 1 + 1) (drop 1 more)) ≡ refuse b why = e in cc)
    by_first true true e = let same : ◌≡◌ {A = Result (ℕ × Left) Refusal} (refuse at Short) (refuse b why) = e in sym (why_is {X = ℕ × Left} same)

pub opcode_local : IsLocal opcode_at
opcode_local = record {
  done = opcode_read;
  fails = λ at os a e. absurd (let no : Value ≡ Short = opcode_refused at a os Value e in cc);
  never_long = λ at os a e. let no : Long ≡ Short = opcode_refused at a os Long e in absurd cc;
}

-- ---- the row

abbrev pub all_rows_narrow : List Row → Bool
all_rows_narrow [] = true
all_rows_narrow (row ∷ rows) = narrow_row row.fields && all_rows_narrow rows

pub found_narrow : (table : List Row) (opcode : ℕ) (fs : Fields) → all_rows_narrow table ≡ true → fields_of table opcode ≡ Some fs → narrow_row fs ≡ true
found_narrow [] opcode fs h e = absurd cc
found_narrow (row ∷ table) opcode fs h e =
    let p = and_parts (narrow_row row.fields) (all_rows_narrow table) h in
    by_row (opcode == row.opcode) p.0 (found_narrow table opcode fs p.1) e
  where
    by_row : (b : Bool) → narrow_row row.fields ≡ true → (fields_of table opcode ≡ Some fs → narrow_row fs ≡ true) → cond b (Some row.fields) (fields_of table opcode) ≡ Some fs → narrow_row fs ≡ true
    by_row true here more e = let same : row.fields ≡ fs = cc in subst (λ f. narrow_row f ≡ true) same here
    by_row false here more e = more e

row_fails : (opcode : ℕ) (found : Option Fields) → ((fs : Fields) → found ≡ Some fs → narrow_row fs ≡ true) → (at : ℕ) (os : List ℕ) (a : ℕ)
    → row_at found opcode (left_at at os) ≡ refuse a Value → Fails (row_at found opcode) at os a
row_fails opcode None h at os a e = absurd (opcode_value e)
row_fails opcode (Some fs) h at os a e = elim (bind_err (fields_at fs [] (left_at at os)) (λ shown. Ok (record { opcode = opcode; fields = shown.0; entries = shown.1 })) (record { at = a; why = Value }) e) [
  | inl k ↦
      let f = fields_fail fs (h fs refl) [] at os a k in
      record { used = f.used; others = f.others; split = f.split; from = f.from; some = f.some; few = f.few; alone = λ more m. rw (f.alone more m) refl }
  | inr k ↦ absurd (let no : ◌≡◌ {A = Result Message Refusal} (Ok (record { opcode = opcode; fields = k.0.0; entries = k.0.1 })) (refuse a Value) = k.2 in cc)
]

-- ---- the message

abbrev pub read_by : Bool → List ℕ → Result Message Refusal
read_by b bytes = cond b (refuse 380 Long) (opcode_at (left_at 0 bytes) >>= λ opcode. row_at (fields_of rows opcode.0) opcode.0 opcode.1)

value_by : (b : Bool) (bytes : List ℕ) (at : ℕ) → nat_lt 380 (length bytes) ≡ b → read_by b bytes ≡ refuse at Value → FieldFails bytes at
value_by true bytes at is e = absurd (value_long (sym e))
value_by false bytes at is e =
    let f = bind_fails opcode_at (λ opcode. row_at (fields_of rows opcode) opcode) opcode_local
    (λ opcode. row_fails opcode (fields_of rows opcode) (λ fs. found_narrow rows opcode fs refl)) 0 bytes at e in
    let used = f.used in
    let some = f.some in
    let few = f.few in
    let n : length bytes ≡ length f.used + length f.others = ap (length {A = ℕ}) f.split ∙ length-append f.used f.others in
    record {
      last = length f.used;
      some = omega (arith, some);
      few = omega (arith, few);
      within = omega (arith, n);
      alone = λ other same front.
          let begins : take (length f.used) bytes ≡ f.used = ap (λ xs. take (length f.used) xs) f.split ∙ take_at f.used f.others (length f.used) refl in
          let is_split : f.used ++ drop (length f.used) other ≡ other = ap (λ xs. xs ++ drop (length f.used) other) (sym (front ∙ begins)) ∙ take-append-drop (length f.used) other in
          let long : length (drop (length f.used) other) ≡ length f.others = let m : length (drop (length f.used) other) ≡ length other - length f.used = length-drop (length f.used) other in omega (arith, m, n, same) in
          let limit : nat_lt 380 (length other) ≡ false = ap (λ k. nat_lt 380 k) same ∙ is in
          rw limit (subst (λ xs. read_by false xs ≡ refuse at Value) is_split (f.alone (drop (length f.used) other) long));
    }

pub value_is : (bytes : List ℕ) (at : ℕ) → message_at rows bytes ≡ refuse at Value → FieldFails bytes at
value_is bytes at e = value_by (nat_lt 380 (length bytes)) bytes at refl e
