-- What is read of a payload has passed the reader's own tests: a number that has a range is in it. And a number with any value is
-- below the bound of its octets, where the payload begins with octets, whatever stands behind them.
use Rattle.std.proofs.Common.{◌≡◌, ℕ, zero, suc, ◌+◌, ◌*◌, ◌/◌, ◌%◌, ◌^◌, ◌≤◌, ◌<◌, Bool, true, false, ltb, leb, cond, List, [], ◌∷◌, ◌++◌, length, drop, slice_index, Option, Some, None, Result, Ok, Err, refl, sym, ap, subst, arith}
use Rattle.std.specs.Prelude.{◌==◌}
use Rattle.std.proofs.Math.Nat.{pow-suc}
use Rattle.std.proofs.lemmas.Bool.{leb-true, le-ltb, ltb-false, and_parts, eqb-true}
use Rattle.std.proofs.lemmas.List.{get_or-drop}
use Rattle.byteorder.specs.Endian.{little_from, little_number}
use Rattle.mu_model_wire.specs.declared.Refusal.{Refusal}
use Rattle.mu_model_wire.specs.declared.Why.TheVariants.{Value, Short, Long}
use Rattle.mu_model_wire.specs.Patterns.{within}
use Rattle.mu_model_wire.specs.Fields.{Part, part, rfu, Field, word, num, split, Fields, rest, ◌▹◌, Shown, number, octets as shown_octets, Message}
use Rattle.mu_model_wire.specs.Reading.{◌>>=◌, Left, after, refuse, word_at, number_at, parts_in, parts_of, field_at, fields_at, rest_at, opcode_at, fields_of, row_at, message_at}
use Rattle.mu_model_wire.specs.Table.{rows}

-- ---- a message's opening: its opcode and the numbers before anything else

-- with n octets behind the field
abbrev numbers_before : Field → ℕ → ℕ
numbers_before (word name k) n = k + n
numbers_before (num name k least most) n = k + n
numbers_before (split k ps) n = k + n
numbers_before _ n = 0

abbrev pub numbers_of : Fields → ℕ
numbers_of (f ▹ fs) = numbers_before f (numbers_of fs)
numbers_of _ = 0

abbrev pub row_numbers : Option Fields → ℕ
row_numbers None = 0
row_numbers (Some fs) = numbers_of fs

abbrev pub opcode_width : ℕ → ℕ
opcode_width opcode = cond (ltb opcode 256) 1 2

-- how many octets the opening of an opcode's messages has
abbrev pub opening : ℕ → ℕ
opening opcode = opcode_width opcode + row_numbers (fields_of rows opcode)

-- the first n elements are octets
abbrev pub Opens : ℕ → List ℕ → Type 0
Opens n bytes = (i : ℕ) → i < n → slice_index bytes i < 256

opens_behind : (k n : ℕ) (bytes : List ℕ) → Opens (k + n) bytes → Opens n (drop k bytes)
opens_behind k n bytes h i l =
    let here : slice_index bytes (k + i) < 256 = h (k + i) (omega arith) in
    rw (get_or-drop k bytes i 0) here

opens_less : (n m : ℕ) (bytes : List ℕ) → m ≤ n → Opens n bytes → Opens m bytes
opens_less n m bytes less h i l = h i (omega arith)

-- a number of octets is below their bound
number_below : (i k n : ℕ) (bytes : List ℕ) → i + k ≤ n → Opens n bytes → little_from i k bytes < 256 ^ k
number_below i zero n bytes l h = omega arith
number_below i (suc k) n bytes l h =
    let low : slice_index bytes i < 256 = h i (omega arith) in
    let high : little_from (suc i) k bytes < 256 ^ k = number_below (suc i) k n bytes (omega arith) h in
    let more : 256 ^ suc k ≡ 256 ^ k * 256 = pow-suc 256 k in
    omega arith

-- ---- steps that were not refused

bind_ok : {A B : Type 0} (r : Result A Refusal) (f : A → Result B Refusal) (y : B) → (r >>= f) ≡ Ok y → (x : A) × (r ≡ Ok x) × (f x ≡ Ok y)
bind_ok (Ok x) f y e = (x, refl, e)
bind_ok (Err d) f y e = absurd cc

-- a test that was passed
passed : {A : Type 0} (b : Bool) (d : Refusal) (x y : A) → cond b (Ok x) (Err d) ≡ Ok y → (b ≡ true) × (x ≡ y)
passed true d x y e = (refl, cc)
passed false d x y e = absurd cc

-- a fault that wasn't there
spared : {A : Type 0} (b : Bool) (d : Refusal) (r : Result A Refusal) (y : A) → cond b (Err d) r ≡ Ok y → (b ≡ false) × (r ≡ Ok y)
spared true d r y e = absurd cc
spared false d r y e = (refl, e)

word_read : (k : ℕ) (left : Left) (x : ℕ × Left) → word_at k left ≡ Ok x → (little_number k left.octets, after k left) ≡ x
unfolding word_at
word_read k left x e =
    let g = spared (ltb (length left.octets) k) (record { at = left.at; why = Short }) (Ok (little_number k left.octets, after k left)) x e in
    cc

word_below : (k n : ℕ) (left : Left) (x : ℕ × Left) → word_at k left ≡ Ok x → Opens (k + n) left.octets → x.0 < 256 ^ k
word_below k n left x e h = subst (λ (y : ℕ × Left). y.0 < 256 ^ k) (word_read k left x e) (number_below 0 k (k + n) left.octets (omega arith) h)

word_behind : (k n : ℕ) (left : Left) (x : ℕ × Left) → word_at k left ≡ Ok x → Opens (k + n) left.octets → Opens n x.1.octets
word_behind k n left x e h = subst (λ (y : ℕ × Left). Opens n y.1.octets) (word_read k left x e) (opens_behind k n left.octets h)

-- ---- what a reader tests

-- a list begins with a number of this name that is as P says, and goes on as Q says
pub record Begins (name : ℕ) (P : ℕ → Type 0) (Q : List Shown → Type 0) (shown : List Shown) : Type 0 where
  pub value : ℕ
  pub more : List Shown
  pub is : shown ≡ number name value ∷ more
  pub fits : P value
  pub next : Q more

-- it is octets of this name, of the least and the most that are given
pub record IsRest (name least most : ℕ) (shown : List Shown) : Type 0 where
  pub all : List ℕ
  pub is : shown ≡ shown_octets name all ∷ []
  pub at_least : least ≤ length all
  pub at_most : length all ≤ most

abbrev InRange : ℕ → ℕ → ℕ → Type 0
InRange least most v = (least ≤ v) × (v ≤ most)

abbrev PartsTested : List Part → (List Shown → Type 0) → List Shown → Type 0
PartsTested [] next shown = next shown
PartsTested (rfu w ∷ ps) next shown = PartsTested ps next shown
PartsTested (part name w least most ∷ ps) next shown = Begins name (InRange least most) (PartsTested ps next) shown

abbrev FieldTested : Field → (List Shown → Type 0) → List Shown → Type 0
FieldTested (word name k) next shown = Begins name (λ v. v < 256 ^ k) next shown
FieldTested (num name k least most) next shown = Begins name (InRange least most) next shown
FieldTested (split k ps) next shown = PartsTested ps next shown
FieldTested _ next shown = Unit {0}

-- what is tested of the fields up to the first that is no number, and of octets to the end
abbrev pub FieldsTested : Fields → List Shown → Type 0
FieldsTested (f ▹ fs) shown = FieldTested f (FieldsTested fs) shown
FieldsTested (rest name least most) shown = IsRest name least most shown
FieldsTested _ shown = Unit {0}

-- ---- fields

number_tested : (k least most : ℕ) (left : Left) (x : ℕ × Left) → number_at k least most left ≡ Ok x → InRange least most x.0 × (word_at k left ≡ Ok x)
number_tested k least most left x e =
    let b = bind_ok (word_at k left) (λ w. cond (within least most w.0) (Ok w) (refuse left.at Value)) x e in
    let g = passed (within least most b.0.0) (record { at = left.at; why = Value }) b.0 x b.2 in
    let h = and_parts (leb least b.0.0) (leb b.0.0 most) g.0 in
    subst (λ (y : ℕ × Left). InRange least most y.0 × (word_at k left ≡ Ok y)) g.1 ((leb-true _ _ h.0, leb-true _ _ h.1), b.1)

parts_tested : (ps : List Part) (n : ℕ) (others : List Shown) (next : List Shown → Type 0) → parts_in ps n ≡ true → next others → PartsTested ps next (parts_of ps n ++ others)
parts_tested [] n others next e go = go
parts_tested (rfu w ∷ ps) n others next e go = parts_tested ps (n / 2 ^ w) others next e go
parts_tested (part name w least most ∷ ps) n others next e go =
    let h = and_parts (within least most (n % 2 ^ w)) (parts_in ps (n / 2 ^ w)) e in
    let g = and_parts (leb least (n % 2 ^ w)) (leb (n % 2 ^ w) most) h.0 in
    record { value = n % 2 ^ w; more = parts_of ps (n / 2 ^ w) ++ others; is = refl; fits = (leb-true _ _ g.0, leb-true _ _ g.1); next = parts_tested ps (n / 2 ^ w) others next h.1 go }

-- what the other fields show follows what the field shows
abbrev Follows : Field → ℕ → List Shown → (List Shown → Type 0) → List Shown × Left → Type 0
Follows f n others next x = (Opens n x.1.octets → next others) → FieldTested f next (x.0 ++ others)

field_tested : (f : Field) (n : ℕ) (left : Left) (x : List Shown × Left) (others : List Shown) (next : List Shown → Type 0) → field_at f left ≡ Ok x → Opens (numbers_before f n) left.octets → Follows f n others next x
field_tested (word name k) n left x others next e h =
    let b = bind_ok (word_at k left) (λ w. Ok (number name w.0 ∷ [], w.1)) x e in
    let is : (number name b.0.0 ∷ [], b.0.1) ≡ x = cc in
    subst (Follows (word name k) n others next) is (λ go. record { value = b.0.0; more = others; is = refl; fits = word_below k n left b.0 b.1 h; next = go (word_behind k n left b.0 b.1 h) })
field_tested (num name k least most) n left x others next e h =
    let b = bind_ok (number_at k least most left) (λ w. Ok (number name w.0 ∷ [], w.1)) x e in
    let t = number_tested k least most left b.0 b.1 in
    let is : (number name b.0.0 ∷ [], b.0.1) ≡ x = cc in
    subst (Follows (num name k least most) n others next) is (λ go. record { value = b.0.0; more = others; is = refl; fits = t.0; next = go (word_behind k n left b.0 t.1 h) })
field_tested (split k ps) n left x others next e h =
    let b = bind_ok (word_at k left) (λ w. cond (parts_in ps w.0) (Ok (parts_of ps w.0, w.1)) (refuse left.at Value)) x e in
    let g = passed (parts_in ps b.0.0) (record { at = left.at; why = Value }) (parts_of ps b.0.0, b.0.1) x b.2 in
    subst (Follows (split k ps) n others next) g.1 (λ go. parts_tested ps b.0.0 others next g.0 (go (word_behind k n left b.0 b.1 h)))
field_tested f n left x others next e h = λ go. tt

rest_tested : (name least most : ℕ) (left : Left) (all : List ℕ) → rest_at least most left ≡ Ok all → IsRest name least most (shown_octets name all ∷ [])
rest_tested name least most left all e =
    let g = spared (ltb (length left.octets) least) (record { at = left.at; why = Short }) (cond (ltb most (length left.octets)) (refuse (left.at + most) Long) (Ok left.octets)) all e in
    let l = spared (ltb most (length left.octets)) (record { at = left.at + most; why = Long }) (Ok left.octets) all g.1 in
    let is : left.octets ≡ all = cc in
    subst (λ (os : List ℕ). IsRest name least most (shown_octets name os ∷ [])) is
    (record { all = left.octets; is = refl; at_least = ltb-false _ _ g.0; at_most = ltb-false _ _ l.0 })

fields_tested : (fs : Fields) (before : List Shown) (left : Left) (x : List Shown × List (List Shown)) → fields_at fs before left ≡ Ok x → Opens (numbers_of fs) left.octets → FieldsTested fs x.0
fields_tested (rest name least most) before left x e h =
    let b = bind_ok (rest_at least most left) (λ all. Ok (shown_octets name all ∷ [], [])) x e in
    let is : (shown_octets name b.0 ∷ [], []) ≡ x = cc in
    subst (λ (y : List Shown × List (List Shown)). IsRest name least most y.0) is (rest_tested name least most left b.0 b.1)
fields_tested (f ▹ fs) before left x e h =
    let b = bind_ok (field_at f left) (λ first. fields_at fs (first.0 ++ before) first.1 >>= λ others. Ok (first.0 ++ others.0, others.1)) x e in
    let d = bind_ok (fields_at fs (b.0.0 ++ before) b.0.1) (λ others. Ok (b.0.0 ++ others.0, others.1)) x b.2 in
    let is : (b.0.0 ++ d.0.0, d.0.1) ≡ x = cc in
    subst (λ (y : List Shown × List (List Shown)). FieldsTested (f ▹ fs) y.0) is
    (field_tested f (numbers_of fs) left b.0 d.0.0 (FieldsTested fs) b.1 h (fields_tested fs (b.0.0 ++ before) b.0.1 d.0 d.1))
fields_tested fs before left x e h = tt

-- ---- a message

-- its fields are tested as those of its opcode's row
abbrev pub IsTested : Message → Type 0
IsTested m = (fs : Fields) → fields_of rows m.opcode ≡ Some fs → FieldsTested fs m.fields

row_tested : (found : Option Fields) (opcode : ℕ) (left : Left) (m : Message) → fields_of rows opcode ≡ found → row_at found opcode left ≡ Ok m → (m.opcode ≡ opcode → Opens (row_numbers found) left.octets) → IsTested m
row_tested None opcode left m is e h = absurd cc
row_tested (Some fs) opcode left m is e h =
    let b = bind_ok (fields_at fs [] left) (λ shown. Ok (record { opcode = opcode; fields = shown.0; entries = shown.1 })) m e in
    let made : Message = record { opcode = opcode; fields = b.0.0; entries = b.0.1 } in
    let same : made ≡ m = cc in
    let one : m.opcode ≡ opcode = ap (λ (n : Message). n.opcode) (sym same) in
    let t = fields_tested fs [] left b.0 b.1 (h one) in
    subst IsTested same (λ gs found.
    let row : fs ≡ gs = cc in
    subst (λ hs. FieldsTested hs b.0.0) row t)

one_at_least : (opcode : ℕ) → 1 ≤ opcode_width opcode
one_at_least opcode =
    elim (ltb opcode 256) as (λ b. 1 ≤ cond b 1 2) [
      | true ↦ omega arith
      | false ↦ omega arith
    ]

-- two octets begin with one from 0x80 on
two_octets : (first second : ℕ) → 0x80 ≤ first → opcode_width (first * 256 + second) ≡ 2
two_octets first second h = rw (le-ltb (first * 256 + second) 256 (omega arith)) refl

opcode_behind : (n : ℕ) (left : Left) (x : ℕ × Left) → opcode_at left ≡ Ok x → Opens (opcode_width x.0 + n) left.octets → Opens n x.1.octets
unfolding opcode_at
opcode_behind n left x e h =
    let b = bind_ok (word_at 1 left) (λ first. cond (within 0x80 0xBF first.0) (cond (length first.1.octets == 0) (refuse left.at Short) (Ok (first.0 * 256 + slice_index first.1.octets 0, after 1 first.1))) (Ok first)) x e in
    by_first b.0 (within 0x80 0xBF b.0.0) refl b.1 b.2
  where
    by_first : (first : ℕ × Left) (two : Bool) → within 0x80 0xBF first.0 ≡ two → word_at 1 left ≡ Ok first → cond two (cond (length first.1.octets == 0) (refuse left.at Short) (Ok (first.0 * 256 + slice_index first.1.octets 0, after 1 first.1))) (Ok first) ≡ Ok x → Opens n x.1.octets
    by_first first true w f g =
        let s = spared (length first.1.octets == 0) (record { at = left.at; why = Short }) (Ok (first.0 * 256 + slice_index first.1.octets 0, after 1 first.1)) x g in
        let is : (first.0 * 256 + slice_index first.1.octets 0, after 1 first.1) ≡ x = cc in
        let above = leb-true 0x80 first.0 (and_parts (leb 0x80 first.0) (leb first.0 0xBF) w).0 in
        let wide : opcode_width x.0 ≡ 2 = subst (λ (y : ℕ × Left). opcode_width y.0 ≡ 2) is (two_octets first.0 (slice_index first.1.octets 0) above) in
        let whole = opens_less (opcode_width x.0 + n) (1 + (1 + n)) left.octets (rw wide (omega arith)) h in
        subst (λ (y : ℕ × Left). Opens n y.1.octets) is (opens_behind 1 n first.1.octets (word_behind 1 (1 + n) left first f whole))
    by_first first false w f g =
        let is : first ≡ x = cc in
        let wide = one_at_least x.0 in
        subst (λ (y : ℕ × Left). Opens n y.1.octets) is (word_behind 1 n left first f (opens_less (opcode_width x.0 + n) (1 + n) left.octets (omega arith) h))

-- what is read of a payload that begins as its message's opening does
pub message_tested : (bytes : List ℕ) (m : Message) → message_at rows bytes ≡ Ok m → Opens (opening m.opcode) bytes → IsTested m
message_tested bytes m e h =
    let s = spared (ltb 380 (length bytes)) (record { at = 380; why = Long }) (opcode_at (record { at = 0; octets = bytes }) >>= λ opcode. row_at (fields_of rows opcode.0) opcode.0 opcode.1) m e in
    let b = bind_ok (opcode_at (record { at = 0; octets = bytes })) (λ opcode. row_at (fields_of rows opcode.0) opcode.0 opcode.1) m s.1 in
    row_tested (fields_of rows b.0.0) b.0.0 b.0.1 m refl b.2 (λ same. opcode_behind (row_numbers (fields_of rows b.0.0)) (record { at = 0; octets = bytes }) b.0 b.1 (subst (λ (o : ℕ). Opens (opening o) bytes) same h))

pub row_of : (m : Message) (opcode : ℕ) (fs : Fields) → IsTested m → (m.opcode == opcode) ≡ true → fields_of rows opcode ≡ Some fs → FieldsTested fs m.fields
row_of m opcode fs h e found = h fs (rw (eqb-true m.opcode opcode e) found)
