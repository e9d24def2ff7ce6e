-- Fields are read from the octets in front, and nothing behind them counts.
use Rattle.std.proofs.Common.{◌≡◌, ℕ, ◌+◌, ◌≤◌, ◌<◌, ◌⊎◌, Bool, true, false, cond, List, [], ◌∷◌, ◌++◌, length, take, drop, Option, Some, None, Result, Ok, Err, refl, sym, ap, subst, ◌∙◌, arith, inl, inr, append_assoc, length-append}
use Rattle.std.proofs.lemmas.Bool.{lt-ltb, le-ltb, cases_lt}
use Rattle.std.proofs.lemmas.List.{take_at, drop_at, take-append-drop, length-take-le}
use Rattle.byteorder.specs.Endian.{little_from, little_number}
use Rattle.byteorder.specs.Numbers.{little_from-take}
use Rattle.mu_model_wire.specs.declared.Refusal.{Refusal}
use Rattle.mu_model_wire.specs.declared.Why.{Why}
use Rattle.mu_model_wire.specs.declared.Why.TheVariants.{Opcode, Short, Value, Long}
use Rattle.mu_model_wire.specs.Reading.{◌>>=◌, Left, refuse, word_at, octets_at}

abbrev pub left_at : ℕ → List ℕ → Left
left_at at os = record { at = at; octets = os }

abbrev pub Reader : Type 0 → Type 0
Reader A = Left → Result (A × Left) Refusal

-- ---- what a reader does

-- Octets in front were read. With others behind them the same is read; where some of them lack, the reader says so, at a place that is there.
pub record Done {A : Type 0} (r : Reader A) (at : ℕ) (os : List ℕ) (x : A) (next : Left) : Type 0 where
  pub used : List ℕ
  pub split : os ≡ used ++ next.octets
  pub place : next.at ≡ at + length used
  pub alone : (more : List ℕ) → r (left_at at (used ++ more)) ≡ Ok (x, left_at next.at more)
  pub short : (p q : List ℕ) → used ≡ p ++ q → 0 < length q → (a : ℕ) × (a ≤ at + length p) × (r (left_at at p) ≡ refuse a Short)

-- A value is out of its range. Its octets are the last ones of those in front, and nothing behind them counts but how many there are.
pub record Fails {Y : Type 0} (r : Left → Result Y Refusal) (at : ℕ) (os : List ℕ) (a : ℕ) : Type 0 where
  pub used : List ℕ
  pub others : List ℕ
  pub split : os ≡ used ++ others
  pub from : at ≤ a
  pub some : a < at + length used
  pub few : at + length used ≤ a + 5
  pub alone : (more : List ℕ) → length more ≡ length others → r (left_at at (used ++ more)) ≡ refuse a Value

pub record IsLocal {A : Type 0} (r : Reader A) : Type 0 where
  pub done : (at : ℕ) (os : List ℕ) (x : A) (next : Left) → r (left_at at os) ≡ Ok (x, next) → Done r at os x next
  pub fails : (at : ℕ) (os : List ℕ) (a : ℕ) → r (left_at at os) ≡ refuse a Value → Fails r at os a
  pub never_long : (at : ℕ) (os : List ℕ) (a : ℕ) → r (left_at at os) ≡ refuse a Long → ⊥

-- ---- results

abbrev pub place_of : {X : Type 0} → Result X Refusal → ℕ
place_of (Ok x) = 0
place_of (Err e) = e.at

abbrev pub why_of : {X : Type 0} → Result X Refusal → Why
why_of (Ok x) = Opcode
why_of (Err e) = e.why

pub ok_is : {X : Type 0} {a b : X} → ◌≡◌ {A = Result X Refusal} (Ok a) (Ok b) → a ≡ b
ok_is e = cc

pub place_is : {X : Type 0} {a b : ℕ} {why : Why} → ◌≡◌ {A = Result X Refusal} (refuse a why) (refuse b why) → a ≡ b
place_is e = ap place_of e

pub why_is : {X : Type 0} {a b : ℕ} {why other : Why} → ◌≡◌ {A = Result X Refusal} (refuse a why) (refuse b other) → why ≡ other
why_is e = ap why_of e

pub opcode_value : {X : Type 0} {a b : ℕ} → ◌≡◌ {A = Result X Refusal} (refuse a Opcode) (refuse b Value) → ⊥
opcode_value e = let same : Opcode ≡ Value = ap why_of e in cc

pub short_value : {X : Type 0} {a b : ℕ} → ◌≡◌ {A = Result X Refusal} (refuse a Short) (refuse b Value) → ⊥
short_value e = let same : Short ≡ Value = ap why_of e in cc

pub short_long : {X : Type 0} {a b : ℕ} → ◌≡◌ {A = Result X Refusal} (refuse a Short) (refuse b Long) → ⊥
short_long e = let same : Short ≡ Long = ap why_of e in cc

pub value_long : {X : Type 0} {a b : ℕ} → ◌≡◌ {A = Result X Refusal} (refuse a Value) (refuse b Long) → ⊥
value_long e = let same : Value ≡ Long = ap why_of e in cc

pub bind_ok : {A B : Type 0} (r : Result A Refusal) (f : A → Result B Refusal) (y : B) → (r >>= f) ≡ Ok y → (x : A) × (r ≡ Ok x) × (f x ≡ Ok y)
bind_ok (Ok x) f y e = (x, refl, e)
bind_ok (Err d) f y e = absurd cc

pub bind_err : {A B : Type 0} (r : Result A Refusal) (f : A → Result B Refusal) (d : Refusal) → (r >>= f) ≡ Err d → (r ≡ Err d) ⊎ ((x : A) × (r ≡ Ok x) × (f x ≡ Err d))
bind_err (Ok x) f d e = inr (x, refl, e)
bind_err (Err c) f d e = inl (let same : c ≡ d = cc in ap Err same)

-- ---- so many octets

abbrev given : {A : Type 0} → ℕ → Option A → Left → Result (A × Left) Refusal
given at (Some x) next = Ok (x, next)
given at None next = refuse at Value

pub record Takes {A : Type 0} (r : Reader A) (k : ℕ) : Type 0 where
  pub lack : (at : ℕ) (os : List ℕ) → length os < k → r (left_at at os) ≡ refuse at Short
  pub value : List ℕ → Option A
  pub there : (at : ℕ) (used more : List ℕ) → length used ≡ k → r (left_at at (used ++ more)) ≡ given at (value used) (left_at (at + k) more)
  pub narrow : (used : List ℕ) → value used ≡ None → (0 < k) × (k ≤ 5)

taken_done : {A : Type 0} (r : Reader A) (k : ℕ) (t : Takes r k) (at : ℕ) (used more : List ℕ) (x : A) (next : Left) (o : Option A) → length used ≡ k → t.value used ≡ o
    → given at o (left_at (at + k) more) ≡ Ok (x, next) → Done r at (used ++ more) x next
taken_done r k t at used more x next None long is e = absurd cc
taken_done r k t at used more x next (Some y) long is e =
    subst (λ (z : _ × Left). Done r at (used ++ more) z.0 z.1) (ok_is e) (record {
      used = used;
      split = refl;
      place = ap (λ n. at + n) (sym long);
      alone = λ others. t.there at used others long ∙ ap (λ o. given at o (left_at (at + k) others)) is;
      short = λ p q split some. let n : length used ≡ length p + length q = ap (length {A = ℕ}) split ∙ length-append p q in (at, omega arith, t.lack at p (omega (arith, n, long)));
    })

taken_fails : {A : Type 0} (r : Reader A) (k : ℕ) (t : Takes r k) (at : ℕ) (used more : List ℕ) (a : ℕ) (o : Option A) → length used ≡ k → t.value used ≡ o
    → given at o (left_at (at + k) more) ≡ refuse a Value → Fails r at (used ++ more) a
taken_fails r k t at used more a (Some y) long is e = absurd cc
taken_fails r k t at used more a None long is e =
    let same : at ≡ a = place_is e in
    let n = t.narrow used is in
    subst (λ b. Fails r at (used ++ more) b) same (record {
      used = used;
      others = more;
      split = refl;
      from = omega arith;
      some = omega (arith, long, n.0);
      few = omega (arith, long, n.1);
      alone = λ others m. t.there at used others long ∙ ap (λ o. given at o (left_at (at + k) others)) is;
    })

given_never : {A : Type 0} (at a : ℕ) (o : Option A) (next : Left) → given at o next ≡ refuse a Long → ⊥
given_never at a None next e = value_long e
given_never at a (Some x) next e = absurd cc

-- what is read of octets that are there
at_front : {A : Type 0} (r : Reader A) (k : ℕ) (t : Takes r k) (at : ℕ) (os : List ℕ) (y : Result (A × Left) Refusal) → k ≤ length os → r (left_at at os) ≡ y
    → given at (t.value (take k os)) (left_at (at + k) (drop k os)) ≡ y
at_front r k t at os y enough e =
    sym (t.there at (take k os) (drop k os) (length-take-le k os enough)) ∙ ap (λ xs. r (left_at at xs)) (take-append-drop k os) ∙ e

pub takes_local : {A : Type 0} (r : Reader A) (k : ℕ) → Takes r k → IsLocal r
takes_local r k t = record {
  done = λ at os x next e. elim (cases_lt (length os) k) [
    | inl few ↦ absurd (let no : refuse at Short ≡ Ok (x, next) = sym (t.lack at os few) ∙ e in cc)
    | inr enough ↦ subst (λ xs. Done r at xs x next) (take-append-drop k os)
        (taken_done r k t at (take k os) (drop k os) x next (t.value (take k os)) (length-take-le k os enough) refl (at_front r k t at os (Ok (x, next)) enough e))
  ];
  fails = λ at os a e. elim (cases_lt (length os) k) [
    | inl few ↦ absurd (short_value (sym (t.lack at os few) ∙ e))
    | inr enough ↦ subst (λ xs. Fails r at xs a) (take-append-drop k os)
        (taken_fails r k t at (take k os) (drop k os) a (t.value (take k os)) (length-take-le k os enough) refl (at_front r k t at os (refuse a Value) enough e))
  ];
  never_long = λ at os a e. elim (cases_lt (length os) k) [
    | inl few ↦ short_long (sym (t.lack at os few) ∙ e)
    | inr enough ↦ given_never at a (t.value (take k os)) (left_at (at + k) (drop k os)) (at_front r k t at os (refuse a Long) enough e)
  ];
}

-- ---- a word, octets

pub word_lack : (k at : ℕ) (os : List ℕ) → length os < k → word_at k (left_at at os) ≡ refuse at Short
unfolding word_at
word_lack k at os few = rw (lt-ltb (length os) k few) refl

enough_there : (k : ℕ) (used more : List ℕ) → length used ≡ k → k ≤ length (used ++ more)
enough_there k used more long = let n : length (used ++ more) ≡ length used + length more = length-append used more in omega (arith, n, long)

front_number : (k : ℕ) (used more : List ℕ) → length used ≡ k → little_number k (used ++ more) ≡ little_number k used
front_number k used more long =
    let front : take k (used ++ more) ≡ used = take_at used more k long in
    sym (little_from-take 0 k k (used ++ more) (omega arith)) ∙ ap (little_from 0 k) front

pub word_there : (k at : ℕ) (used more : List ℕ) → length used ≡ k → word_at k (left_at at (used ++ more)) ≡ Ok (little_number k used, left_at (at + k) more)
unfolding word_at
word_there k at used more long =
    rw (le-ltb (length (used ++ more)) k (enough_there k used more long), front_number k used more long, drop_at used more k long) refl

pub octets_lack : (k at : ℕ) (os : List ℕ) → length os < k → octets_at k (left_at at os) ≡ refuse at Short
unfolding octets_at
octets_lack k at os few = rw (lt-ltb (length os) k few) refl

pub octets_there : (k at : ℕ) (used more : List ℕ) → length used ≡ k → octets_at k (left_at at (used ++ more)) ≡ Ok (used, left_at (at + k) more)
unfolding octets_at
octets_there k at used more long =
    rw (le-ltb (length (used ++ more)) k (enough_there k used more long), take_at used more k long, drop_at used more k long) refl

pub word_local : (k : ℕ) → IsLocal (word_at k)
word_local k = takes_local (word_at k) k (record { lack = word_lack k; value = λ used. Some (little_number k used); there = word_there k; narrow = λ used e. absurd cc })

pub octets_local : (k : ℕ) → IsLocal (octets_at k)
octets_local k = takes_local (octets_at k) k (record { lack = octets_lack k; value = λ used. Some used; there = octets_there k; narrow = λ used e. absurd cc })

-- a word that is tested
abbrev pub tested : {A : Type 0} → ℕ → (ℕ → Bool) → (ℕ → A) → Reader A
tested k test show left = word_at k left >>= λ w. cond (test w.0) (Ok (show w.0, w.1)) (refuse left.at Value)

given_cond : {A : Type 0} (b : Bool) (at : ℕ) (x : A) (next : Left) → cond b (Ok (x, next)) (refuse at Value) ≡ given at (cond b (Some x) None) next
given_cond true at x next = refl
given_cond false at x next = refl

tested_lack : {A : Type 0} (k : ℕ) (test : ℕ → Bool) (show : ℕ → A) (at : ℕ) (os : List ℕ) → length os < k → tested k test show (left_at at os) ≡ refuse at Short
tested_lack k test show at os few = rw (word_lack k at os few) refl

tested_there : {A : Type 0} (k : ℕ) (test : ℕ → Bool) (show : ℕ → A) (at : ℕ) (used more : List ℕ) → length used ≡ k
    → tested k test show (left_at at (used ++ more)) ≡ given at (cond (test (little_number k used)) (Some (show (little_number k used))) None) (left_at (at + k) more)
tested_there k test show at used more long =
    rw (word_there k at used more long) (given_cond (test (little_number k used)) at (show (little_number k used)) (left_at (at + k) more))

pub tested_local : {A : Type 0} (k : ℕ) (test : ℕ → Bool) (show : ℕ → A) → 0 < k → k ≤ 5 → IsLocal (tested k test show)
tested_local k test show some few = takes_local (tested k test show) k (record {
  lack = tested_lack k test show;
  value = λ used. cond (test (little_number k used)) (Some (show (little_number k used))) None;
  there = tested_there k test show;
  narrow = λ used e. (some, few);
})

-- ---- one after the other

pub ok_local : {A : Type 0} (x : A) → IsLocal (λ left. Ok (x, left))
ok_local x = record {
  done = λ at os y next e. subst (λ (z : _ × Left). Done (λ left. Ok (x, left)) at os z.0 z.1) (ok_is e) (record {
    used = [];
    split = refl;
    place = omega arith;
    alone = λ more. refl;
    short = λ p q e some. absurd (let n : 0 ≡ length p + length q = ap (length {A = ℕ}) e ∙ length-append p q in omega (arith, n));
  });
  fails = λ at os a e. absurd cc;
  never_long = λ at os a e. absurd cc;
}

-- where two lists joined are two others joined, the first ends in the first or in the second
pub split_at : (a b p q : List ℕ) → a ++ b ≡ p ++ q → ((rest : List ℕ) × (a ≡ p ++ rest) × (0 < length rest)) ⊎ ((rest : List ℕ) × (p ≡ a ++ rest) × (b ≡ rest ++ q))
split_at [] b p q e = inr (p, refl, e)
split_at (x ∷ a) b [] q e = inl (x ∷ a, refl, omega arith)
split_at (x ∷ a) b (y ∷ p) q e =
    let tail : a ++ b ≡ p ++ q = cc in
    let head : x ≡ y = cc in
    elim (split_at a b p q tail) [
      | inl h ↦ inl (h.0, rw head (ap (λ xs. y ∷ xs) h.1), h.2)
      | inr h ↦ inr (h.0, rw head (ap (λ xs. y ∷ xs) h.1), h.2)
    ]

abbrev pub bound : {A B : Type 0} → Reader A → (A → Reader B) → Reader B
bound r f left = r left >>= λ y. f y.0 y.1

bound_done : {A B : Type 0} (r : Reader A) (f : A → Reader B) (at : ℕ) (os : List ℕ) (y : A) (mid : Left) (z : B) (next : Left)
    → Done r at os y mid → Done (f y) mid.at mid.octets z next → Done (bound r f) at os z next
bound_done r f at os y mid z next d g =
    let place : next.at ≡ at + length (d.used ++ g.used) = let n : length (d.used ++ g.used) ≡ length d.used + length g.used = length-append d.used g.used in omega (arith, n, d.place, g.place) in
    record {
      used = d.used ++ g.used;
      split = d.split ∙ ap (λ xs. d.used ++ xs) g.split ∙ sym (append_assoc d.used g.used next.octets);
      place = place;
      alone = λ more. ap (λ xs. bound r f (left_at at xs)) (append_assoc d.used g.used more) ∙ (rw (d.alone (g.used ++ more)) (g.alone more));
      short = λ p q e some. elim (split_at d.used g.used p q e) [
        | inl h ↦ let s = d.short p h.0 h.1 h.2 in (s.0, s.1, rw s.2 refl)
        | inr h ↦
            let s = g.short h.0 q h.2 some in
            let n : length p ≡ length d.used + length h.0 = ap (length {A = ℕ}) h.1 ∙ length-append d.used h.0 in
            let read : bound r f (left_at at (d.used ++ h.0)) ≡ refuse s.0 Short = rw (d.alone h.0) s.2 in
            (s.0, omega (arith, n, d.place, s.1), ap (λ xs. bound r f (left_at at xs)) h.1 ∙ read)
      ];
    }

-- a failure behind what was read
pub behind : {A Y : Type 0} (r : Reader A) (f : A → Left → Result Y Refusal) (at : ℕ) (os : List ℕ) (y : A) (mid : Left) (a : ℕ)
    → Done r at os y mid → Fails (f y) mid.at mid.octets a → Fails (λ left. r left >>= λ y. f y.0 y.1) at os a
behind r f at os y mid a d h =
    let n : length (d.used ++ h.used) ≡ length d.used + length h.used = length-append d.used h.used in
    record {
      used = d.used ++ h.used;
      others = h.others;
      split = d.split ∙ ap (λ xs. d.used ++ xs) h.split ∙ sym (append_assoc d.used h.used h.others);
      from = omega (arith, d.place, h.from);
      some = omega (arith, n, d.place, h.some);
      few = omega (arith, n, d.place, h.few);
      alone = λ more m. ap (λ xs. r (left_at at xs) >>= λ y. f y.0 y.1) (append_assoc d.used h.used more) ∙ (rw (d.alone (h.used ++ more)) (h.alone more m));
    }

pub in_front : {A Y : Type 0} (r : Reader A) (f : A → Left → Result Y Refusal) (at : ℕ) (os : List ℕ) (a : ℕ) → Fails r at os a → Fails (λ left. r left >>= λ y. f y.0 y.1) at os a
in_front r f at os a h = record {
  used = h.used;
  others = h.others;
  split = h.split;
  from = h.from;
  some = h.some;
  few = h.few;
  alone = λ more m. rw (h.alone more m) refl;
}

pub bind_fails : {A Y : Type 0} (r : Reader A) (f : A → Left → Result Y Refusal) → IsLocal r → ((y : A) (at : ℕ) (os : List ℕ) (a : ℕ) → f y (left_at at os) ≡ refuse a Value → Fails (f y) at os a)
    → (at : ℕ) (os : List ℕ) (a : ℕ) → (r (left_at at os) >>= λ y. f y.0 y.1) ≡ refuse a Value → Fails (λ left. r left >>= λ y. f y.0 y.1) at os a
bind_fails r f l g at os a e = elim (bind_err (r (left_at at os)) (λ y. f y.0 y.1) (record { at = a; why = Value }) e) [
  | inl h ↦ in_front r f at os a (l.fails at os a h)
  | inr h ↦ behind r f at os h.0.0 h.0.1 a (l.done at os h.0.0 h.0.1 h.1) (g h.0.0 h.0.1.at h.0.1.octets a h.2)
]

pub bound_local : {A B : Type 0} (r : Reader A) (f : A → Reader B) → IsLocal r → ((y : A) → IsLocal (f y)) → IsLocal (bound r f)
bound_local r f l g = record {
  done = λ at os z next e.
      let h = bind_ok (r (left_at at os)) (λ y. f y.0 y.1) (z, next) e in
      bound_done r f at os h.0.0 h.0.1 z next (l.done at os h.0.0 h.0.1 h.1) ((g h.0.0).done h.0.1.at h.0.1.octets z next h.2);
  fails = bind_fails r f l (λ y. (g y).fails);
  never_long = λ at os a e. elim (bind_err (r (left_at at os)) (λ y. f y.0 y.1) (record { at = a; why = Long }) e) [
    | inl h ↦ l.never_long at os a h
    | inr h ↦ (g h.0.0).never_long h.0.1.at h.0.1.octets a h.2
  ];
}
