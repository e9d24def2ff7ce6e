-- Number patterns, by their rule and as the grammar reads and spells them.
use Rattle.std.proofs.Common.{◌≡◌, ℕ, ◌-◌, ◌+◌, ◌*◌, ◌/◌, ◌%◌, ◌^◌, ◌≤◌, ◌<◌, Bool, true, false, leb, cond, get_or, List, [], ◌∷◌, length, Some, None, refl, sym, subst, arith, ◌&&◌, inl, inr}
use Rattle.std.proofs.lemmas.Bool.{leb-true, and_parts, cases_lt}
use Rattle.std.proofs.lemmas.Bool.Decides.{nat_tests}
use Rattle.mu_model_wire.specs.Patterns.{pattern_length, pattern_number, within, pattern_spelling, IsPattern, ShortestPatternIsThePattern, PatternIsRead}

one_from : (a n : ℕ) → n < 2 ^ 7 → a ≡ n → a ∷ [] ≡ pattern_spelling n
one_from a n h e = grind (arith, nat_tests)

two_from : (a b n : ℕ) → 2 ^ 7 ≤ n → n < 2 ^ 11 → a ≡ 0xC0 + n / 64 → b ≡ 0x80 + n % 64 → a ∷ b ∷ [] ≡ pattern_spelling n
two_from a b n low high ea eb = grind (arith, nat_tests)

three_from : (a b c n : ℕ) → 2 ^ 11 ≤ n → a ≡ 0xE0 + n / 4096 → b ≡ 0x80 + n / 64 % 64 → c ≡ 0x80 + n % 64 → a ∷ b ∷ c ∷ [] ≡ pattern_spelling n
three_from a b c n low ea eb ec = grind (arith, nat_tests)

along : (n : ℕ) (octets : List ℕ) → octets ≡ pattern_spelling n → IsPattern octets n → IsPattern (pattern_spelling n) n
along n octets e h = let P : List ℕ → Type 0 = λ xs. IsPattern xs n in subst P e h

is_shortest : (n : ℕ) → n < 2 ^ 16 → IsPattern (pattern_spelling n) n
is_shortest n h =
    elim (cases_lt n (2 ^ 7)) [
      | inl one ↦ along n (n ∷ []) (one_from n n one refl) (one, refl)
      | inr more ↦ elim (cases_lt n (2 ^ 11)) [
        | inl two ↦ along n ((0xC0 + n / 64) ∷ (0x80 + n % 64) ∷ []) (two_from (0xC0 + n / 64) (0x80 + n % 64) n more two refl refl) (more, two, refl, refl)
        | inr three ↦ along n ((0xE0 + n / 4096) ∷ (0x80 + n / 64 % 64) ∷ (0x80 + n % 64) ∷ [])
            (three_from (0xE0 + n / 4096) (0x80 + n / 64 % 64) (0x80 + n % 64) n three refl refl refl) (three, h, refl, refl, refl)
      ]
    ]

to_shortest : (octets : List ℕ) (n : ℕ) → IsPattern octets n → (n < 2 ^ 16) × (octets ≡ pattern_spelling n)
to_shortest [] n h = absurd h
to_shortest (a ∷ []) n h = (omega arith, one_from a n h.0 h.1)
to_shortest (a ∷ b ∷ []) n h = (omega arith, two_from a b n h.0 h.1 h.2 h.3)
to_shortest (a ∷ b ∷ c ∷ []) n h = (h.1, three_from a b c n h.0 h.2 h.3 h.4)
to_shortest (a ∷ b ∷ c ∷ d ∷ xs) n h = absurd h

from_shortest : (octets : List ℕ) (n : ℕ) → (n < 2 ^ 16) × (octets ≡ pattern_spelling n) → IsPattern octets n
from_shortest octets n h = let P : List ℕ → Type 0 = λ xs. IsPattern xs n in subst P (sym h.1) (is_shortest n h.0)

pub shortest : ShortestPatternIsThePattern
shortest octets n = (to_shortest octets n, from_shortest octets n)

one_read : (a n : ℕ) → IsPattern (a ∷ []) n → (1 ≡ pattern_length a) × (pattern_number (a ∷ []) ≡ Some n)
one_read a n h = grind (arith, nat_tests)

two_read : (a b n : ℕ) → IsPattern (a ∷ b ∷ []) n → (2 ≡ pattern_length a) × (pattern_number (a ∷ b ∷ []) ≡ Some n)
two_read a b n h = grind (arith, nat_tests)

three_read : (a b c n : ℕ) → IsPattern (a ∷ b ∷ c ∷ []) n → (3 ≡ pattern_length a) × (pattern_number (a ∷ b ∷ c ∷ []) ≡ Some n)
three_read a b c n h = grind (arith, nat_tests)

one_is : (a n : ℕ) → 1 ≡ pattern_length a → pattern_number (a ∷ []) ≡ Some n → IsPattern (a ∷ []) n
one_is a n len e = grind (arith, len, e)

two_is : (a b n : ℕ) → 2 ≡ pattern_length a → pattern_number (a ∷ b ∷ []) ≡ Some n → IsPattern (a ∷ b ∷ []) n
two_is a b n len e = grind (arith, len, e)

three_first : (a : ℕ) → 3 ≡ pattern_length a → (0xE0 ≤ a) × (a ≤ 0xEF)
three_first a len = grind (arith, len)

taken : (t : Bool) (m n : ℕ) → cond t (Some m) None ≡ Some n → (t ≡ true) × (m ≡ n)
taken true m n e = (refl, cc)
taken false m n e = absurd cc

three_is : (a b c n : ℕ) → 3 ≡ pattern_length a → pattern_number (a ∷ b ∷ c ∷ []) ≡ Some n → IsPattern (a ∷ b ∷ c ∷ []) n
three_is a b c n len e =
    let v = (a - 0xE0) * 4096 + (b - 0x80) * 64 + (c - 0x80) in
    let f = three_first a len in
    let t = taken ((within 0x80 0xBF b && within 0x80 0xBF c) && leb 0x800 v) v n e in
    let least = and_parts (within 0x80 0xBF b && within 0x80 0xBF c) (leb 0x800 v) t.0 in
    let each = and_parts (within 0x80 0xBF b) (within 0x80 0xBF c) least.0 in
    let second = and_parts (leb 0x80 b) (leb b 0xBF) each.0 in
    let third = and_parts (leb 0x80 c) (leb c 0xBF) each.1 in
    let b0 = leb-true 0x80 b second.0 in
    let b1 = leb-true b 0xBF second.1 in
    let c0 = leb-true 0x80 c third.0 in
    let c1 = leb-true c 0xBF third.1 in
    let low = leb-true 0x800 v least.1 in
    (omega arith, omega arith, omega arith, omega arith, omega arith)

none_read : (xs : List ℕ) (a b c d n : ℕ) → length (a ∷ b ∷ c ∷ d ∷ xs) ≡ pattern_length a → ⊥
none_read xs a b c d n e = grind (arith, nat_tests)

to_read : (octets : List ℕ) (n : ℕ) → IsPattern octets n → (length octets ≡ pattern_length (get_or octets 0 0)) × (pattern_number octets ≡ Some n)
to_read [] n h = absurd h
to_read (a ∷ []) n h = one_read a n h
to_read (a ∷ b ∷ []) n h = two_read a b n h
to_read (a ∷ b ∷ c ∷ []) n h = three_read a b c n h
to_read (a ∷ b ∷ c ∷ d ∷ xs) n h = absurd h

from_read : (octets : List ℕ) (n : ℕ) → (length octets ≡ pattern_length (get_or octets 0 0)) × (pattern_number octets ≡ Some n) → IsPattern octets n
from_read [] n h = absurd cc
from_read (a ∷ []) n h = one_is a n h.0 h.1
from_read (a ∷ b ∷ []) n h = two_is a b n h.0 h.1
from_read (a ∷ b ∷ c ∷ []) n h = three_is a b c n h.0 h.1
from_read (a ∷ b ∷ c ∷ d ∷ xs) n h = absurd (none_read xs a b c d n h.0)

pub read : PatternIsRead
read octets n = (to_read octets n, from_read octets n)
