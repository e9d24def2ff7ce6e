-- Facts about the octets of a line.
use Rattle.std.proofs.Common.{ℕ, zero, suc, ◌≤◌, List, [], ◌∷◌, length, take, Option, Some, None, refl, arith}
use Rattle.memchr.specs.Find.{Nowhere, Passes, is_byte}
use Rattle.mu_input.specs.Reading.{IsPart, WhereTold}

-- before any call
pub told_self : (o : Option (List ℕ)) (P : List ℕ → List ℕ → Type 0) → ((v : List ℕ) → P v v) → WhereTold o o P
told_self None P p = tt
told_self (Some v) P p = (v, refl, p v)

-- octets among which no LF is found are a part of a line
pub no_feed : (octets : List ℕ) (n : ℕ) → n ≤ length octets → Nowhere (Passes (is_byte 10) octets) 0 n → IsPart (take n octets)
no_feed [] zero le none = tt
no_feed [] (suc n) le none = absurd (omega (arith, le))
no_feed (x ∷ xs) zero le none = tt
no_feed (x ∷ xs) (suc n) le none = (
  λ is. none 0 (omega arith) (omega arith) (rw is refl),
  no_feed xs n (omega (arith, le)) (λ k low high passes. none (suc k) (omega arith) (omega (arith, high)) passes),
)
