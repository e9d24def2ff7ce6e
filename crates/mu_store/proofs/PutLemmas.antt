-- Octets that are put page by page.
use Rattle.std.proofs.Common.{◌≡◌, ℕ, ◌+◌, ◌-◌, List, length, min, take, drop, sym, ◌∙◌, ap, subst, arith}
use Rattle.mu_model_flash.specs.Bits.{blank, part_of}

pub put_none : (c : List ℕ) (at : ℕ) (octets : List ℕ) → part_of c at (min (length octets) 0) ≡ take (min (length octets) 0) octets
unfolding part_of
put_none c at octets = let z : min (length octets) 0 ≡ 0 = omega arith in ap (λ (n : ℕ). take n (drop at c)) z ∙ ap (λ (n : ℕ). take n octets) (sym z)

pub rest_all : (c : List ℕ) (at n : ℕ) → part_of c at n ≡ blank n → part_of c (at + 0) (n - 0) ≡ blank (n - 0)
rest_all c at n is =
    let p : at ≡ at + 0 = omega arith in
    let m : n ≡ n - 0 = omega arith in
    subst (λ (k : ℕ). part_of c k (n - 0) ≡ blank (n - 0)) p (subst (λ (k : ℕ). part_of c at k ≡ blank k) m is)
