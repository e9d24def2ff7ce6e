-- Blocks that are gathered one after the other.
use Rattle.std.proofs.Common.{◌≡◌, ◌⊎◌, inl, inr, ◌∙◌, ℕ, zero, suc, ◌+◌, ◌<◌, ◌≤◌, Bool, true, false, List, length, get_or, set, replicate, refl, sym, ap, subst, arith}
use Rattle.std.specs.Prelude.{◌≢◌}
use Rattle.std.proofs.lemmas.List.{get_or-set_other, set-get_or}
use Rattle.std.proofs.lemmas.Grind.{get_or-set_at}

pub none_at : (n k : ℕ) → get_or (replicate n false) k false ≡ false
none_at zero k = refl
none_at (suc n) zero = refl
none_at (suc n) (suc k) = none_at n k

-- an element that is set to what it was
pub set_same : (xs : List Bool) (i : ℕ) (b : Bool) → get_or xs i false ≡ b → xs ≡ set xs i b
set_same xs i b e = sym (set-get_or xs i false) ∙ ap (set xs i) e

same_or_other : (i k : ℕ) → (i ≡ k) ⊎ (i ≢ k)
same_or_other i k = grind arith

module _ (old new flags : List Bool) (i : ℕ) (there : i < length old) (is : new ≡ set old i (get_or flags i false)) where
  pub below_next : ((k : ℕ) → k < i → get_or old k false ≡ get_or flags k false) → (k : ℕ) → k < i + 1 → get_or new k false ≡ get_or flags k false
  below_next below k lt = ap (λ (xs : List Bool). get_or xs k false) is ∙ elim (same_or_other k i) [
    | inl e ↦ get_or-set_at old i k (get_or flags i false) false e there ∙ ap (λ (n : ℕ). get_or flags n false) (sym e)
    | inr ne ↦ get_or-set_other old i k (get_or flags i false) false ne ∙ below k (omega (arith, lt, ne))
  ]

  pub past_next : ((k : ℕ) → i ≤ k → get_or old k false ≡ false) → (k : ℕ) → i + 1 ≤ k → get_or new k false ≡ false
  past_next past k le = ap (λ (xs : List Bool). get_or xs k false) is ∙ get_or-set_other old i k (get_or flags i false) false (λ e. omega (arith, le, e)) ∙ past k (omega (arith, le))
