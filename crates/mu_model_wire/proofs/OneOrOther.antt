-- A result is a value or a refusal, and only one.
use Rattle.std.proofs.Common.{◌≡◌, Result, Ok, Err, refl, inl, inr, ◌⊎◌}
use Rattle.mu_model_wire.specs.declared.Refusal.{Refusal}

pub one_or_other : {A : Type 0} (r : Result A Refusal)
    → ((m : A) × (r ≡ Ok m) × ((n : A) → r ≡ Ok n → n ≡ m) × ((e : Refusal) → ¬ (r ≡ Err e)))
    ⊎ ((e : Refusal) × (r ≡ Err e) × ((d : Refusal) → r ≡ Err d → d ≡ e) × ((m : A) → ¬ (r ≡ Ok m)))
one_or_other (Ok m) = inl (m, refl, (λ n e. cc), (λ e same. absurd cc))
one_or_other (Err e) = inr (e, refl, (λ d same. cc), (λ m same. absurd cc))
