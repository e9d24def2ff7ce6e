-- Metadata by index.
use Rattle.std.proofs.Common.{◌≡◌, ℕ, zero, suc, ◌∷◌, Option, Some, None, refl}
use Rattle.std.specs.Prelude.{slice_get, ◌≢◌}
use Rattle.mu_update_rows.specs.declared.look.ActiveMetas.{ActiveMetas}
use Rattle.mu_update_rows.specs.Looks.{one_or_two, listed}

third : {A : Type 0} (a : A) (b : Option A) (i : ℕ) → slice_get (a ∷ listed b) (suc (suc i)) ≡ None
third a None i = refl
third a (Some b) i = refl

pub second_is : {A : Type 0} (a : A) (b : Option A) → slice_get (a ∷ listed b) 1 ≡ b
second_is a None = refl
second_is a (Some b) = refl

pub third_is_none : (active : ActiveMetas) (i : ℕ) → i ≢ 0 → i ≢ 1 → slice_get (one_or_two active) i ≡ None
third_is_none active zero some more = absurd (some refl)
third_is_none active (suc zero) some more = absurd (more refl)
third_is_none active (suc (suc i)) some more = third active.first active.second i
