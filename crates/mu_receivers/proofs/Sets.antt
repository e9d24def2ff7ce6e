-- Sets that are copied, and whether one has a number.
use Rattle.std.proofs.Common.{◌≡◌, ◌∙◌, sym, ap, refl, ℕ, zero, suc, List, [], ◌∷◌, Bool, true, false, Option, Some, None, arith}
use Rattle.std.specs.Prelude.{◌||◌, is_some}
use Rattle.std.proofs.lemmas.Bool.{false≢true}
use Rattle.mu_model_wire.specs.Reports.{has, IsFirstFrom, complement}
use Rattle.mu_model_client.specs.Sets.{has_some}

pub twice : (set : List Bool) → complement (complement set) ≡ set
twice [] = refl
twice (true ∷ set) = ap (λ s. true ∷ s) (twice set)
twice (false ∷ set) = ap (λ s. false ∷ s) (twice set)

some_has : (set : List Bool) (k : ℕ) → has set k ≡ true → has_some set ≡ true
some_has [] k e = absurd (false≢true e)
some_has (true ∷ set) k e = refl
some_has (false ∷ set) zero e = absurd (false≢true e)
some_has (false ∷ set) (suc k) e = some_has set k e

none_has : (set : List Bool) → ((k : ℕ) → has set k ≡ false) → has_some set ≡ false
none_has [] none = refl
none_has (x ∷ set) none = ap (λ y. y || has_some set) (none 0) ∙ none_has set (λ k. none (suc k))

pub has_is : (set : List Bool) (found : Option ℕ) → IsFirstFrom set 0 found → is_some found ≡ has_some set
has_is set None first = sym (none_has set (λ k. first k (omega arith)))
has_is set (Some k) first = sym (some_has set k first.1)
