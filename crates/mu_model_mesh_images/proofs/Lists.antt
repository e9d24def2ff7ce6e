-- Elements of lists, and what is kept by address.
use Rattle.std.proofs.Common.{◌≡◌, ◌<◌, ℕ, zero, suc, Bool, true, false, List, [], ◌∷◌, ◌++◌, sym, subst, cond, arith, Some, Contains, ◌⊎◌, inl, inr, slice_get}
use Rattle.std.specs.Prelude.{⊤}
use Rattle.std.specs.List.{AllByRecursion}
use Rattle.std.specs.Map.{lookup, set_value}
use Rattle.std.proofs.lemmas.Option.{slice_get_within, get_or_from_slice_get}

-- what holds of all holds of one
pub of_all : {X : Type 0} (P : X → Type 0) (xs : List X) (x : X) → AllByRecursion P xs → Contains xs x → P x
of_all P [] x all (k, few, at) = let never : ⊥ = omega (arith, few) in absurd never
of_all P (y ∷ xs) x all (zero, few, at) = subst P at all.0
of_all P (y ∷ xs) x all (suc k, few, at) = of_all P xs x all.1 (k, omega (arith, few), at)

pub contains_at : {X : Type 0} (xs : List X) (k : ℕ) (x : X) → slice_get xs k ≡ Some x → Contains xs x
contains_at xs k x e = (k, slice_get_within xs k x e, get_or_from_slice_get xs k x x e)

pub none_of : {X : Type 0} (x : X) → Contains [] x → ⊥
none_of x h = let few : h.0 < 0 = h.1 in omega (arith, few)

pub only_of : {X : Type 0} (x y : X) → Contains (x ∷ []) y → y ≡ x
only_of x y (zero, few, at) = sym at
only_of x y (suc k, few, at) = absurd (omega (arith, few))

pub one_of_two : {X : Type 0} (x y z : X) → Contains (x ∷ y ∷ []) z → (z ≡ x) ⊎ (z ≡ y)
one_of_two x y z (zero, few, at) = inl (sym at)
one_of_two x y z (suc k, few, at) = inr (only_of y z (k, omega (arith, few), at))

-- ---- by address

abbrev pub AllOf : {X : Type 0} → (X → Type 0) → List (ℕ × X) → Type 0
AllOf P [] = ⊤
AllOf P (entry ∷ entries) = P entry.1 × AllOf P entries

pub found : {X : Type 0} (P : X → Type 0) (test : ℕ → Bool) (entries : List (ℕ × X)) (x : X) → AllOf P entries → lookup test entries ≡ Some x → P x
found P test [] x h is = absurd cc
found P test ((key, value) ∷ entries) x h is =
    elim (test key) as (λ b. cond b (Some value) (lookup test entries) ≡ Some x → P x) [
      | true ↦ λ e. let same : value ≡ x = cc in subst P same h.0
      | false ↦ λ e. found P test entries x h.1 e
    ] is

pub set_all : {X : Type 0} (P : X → Type 0) (test : ℕ → Bool) (entries : List (ℕ × X)) (x : X) → AllOf P entries → P x → AllOf P (set_value test entries x)
set_all P test [] x h k = tt
set_all P test ((key, value) ∷ entries) x h k =
    elim (test key) as (λ b. AllOf P (cond b ((key, x) ∷ entries) ((key, value) ∷ set_value test entries x))) [
      | true ↦ (k, h.1)
      | false ↦ (h.0, set_all P test entries x h.1 k)
    ]

pub more_all : {X : Type 0} (P : X → Type 0) (entries : List (ℕ × X)) (address : ℕ) (x : X) → AllOf P entries → P x → AllOf P (entries ++ (address, x) ∷ [])
more_all P [] address x h k = (k, tt)
more_all P (entry ∷ entries) address x h k = (h.0, more_all P entries address x h.1 k)
