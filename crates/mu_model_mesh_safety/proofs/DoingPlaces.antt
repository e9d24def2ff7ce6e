-- Lists and members by address, for the outcomes of lines.
use Rattle.std.proofs.Common.{◌≡◌, ℕ, ◌<◌, ◌-◌, List, [], ◌∷◌, ◌++◌, length, map, replicate, Option, Some, None, true, false, cond, nat_eq, zero, suc, refl, sym, ap, subst, ◌∙◌, ◌⊎◌, inl, inr, arith, Contains, slice_get, length-append}
use Rattle.std.specs.List.{AllByRecursion}
use Rattle.std.specs.Map.{lookup, set_value}
use Rattle.std.proofs.lemmas.Bool.{eqb-true}
use Rattle.std.proofs.lemmas.Option.{slice_get_within, get_or_from_slice_get}

-- ---- lists

-- what stands at a place is contained
pub at_place : {X : Type 0} → (xs : List X) (i : ℕ) (x : X) → slice_get xs i ≡ Some x → Contains xs x
at_place xs i x is = (i, slice_get_within xs i x is, get_or_from_slice_get xs i x x is)

pub of_all : {X : Type 0} (P : X → Type 0) (xs : List X) (x : X) → AllByRecursion P xs → Contains xs x → P x
of_all P [] x all p =
    let none : p.0 < 0 = p.1 in
    absurd (omega (arith, none))
of_all P (v ∷ xs) x all (zero, within, is) = subst P is all.0
of_all P (v ∷ xs) x all (suc k, within, is) = of_all P xs x all.1 (k, omega (arith, within), is)

replicated : {X : Type 0} → (xs : List X) → replicate (length xs) None ≡ map (λ (x : X). let none : Option ℕ = None in none) xs
replicated [] = refl
replicated (x ∷ xs) = ap (λ ys. None ∷ ys) (replicated xs)

-- so many places more as there are elements more
pub pads : {X : Type 0} → (bag sent : List X) → replicate (length (bag ++ sent) - length bag) None ≡ map (λ (x : X). let none : Option ℕ = None in none) sent
pads bag sent =
    let more : length (bag ++ sent) - length bag ≡ length sent = omega (arith, length-append bag sent) in
    ap (λ (n : ℕ). let places : List (Option ℕ) = replicate n None in places) more ∙ replicated sent

pub pads_none : (n : ℕ) → replicate (n - n) None ≡ (let none : List (Option ℕ) = [] in none)
pads_none n =
    let none : n - n ≡ 0 = omega arith in
    ap (λ (n : ℕ). let places : List (Option ℕ) = replicate n None in places) none

-- ---- members

-- a member that is changed
pub changed : {V : Type 0} → (entries : List (ℕ × V)) (a b : ℕ) (new found : V) → lookup (nat_eq b) (set_value (nat_eq a) entries new) ≡ Some found
    → ((b ≡ a) × (found ≡ new)) ⊎ (lookup (nat_eq b) entries ≡ Some found)
changed [] a b new found is = absurd cc
changed ((key, value) ∷ entries) a b new found is =
    elim (nat_eq a key) as (λ t. nat_eq a key ≡ t → lookup (nat_eq b) (cond t ((key, new) ∷ entries) ((key, value) ∷ set_value (nat_eq a) entries new)) ≡ Some found
    → ((b ≡ a) × (found ≡ new)) ⊎ (cond (nat_eq b key) (Some value) (lookup (nat_eq b) entries) ≡ Some found)) [
      | true ↦ λ here e. elim (nat_eq b key) as (λ t. nat_eq b key ≡ t → cond t (Some new) (lookup (nat_eq b) entries) ≡ Some found
          → ((b ≡ a) × (found ≡ new)) ⊎ (cond t (Some value) (lookup (nat_eq b) entries) ≡ Some found)) [
            | true ↦ λ same f. inl (eqb-true b key same ∙ sym (eqb-true a key here), cc)
            | false ↦ λ other f. inr f
          ] refl e
      | false ↦ λ there e. elim (nat_eq b key) as (λ t. cond t (Some value) (lookup (nat_eq b) (set_value (nat_eq a) entries new)) ≡ Some found
          → ((b ≡ a) × (found ≡ new)) ⊎ (cond t (Some value) (lookup (nat_eq b) entries) ≡ Some found)) [
            | true ↦ λ f. inr f
            | false ↦ λ f. changed entries a b new found f
          ] e
    ] refl is

pub changed_none : {V : Type 0} → (entries : List (ℕ × V)) (a b : ℕ) (new : V) → lookup (nat_eq b) (set_value (nat_eq a) entries new) ≡ None → lookup (nat_eq b) entries ≡ None
changed_none [] a b new is = refl
changed_none ((key, value) ∷ entries) a b new is =
    elim (nat_eq a key) as (λ s. lookup (nat_eq b) (cond s ((key, new) ∷ entries) ((key, value) ∷ set_value (nat_eq a) entries new)) ≡ None → cond (nat_eq b key) (Some value) (lookup (nat_eq b) entries) ≡ None) [
      | true ↦ λ e. elim (nat_eq b key) as (λ t. cond t (Some new) (lookup (nat_eq b) entries) ≡ None → cond t (Some value) (lookup (nat_eq b) entries) ≡ None) [
        | true ↦ λ f. absurd cc
        | false ↦ λ f. f
      ] e
      | false ↦ λ e. elim (nat_eq b key) as (λ t. cond t (Some value) (lookup (nat_eq b) (set_value (nat_eq a) entries new)) ≡ None → cond t (Some value) (lookup (nat_eq b) entries) ≡ None) [
        | true ↦ λ f. absurd cc
        | false ↦ λ f. changed_none entries a b new f
      ] e
    ] is
