-- Members and entries of the log, after a change.
use Rattle.std.proofs.Common.{◌≡◌, ℕ, List, [], ◌∷◌, ◌++◌, Some, None, Bool, true, false, cond, nat_eq, refl, sym, ap, ◌∙◌, ◌⊎◌, inl, inr}
use Rattle.std.proofs.lemmas.Bool.{eq-eqb, eqb-true, eqb-false}
use Rattle.std.specs.Map.{lookup, set_value}
use Rattle.mu_model_node.specs.Log.{LogEntry}
use Rattle.mu_model_world.specs.World.{Member, Logged, log_at, logged_at}

-- of two numbers
pub data AreSame (a b : ℕ) : Bool → Type 0 where
  Yes : a ≡ b → AreSame a b true
  No : (a ≡ b → ⊥) → AreSame a b false

pub are_same : (a b : ℕ) → AreSame a b (nat_eq a b)
are_same a b =
    elim (nat_eq a b) as (λ t. nat_eq a b ≡ t → AreSame a b t) [
      | true ↦ λ e. Yes (eqb-true a b e)
      | false ↦ λ e. No (eqb-false a b e)
    ] refl

-- a member more
pub added : (entries : List (ℕ × Member)) (a b : ℕ) (m found : Member) → lookup (nat_eq b) (entries ++ (a, m) ∷ []) ≡ Some found
    → (lookup (nat_eq b) entries ≡ Some found) ⊎ ((b ≡ a) × (found ≡ m))
added [] a b m found is =
    elim (are_same b a) as (λ t s. cond t (Some m) None ≡ Some found → (None ≡ Some found) ⊎ ((b ≡ a) × (found ≡ m))) [
      | Yes same ↦ λ e. inr (same, cc)
      | No other ↦ λ e. inl e
    ] is
added ((key, value) ∷ entries) a b m found is =
    elim (nat_eq b key) as (λ t. cond t (Some value) (lookup (nat_eq b) (entries ++ (a, m) ∷ [])) ≡ Some found → (cond t (Some value) (lookup (nat_eq b) entries) ≡ Some found) ⊎ ((b ≡ a) × (found ≡ m))) [
      | true ↦ λ e. inl e
      | false ↦ λ e. added entries a b m found e
    ] is

pub added_none : (entries : List (ℕ × Member)) (a b : ℕ) (m : Member) → lookup (nat_eq b) (entries ++ (a, m) ∷ []) ≡ None → lookup (nat_eq b) entries ≡ None
added_none [] a b m is = refl
added_none ((key, value) ∷ entries) a b m is =
    elim (nat_eq b key) as (λ t. cond t (Some value) (lookup (nat_eq b) (entries ++ (a, m) ∷ [])) ≡ None → cond t (Some value) (lookup (nat_eq b) entries) ≡ None) [
      | true ↦ λ e. e
      | false ↦ λ e. added_none entries a b m e
    ] is

-- a member that is changed
pub changed : (entries : List (ℕ × Member)) (a b : ℕ) (m found : Member) → lookup (nat_eq b) (set_value (nat_eq a) entries m) ≡ Some found
    → ((b ≡ a) × (found ≡ m)) ⊎ ((b ≡ a → ⊥) × (lookup (nat_eq b) entries ≡ Some found))
changed [] a b m found is = absurd cc
changed ((key, value) ∷ entries) a b m found is =
    elim (are_same a key) as (λ t s. lookup (nat_eq b) (cond t ((key, m) ∷ entries) ((key, value) ∷ set_value (nat_eq a) entries m)) ≡ Some found
    → ((b ≡ a) × (found ≡ m)) ⊎ ((b ≡ a → ⊥) × (cond (nat_eq b key) (Some value) (lookup (nat_eq b) entries) ≡ Some found))) [
      | Yes here ↦ λ e. elim (are_same b key) as (λ t s. cond t (Some m) (lookup (nat_eq b) entries) ≡ Some found
          → ((b ≡ a) × (found ≡ m)) ⊎ ((b ≡ a → ⊥) × (cond t (Some value) (lookup (nat_eq b) entries) ≡ Some found))) [
            | Yes same ↦ λ f. inl (same ∙ sym here, cc)
            | No other ↦ λ f. inr ((λ ba. other (ba ∙ here)), f)
          ] e
      | No there ↦ λ e. elim (are_same b key) as (λ t s. cond t (Some value) (lookup (nat_eq b) (set_value (nat_eq a) entries m)) ≡ Some found
          → ((b ≡ a) × (found ≡ m)) ⊎ ((b ≡ a → ⊥) × (cond t (Some value) (lookup (nat_eq b) entries) ≡ Some found))) [
            | Yes same ↦ λ f. inr ((λ ba. there (sym ba ∙ same)), f)
            | No other ↦ λ f. changed entries a b m found f
          ] e
    ] is

pub changed_none : (entries : List (ℕ × Member)) (a b : ℕ) (m : Member) → lookup (nat_eq b) (set_value (nat_eq a) entries m) ≡ None → lookup (nat_eq b) entries ≡ None
changed_none [] a b m is = refl
changed_none ((key, value) ∷ entries) a b m is =
    elim (nat_eq a key) as (λ s. lookup (nat_eq b) (cond s ((key, m) ∷ entries) ((key, value) ∷ set_value (nat_eq a) entries m)) ≡ None → cond (nat_eq b key) (Some value) (lookup (nat_eq b) entries) ≡ None) [
      | true ↦ λ e. elim (nat_eq b key) as (λ t. cond t (Some m) (lookup (nat_eq b) entries) ≡ None → cond t (Some value) (lookup (nat_eq b) entries) ≡ None) [
        | true ↦ λ f. absurd cc
        | false ↦ λ f. f
      ] e
      | false ↦ λ e. elim (nat_eq b key) as (λ t. cond t (Some value) (lookup (nat_eq b) (set_value (nat_eq a) entries m)) ≡ None → cond t (Some value) (lookup (nat_eq b) entries) ≡ None) [
        | true ↦ λ f. f
        | false ↦ λ f. changed_none entries a b m f
      ] e
    ] is

-- entries of a node go to that node
pub log_same : (log : List Logged) (a : ℕ) (entries : List LogEntry) → log_at a (log ++ logged_at a entries) ≡ log_at a log ++ entries
log_same [] a [] = refl
log_same [] a (entry ∷ entries) = rw (eq-eqb a a refl) (ap (λ es. entry ∷ es) (log_same [] a entries))
log_same (first ∷ log) a entries =
    elim (nat_eq first.node a) as (λ t. cond t (first.what ∷ log_at a (log ++ logged_at a entries)) (log_at a (log ++ logged_at a entries)) ≡ cond t (first.what ∷ log_at a log) (log_at a log) ++ entries) [
      | true ↦ ap (λ es. first.what ∷ es) (log_same log a entries)
      | false ↦ log_same log a entries
    ]

pub log_other : (log : List Logged) (a b : ℕ) (entries : List LogEntry) → (b ≡ a → ⊥) → log_at b (log ++ logged_at a entries) ≡ log_at b log
log_other [] a b [] other = refl
log_other [] a b (entry ∷ entries) other =
    elim (are_same a b) as (λ t s. cond t (entry ∷ log_at b (logged_at a entries)) (log_at b (logged_at a entries)) ≡ []) [
      | Yes same ↦ absurd (other (sym same))
      | No differ ↦ log_other [] a b entries other
    ]
log_other (first ∷ log) a b entries other =
    elim (nat_eq first.node b) as (λ t. cond t (first.what ∷ log_at b (log ++ logged_at a entries)) (log_at b (log ++ logged_at a entries)) ≡ cond t (first.what ∷ log_at b log) (log_at b log)) [
      | true ↦ ap (λ es. first.what ∷ es) (log_other log a b entries other)
      | false ↦ log_other log a b entries other
    ]
