-- Lists that grow: what holds of all, members by address, and the log.
use Rattle.std.proofs.Common.{◌≡◌, ℕ, List, [], ◌∷◌, ◌++◌, Option, Some, None, Bool, true, false, cond, nat_eq, refl, sym, ap, ◌∙◌, subst, ◌⊎◌, inl, inr, Contains}
use Rattle.std.proofs.lemmas.Bool.{eq-eqb, eqb-true, eqb-false}
use Rattle.std.proofs.lemmas.List.Elements.{All-contains, All-from_recursion, recursion_from_All, All-contains_itself}
use Rattle.std.specs.List.{AllByRecursion}
use Rattle.std.specs.Map.{lookup, set_value}
use Rattle.mu_model_node.specs.Log.{LogEntry}
use Rattle.mu_model_world.specs.World.{Logged, log_at, logged_at}

-- ---- what holds of all

pub all_append : {A : Type 0} (P : A → Type 0) (xs ys : List A) → AllByRecursion P xs → AllByRecursion P ys → AllByRecursion P (xs ++ ys)
all_append P [] ys a b = b
all_append P (x ∷ xs) ys a b = (a.0, all_append P xs ys a.1 b)

pub all_right : {A : Type 0} (P : A → Type 0) (xs ys : List A) → AllByRecursion P (xs ++ ys) → AllByRecursion P ys
all_right P [] ys a = a
all_right P (x ∷ xs) ys a = all_right P xs ys a.1

pub weaker : {A : Type 0} (P Q : A → Type 0) (xs : List A) → ((x : A) → P x → Q x) → AllByRecursion P xs → AllByRecursion Q xs
weaker P Q [] f a = tt
weaker P Q (x ∷ xs) f a = (f x a.0, weaker P Q xs f a.1)

pub both : {A : Type 0} (P Q R : A → Type 0) (xs : List A) → ((x : A) → P x → Q x → R x) → AllByRecursion P xs → AllByRecursion Q xs → AllByRecursion R xs
both P Q R [] f a b = tt
both P Q R (x ∷ xs) f a b = (f x a.0 b.0, both P Q R xs f a.1 b.1)

pub of_all : {A : Type 0} (P : A → Type 0) (xs : List A) (x : A) → AllByRecursion P xs → Contains xs x → P x
of_all P xs x a in_it = All-contains P xs x (All-from_recursion P xs a) in_it

pub all_in : {A : Type 0} (xs : List A) → AllByRecursion (λ (x : A). Contains xs x) xs
all_in {A} xs = recursion_from_All (λ (x : A). Contains xs x) xs (All-contains_itself xs)

-- ---- of two numbers

pub data AreSame (a b : ℕ) : Bool → Type 0 where
  Yes : a ≡ b → AreSame a b true
  No : (a ≡ b → ⊥) → AreSame a b false

pub are_same : (a b : ℕ) → AreSame a b (nat_eq a b)
are_same a b =
    elim (nat_eq a b) as (λ t. nat_eq a b ≡ t → AreSame a b t) [
      | true ↦ λ e. Yes (eqb-true a b e)
      | false ↦ λ e. No (eqb-false a b e)
    ] refl

-- ---- by address

pub none_from : {X : Type 0} (o : Option X) → ((x : X) → o ≡ Some x → ⊥) → o ≡ None
none_from None h = refl
none_from (Some x) h = absurd (h x refl)

-- one more
pub added : {X : Type 0} (entries : List (ℕ × X)) (a b : ℕ) (x found : X) → lookup (nat_eq b) (entries ++ (a, x) ∷ []) ≡ Some found
    → (lookup (nat_eq b) entries ≡ Some found) ⊎ ((b ≡ a) × (found ≡ x))
added [] a b x found is =
    elim (are_same b a) as (λ t s. cond t (Some x) None ≡ Some found → (None ≡ Some found) ⊎ ((b ≡ a) × (found ≡ x))) [
      | Yes same ↦ λ e. inr (same, cc)
      | No other ↦ λ e. inl e
    ] is
added ((key, value) ∷ entries) a b x found is =
    elim (nat_eq b key) as (λ t. cond t (Some value) (lookup (nat_eq b) (entries ++ (a, x) ∷ [])) ≡ Some found → (cond t (Some value) (lookup (nat_eq b) entries) ≡ Some found) ⊎ ((b ≡ a) × (found ≡ x))) [
      | true ↦ λ e. inl e
      | false ↦ λ e. added entries a b x found e
    ] is

pub added_none : {X : Type 0} (entries : List (ℕ × X)) (a b : ℕ) (x : X) → lookup (nat_eq b) (entries ++ (a, x) ∷ []) ≡ None → lookup (nat_eq b) entries ≡ None
added_none [] a b x is = refl
added_none ((key, value) ∷ entries) a b x is =
    elim (nat_eq b key) as (λ t. cond t (Some value) (lookup (nat_eq b) (entries ++ (a, x) ∷ [])) ≡ None → cond t (Some value) (lookup (nat_eq b) entries) ≡ None) [
      | true ↦ λ e. e
      | false ↦ λ e. added_none entries a b x e
    ] is

pub added_other : {X : Type 0} (entries : List (ℕ × X)) (a b : ℕ) (x : X) → (b ≡ a → ⊥) → lookup (nat_eq b) entries ≡ None → lookup (nat_eq b) (entries ++ (a, x) ∷ []) ≡ None
added_other entries a b x other none =
    none_from _ (λ found is. elim (added entries a b x found is) [
      | inl there ↦ absurd cc
      | inr here ↦ other here.0
    ])

pub added_here : {X : Type 0} (entries : List (ℕ × X)) (a : ℕ) (x : X) → lookup (nat_eq a) (entries ++ (a, x) ∷ []) ≡ None → ⊥
added_here [] a x none = elim (are_same a a) as (λ t s. cond t (Some x) None ≡ None → ⊥) [
  | Yes same ↦ λ e. absurd cc
  | No other ↦ λ e. other refl
] none
added_here ((key, value) ∷ entries) a x none =
    elim (nat_eq a key) as (λ t. cond t (Some value) (lookup (nat_eq a) (entries ++ (a, x) ∷ [])) ≡ None → ⊥) [
      | true ↦ λ e. absurd cc
      | false ↦ λ e. added_here entries a x e
    ] none

-- one that is changed
pub changed : {X : Type 0} (entries : List (ℕ × X)) (a b : ℕ) (x found : X) → lookup (nat_eq b) (set_value (nat_eq a) entries x) ≡ Some found
    → ((b ≡ a) × (found ≡ x)) ⊎ ((b ≡ a → ⊥) × (lookup (nat_eq b) entries ≡ Some found))
changed [] a b x found is = absurd cc
changed ((key, value) ∷ entries) a b x found is =
    elim (are_same a key) as (λ t s. lookup (nat_eq b) (cond t ((key, x) ∷ entries) ((key, value) ∷ set_value (nat_eq a) entries x)) ≡ Some found
    → ((b ≡ a) × (found ≡ x)) ⊎ ((b ≡ a → ⊥) × (cond (nat_eq b key) (Some value) (lookup (nat_eq b) entries) ≡ Some found))) [
      | Yes here ↦ λ e. elim (are_same b key) as (λ t s. cond t (Some x) (lookup (nat_eq b) entries) ≡ Some found
          → ((b ≡ a) × (found ≡ x)) ⊎ ((b ≡ a → ⊥) × (cond t (Some value) (lookup (nat_eq b) entries) ≡ Some found))) [
            | Yes same ↦ λ f. inl (same ∙ sym here, cc)
            | No other ↦ λ f. inr ((λ ba. other (ba ∙ here)), f)
          ] e
      | No there ↦ λ e. elim (are_same b key) as (λ t s. cond t (Some value) (lookup (nat_eq b) (set_value (nat_eq a) entries x)) ≡ Some found
          → ((b ≡ a) × (found ≡ x)) ⊎ ((b ≡ a → ⊥) × (cond t (Some value) (lookup (nat_eq b) entries) ≡ Some found))) [
            | Yes same ↦ λ f. inr ((λ ba. there (sym ba ∙ same)), f)
            | No other ↦ λ f. changed entries a b x found f
          ] e
    ] is

pub changed_none : {X : Type 0} (entries : List (ℕ × X)) (a b : ℕ) (x : X) → lookup (nat_eq b) (set_value (nat_eq a) entries x) ≡ None → lookup (nat_eq b) entries ≡ None
changed_none [] a b x is = refl
changed_none ((key, value) ∷ entries) a b x is =
    elim (nat_eq a key) as (λ s. lookup (nat_eq b) (cond s ((key, x) ∷ entries) ((key, value) ∷ set_value (nat_eq a) entries x)) ≡ None → cond (nat_eq b key) (Some value) (lookup (nat_eq b) entries) ≡ None) [
      | true ↦ λ e. elim (nat_eq b key) as (λ t. cond t (Some x) (lookup (nat_eq b) entries) ≡ None → cond t (Some value) (lookup (nat_eq b) entries) ≡ None) [
        | true ↦ λ f. absurd cc
        | false ↦ λ f. f
      ] e
      | false ↦ λ e. elim (nat_eq b key) as (λ t. cond t (Some value) (lookup (nat_eq b) (set_value (nat_eq a) entries x)) ≡ None → cond t (Some value) (lookup (nat_eq b) entries) ≡ None) [
        | true ↦ λ f. f
        | false ↦ λ f. changed_none entries a b x f
      ] e
    ] is

-- ---- the same places

pub record SamePlaces {X : Type 0} (old new : List (ℕ × X)) : Type 0 where
  pub some : (a : ℕ) (x : X) → lookup (nat_eq a) new ≡ Some x → (was : X) × (lookup (nat_eq a) old ≡ Some was)
  pub none : (a : ℕ) → lookup (nat_eq a) new ≡ None → lookup (nat_eq a) old ≡ None

pub same_places : {X : Type 0} (entries : List (ℕ × X)) → SamePlaces entries entries
same_places entries = record { some = λ a x is. (x, is); none = λ a is. is }

pub changed_places : {X : Type 0} (entries : List (ℕ × X)) (a : ℕ) (old x : X) → lookup (nat_eq a) entries ≡ Some old → SamePlaces entries (set_value (nat_eq a) entries x)
changed_places entries a old x at = record {
  some = λ b found is. elim (changed entries a b x found is) [
    | inl here ↦ (old, subst (λ c. lookup (nat_eq c) entries ≡ Some old) (sym here.0) at)
    | inr there ↦ (found, there.1)
  ];
  none = λ b is. changed_none entries a b x is;
}

-- a member that was there is the new one
pub set_there : {X : Type 0} (entries : List (ℕ × X)) (a : ℕ) (old x : X) → lookup (nat_eq a) entries ≡ Some old → lookup (nat_eq a) (set_value (nat_eq a) entries x) ≡ Some x
set_there [] a old x at = absurd cc
set_there ((key, value) ∷ entries) a old x at =
    elim (nat_eq a key) as (λ t. nat_eq a key ≡ t → cond t (Some value) (lookup (nat_eq a) entries) ≡ Some old → lookup (nat_eq a) (cond t ((key, x) ∷ entries) ((key, value) ∷ set_value (nat_eq a) entries x)) ≡ Some x) [
      | true ↦ λ is e. rw is refl
      | false ↦ λ is e. rw is (set_there entries a old x e)
    ] refl at

pub stays_none : {X : Type 0} (old new : List (ℕ × X)) (a : ℕ) → SamePlaces old new → lookup (nat_eq a) old ≡ None → lookup (nat_eq a) new ≡ None
stays_none old new a p none =
    none_from _ (λ x is.
    let was = p.some a x is in
    let found = was.1 in
    absurd cc)

-- ---- the log

-- entries of a node go to that node
pub log_same : (log : List Logged) (a : ℕ) (entries : List LogEntry) → log_at a (log ++ logged_at a entries) ≡ log_at a log ++ entries
log_same [] a [] = refl
log_same [] a (entry ∷ entries) = rw (eq-eqb a a refl) (ap (λ es. entry ∷ es) (log_same [] a entries))
log_same (first ∷ log) a entries =
    elim (nat_eq first.node a) as (λ t. cond t (first.what ∷ log_at a (log ++ logged_at a entries)) (log_at a (log ++ logged_at a entries)) ≡ cond t (first.what ∷ log_at a log) (log_at a log) ++ entries) [
      | true ↦ ap (λ es. first.what ∷ es) (log_same log a entries)
      | false ↦ log_same log a entries
    ]

pub log_other : (log : List Logged) (a b : ℕ) (entries : List LogEntry) → (b ≡ a → ⊥) → log_at b (log ++ logged_at a entries) ≡ log_at b log
log_other [] a b [] other = refl
log_other [] a b (entry ∷ entries) other =
    elim (are_same a b) as (λ t s. cond t (entry ∷ log_at b (logged_at a entries)) (log_at b (logged_at a entries)) ≡ []) [
      | Yes same ↦ absurd (other (sym same))
      | No differ ↦ log_other [] a b entries other
    ]
log_other (first ∷ log) a b entries other =
    elim (nat_eq first.node b) as (λ t. cond t (first.what ∷ log_at b (log ++ logged_at a entries)) (log_at b (log ++ logged_at a entries)) ≡ cond t (first.what ∷ log_at b log) (log_at b log)) [
      | true ↦ ap (λ es. first.what ∷ es) (log_other log a b entries other)
      | false ↦ log_other log a b entries other
    ]
