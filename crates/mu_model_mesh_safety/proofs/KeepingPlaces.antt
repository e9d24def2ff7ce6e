-- Addresses stay apart, and a world from its parts.
use Rattle.std.proofs.Common.{◌≡◌, ℕ, List, [], ◌∷◌, ◌++◌, Option, Some, None, Bool, true, false, nat_eq, ◌||◌, refl, sym, ap, ◌∙◌, subst, ◌⊎◌, inl, inr, ◌≢◌}
use Rattle.std.proofs.lemmas.List.Folds.{list_any-append}
use Rattle.std.specs.List.{AllByRecursion, list_any}
use Rattle.std.specs.Map.{lookup}
use Rattle.mu_model_wire.specs.Packet.{Packet}
use Rattle.mu_model_script.specs.Ranges.{IsUnicast}
use Rattle.mu_model_world.specs.World.{Member, Logged}
use Rattle.mu_model_mesh.specs.Mesh.{UpdaterMember, DistributorMember, Mesh}
use Rattle.mu_model_mesh_safety.specs.Runs.{NoneTwice, AreApart}
use Rattle.mu_model_mesh_safety.proofs.KeepingLists.{all_append, Yes, No, are_same, none_from, added, added_none, added_other, added_here, SamePlaces, stays_none}

-- ---- an order, and one address more

pub in_order_still : (order : List ℕ) (a b : ℕ) → list_any (nat_eq b) order ≡ true → list_any (nat_eq b) (order ++ a ∷ []) ≡ true
in_order_still order a b is = list_any-append (nat_eq b) order (a ∷ []) ∙ ap (λ t. t || list_any (nat_eq b) (a ∷ [])) is

pub in_order_new : (order : List ℕ) (a : ℕ) → list_any (nat_eq a) (order ++ a ∷ []) ≡ true
in_order_new [] a = elim (are_same a a) as (λ t s. (t || false) ≡ true) [
  | Yes same ↦ refl
  | No other ↦ absurd (other refl)
]
in_order_new (first ∷ order) a = elim (nat_eq a first) as (λ t. (t || list_any (nat_eq a) (order ++ a ∷ [])) ≡ true) [
  | true ↦ refl
  | false ↦ in_order_new order a
]

-- an address that isn't in the order differs from each that is
others_differ : (order : List ℕ) (a : ℕ) → list_any (nat_eq a) order ≡ false → AllByRecursion (λ b. b ≢ a) order
others_differ [] a free = tt
others_differ (first ∷ order) a free =
    elim (are_same a first) as (λ t s. (t || list_any (nat_eq a) order) ≡ false → AllByRecursion (λ b. b ≢ a) (first ∷ order)) [
      | Yes same ↦ λ e. absurd cc
      | No other ↦ λ e. ((λ here. other (sym here)), others_differ order a e)
    ] free

pub once_more : (order : List ℕ) (a : ℕ) → list_any (nat_eq a) order ≡ false → NoneTwice order → NoneTwice (order ++ a ∷ [])
once_more order a free once = all_once order a (others_differ order a free) once
  where
    all_once : (order : List ℕ) (a : ℕ) → AllByRecursion (λ b. b ≢ a) order → NoneTwice order → NoneTwice (order ++ a ∷ [])
    all_once [] a apart once = (tt, tt)
    all_once (first ∷ order) a apart once = (all_append (λ other. first ≢ other) order (a ∷ []) once.0 (apart.0, tt), all_once order a apart.1 once.1)

pub in_order_cases : (order : List ℕ) (a b : ℕ) → list_any (nat_eq b) (order ++ a ∷ []) ≡ true → (list_any (nat_eq b) order ≡ true) ⊎ (b ≡ a)
in_order_cases [] a b is = elim (are_same b a) as (λ t s. (t || false) ≡ true → (false ≡ true) ⊎ (b ≡ a)) [
  | Yes same ↦ λ e. inr same
  | No other ↦ λ e. inl e
] is
in_order_cases (first ∷ order) a b is =
    elim (nat_eq b first) as (λ t. (t || list_any (nat_eq b) (order ++ a ∷ [])) ≡ true → ((t || list_any (nat_eq b) order) ≡ true) ⊎ (b ≡ a)) [
      | true ↦ λ e. inl refl
      | false ↦ λ e. in_order_cases order a b e
    ] is

-- ---- three lists of members, by address

-- as `AreApart` says it, in whatever order of the three
pub record ApartIn {X Y Z : Type 0} (order : List ℕ) (xs : List (ℕ × X)) (ys : List (ℕ × Y)) (zs : List (ℕ × Z)) : Type 0 where
  pub first : (a : ℕ) (x : X) → lookup (nat_eq a) xs ≡ Some x → (list_any (nat_eq a) order ≡ true) × (lookup (nat_eq a) ys ≡ None) × (lookup (nat_eq a) zs ≡ None)
  pub second : (a : ℕ) (y : Y) → lookup (nat_eq a) ys ≡ Some y → (list_any (nat_eq a) order ≡ true) × (lookup (nat_eq a) xs ≡ None) × (lookup (nat_eq a) zs ≡ None)
  pub third : (a : ℕ) (z : Z) → lookup (nat_eq a) zs ≡ Some z → (list_any (nat_eq a) order ≡ true) × (lookup (nat_eq a) xs ≡ None) × (lookup (nat_eq a) ys ≡ None)
  pub unicast : (a : ℕ) → list_any (nat_eq a) order ≡ true → IsUnicast a
  pub some : (a : ℕ) → list_any (nat_eq a) order ≡ true → lookup (nat_eq a) xs ≡ None → lookup (nat_eq a) ys ≡ None → lookup (nat_eq a) zs ≡ None → ⊥
  pub once : NoneTwice order

pub turned : {X Y Z : Type 0} (order : List ℕ) (xs : List (ℕ × X)) (ys : List (ℕ × Y)) (zs : List (ℕ × Z)) → ApartIn order xs ys zs → ApartIn order ys zs xs
turned order xs ys zs p = record {
  first = λ a y is. let t = p.second a y is in (t.0, t.2, t.1);
  second = λ a z is. let t = p.third a z is in (t.0, t.2, t.1);
  third = p.first;
  unicast = p.unicast;
  some = λ a is y z x. p.some a is x y z;
  once = p.once;
}

pub placed : {X Y Z : Type 0} (order : List ℕ) (xs more_xs : List (ℕ × X)) (ys more_ys : List (ℕ × Y)) (zs more_zs : List (ℕ × Z))
    → SamePlaces xs more_xs → SamePlaces ys more_ys → SamePlaces zs more_zs → ApartIn order xs ys zs → ApartIn order more_xs more_ys more_zs
placed order xs more_xs ys more_ys zs more_zs px py pz p = record {
  first = λ a x is. let was = px.some a x is in let t = p.first a was.0 was.1 in (t.0, stays_none ys more_ys a py t.1, stays_none zs more_zs a pz t.2);
  second = λ a y is. let was = py.some a y is in let t = p.second a was.0 was.1 in (t.0, stays_none xs more_xs a px t.1, stays_none zs more_zs a pz t.2);
  third = λ a z is. let was = pz.some a z is in let t = p.third a was.0 was.1 in (t.0, stays_none xs more_xs a px t.1, stays_none ys more_ys a py t.2);
  unicast = p.unicast;
  some = λ a is x y z. p.some a is (px.none a x) (py.none a y) (pz.none a z);
  once = p.once;
}

-- ---- one member more

-- nothing stands at an address of no member
pub free_of : {X : Type 0} (order : List ℕ) (xs : List (ℕ × X)) (a : ℕ) → list_any (nat_eq a) order ≡ false → ((x : X) → lookup (nat_eq a) xs ≡ Some x → list_any (nat_eq a) order ≡ true)
    → lookup (nat_eq a) xs ≡ None
free_of order xs a free there = none_from _ (λ x is. let is_there = there x is in absurd cc)

differ : (order : List ℕ) (a b : ℕ) → list_any (nat_eq a) order ≡ false → list_any (nat_eq b) order ≡ true → b ≡ a → ⊥
differ order a b free there same =
    let here : list_any (nat_eq a) order ≡ true = subst (λ c. list_any (nat_eq c) order ≡ true) same there in
    absurd cc

pub one_more : {X Y Z : Type 0} (order : List ℕ) (xs : List (ℕ × X)) (ys : List (ℕ × Y)) (zs : List (ℕ × Z)) (a : ℕ) (x : X)
    → list_any (nat_eq a) order ≡ false → IsUnicast a → ApartIn order xs ys zs → ApartIn (order ++ a ∷ []) (xs ++ (a, x) ∷ []) ys zs
one_more order xs ys zs a x free unicast p = record {
  first = λ b found is. elim (added xs a b x found is) [
    | inl there ↦ let t = p.first b found there in (in_order_still order a b t.0, t.1, t.2)
    | inr here ↦ subst (λ c. (list_any (nat_eq c) (order ++ a ∷ []) ≡ true) × (lookup (nat_eq c) ys ≡ None) × (lookup (nat_eq c) zs ≡ None)) (sym here.0)
        (in_order_new order a, free_of order ys a free (λ y is. (p.second a y is).0), free_of order zs a free (λ z is. (p.third a z is).0))
  ];
  second = λ b y is. let t = p.second b y is in (in_order_still order a b t.0, added_other xs a b x (differ order a b free t.0) t.1, t.2);
  third = λ b z is. let t = p.third b z is in (in_order_still order a b t.0, added_other xs a b x (differ order a b free t.0) t.1, t.2);
  unicast = λ b is. elim (in_order_cases order a b is) [
    | inl there ↦ p.unicast b there
    | inr here ↦ subst IsUnicast (sym here) unicast
  ];
  some = λ b is no_x no_y no_z. elim (in_order_cases order a b is) [
    | inl there ↦ p.some b there (added_none xs a b x no_x) no_y no_z
    | inr here ↦ added_here xs a x (subst (λ c. lookup (nat_eq c) (xs ++ (a, x) ∷ []) ≡ None) here no_x)
  ];
  once = once_more order a free p.once;
}

-- ---- of worlds

pub apart_in : (m : Mesh) → AreApart m → ApartIn m.order m.nodes.members m.updaters m.distributors
apart_in m p = record { first = p.nodes; second = p.updaters; third = p.distributors; unicast = p.unicast; some = p.some; once = p.once }

pub are_apart : (m : Mesh) → ApartIn m.order m.nodes.members m.updaters m.distributors → AreApart m
are_apart m p = record { nodes = p.first; updaters = p.second; distributors = p.third; unicast = p.unicast; some = p.some; once = p.once }

-- ---- a world from its parts

pub record Parts : Type 0 where
  pub members : List (ℕ × Member)
  pub bag : List Packet
  pub log : List Logged
  pub begun : Bool
  pub updaters : List (ℕ × UpdaterMember)
  pub distributors : List (ℕ × DistributorMember)
  pub order : List ℕ
  pub transfers : List (Option ℕ)

abbrev pub with_parts : Mesh → Parts → Mesh
with_parts m p = record {
  nodes = record { members = p.members; bag = p.bag; log = p.log; events = m.nodes.events; begun = p.begun };
  updaters = p.updaters;
  distributors = p.distributors;
  order = p.order;
  transfers = p.transfers;
  turns = m.turns;
}

pub of_parts : (m : Mesh) (p : Parts) → m.nodes.members ≡ p.members → m.nodes.bag ≡ p.bag → m.nodes.log ≡ p.log → m.nodes.begun ≡ p.begun
    → m.updaters ≡ p.updaters → m.distributors ≡ p.distributors → m.order ≡ p.order → m.transfers ≡ p.transfers
    → m ≡ with_parts m p
of_parts m p a b c d e f g h = λ i. record {
  nodes = record { members = a i; bag = b i; log = c i; events = m.nodes.events; begun = d i };
  updaters = e i;
  distributors = f i;
  order = g i;
  transfers = h i;
  turns = m.turns;
}
