-- What the bag offers under a BLOB ID, and what stays so with more packets and more entries.
use Rattle.std.proofs.Common.{arith, ◌≡◌, ◌⊎◌, ℕ, zero, suc, ◌<◌, ◌==◌, Bool, true, false, cond, List, [], ◌∷◌, ◌++◌, refl, sym, ap, subst, inl, inr, Option, Some, Contains}
use Rattle.std.proofs.lemmas.Bool.{eq-eqb, eqb-true}
use Rattle.std.proofs.lemmas.List.Elements.{Contains-append_right}
use Rattle.std.specs.List.{AllByRecursion}
use Rattle.mu_model_image.specs.declared.Meta.{Meta}
use Rattle.mu_model_image.specs.Meta.{meta_from}
use Rattle.mu_model_wire.specs.Packet.{Packet}
use Rattle.mu_model_node.specs.Log.{LogEntry}
use Rattle.mu_model_node.specs.NodeMessages.{Request, OfUpdate, request_at}
use Rattle.mu_model_node.specs.Safe.{InOrder, none, here, later}
use Rattle.mu_model_node.specs.UpdateMessages.{UpdateStart, StartUpdate}
use Rattle.mu_model_mesh_safety.specs.Safe.{is_start_of, metadata_in, offered_in, IsApplied, IsShown, ruled, reached, applied}

-- ---- one of many

pub of_all : {X : Type 0} (P : X → Type 0) (xs : List X) (x : X) → AllByRecursion P xs → Contains xs x → P x
of_all P [] x all p =
    let none : p.0 < 0 = p.1 in
    absurd (omega (arith, none))
of_all P (v ∷ xs) x all (zero, within, is) = subst P is all.0
of_all P (v ∷ xs) x all (suc k, within, is) = of_all P xs x all.1 (k, omega (arith, within), is)

pub all_of : {X : Type 0} (P : X → Type 0) (xs : List X) → ((x : X) → Contains xs x → P x) → AllByRecursion P xs
all_of P [] f = tt
all_of P (x ∷ xs) f = (f x (0, omega arith, refl), all_of P xs (λ y p. f y (Contains-append_right (x ∷ []) xs y p)))

pub first_or : {X : Type 0} (x : X) (xs : List X) (y : X) → Contains (x ∷ xs) y → (x ≡ y) ⊎ Contains xs y
first_or x xs y (zero, within, is) = inl is
first_or x xs y (suc k, within, is) = inr (k, omega (arith, within), is)

-- ---- what is offered

-- a node reads this Update Start in the packet
abbrev pub Starts : Packet → UpdateStart → Type 0
Starts p u = request_at p.payload ≡ Some (OfUpdate (StartUpdate u))

-- each Update Start of this BLOB ID has these metadata
abbrev AreOf : List Packet → ℕ → List ℕ → Type 0
AreOf bag id metadata = (p : Packet) (u : UpdateStart) → Contains bag p → Starts p u → u.id ≡ id → u.metadata ≡ metadata

by_request : (q : Packet) (bag : List Packet) (id : ℕ) (metadata : List ℕ) → AreOf (q ∷ bag) id metadata → (r : Option Request) → request_at q.payload ≡ r → offered_in bag id ≡ meta_from metadata → cond (is_start_of id r) (metadata_in r) (offered_in bag id) ≡ meta_from metadata
by_request q bag id metadata f (Some (OfUpdate (StartUpdate v))) e rest = by_test (v.id == id) refl
  where
    by_test : (b : Bool) → (v.id == id) ≡ b → cond b (meta_from v.metadata) (offered_in bag id) ≡ meta_from metadata
    by_test true t = ap meta_from (f q v (0, omega arith, refl) e (eqb-true v.id id t))
    by_test false t = rest
by_request q bag id metadata f _ e rest = rest

-- where there is one, the first of them offers these metadata
pub offered_first : (bag : List Packet) (id : ℕ) (metadata : List ℕ) → AreOf bag id metadata → (p : Packet) (u : UpdateStart) → Contains bag p → Starts p u → u.id ≡ id → offered_in bag id ≡ meta_from metadata
offered_first [] id metadata f p u has s same =
    let none : has.0 < 0 = has.1 in
    absurd (omega (arith, none))
offered_first (q ∷ bag) id metadata f p u has s same =
    elim (first_or q bag p has) [
      | inl is ↦ (let at : Starts q u = subst (λ (x : Packet). Starts x u) (sym is) s in rw (at, eq-eqb u.id id same) (ap meta_from (f q u (0, omega arith, refl) at same)))
      | inr k ↦
          by_request q bag id metadata f (request_at q.payload) refl
          (offered_first bag id metadata (λ x v there e i. f x v (Contains-append_right (q ∷ []) bag x there) e i) p u k s same)
    ]

-- it stays so with more packets
pub offered_more : (bag more : List Packet) (id : ℕ) (meta : Meta) → offered_in bag id ≡ Some meta → offered_in (bag ++ more) id ≡ Some meta
offered_more [] more id meta e = absurd cc
offered_more (q ∷ bag) more id meta e =
    elim (is_start_of id (request_at q.payload)) as (λ t. cond t (metadata_in (request_at q.payload)) (offered_in bag id) ≡ Some meta → cond t (metadata_in (request_at q.payload)) (offered_in (bag ++ more) id) ≡ Some meta) [
      | true ↦ λ k. k
      | false ↦ λ k. offered_more bag more id meta k
    ] e

-- ---- order

pub in_left : {xs log : List LogEntry} (more : List LogEntry) → InOrder xs log → InOrder xs (log ++ more)
in_left more none = none
in_left more (here h) = here (in_left more h)
in_left more (later h) = later (in_left more h)

pub rest : {x : LogEntry} {xs log : List LogEntry} → InOrder (x ∷ xs) log → InOrder xs log
rest (here h) = later h
rest (later h) = later (rest h)

pub head : {x : LogEntry} {xs log : List LogEntry} → InOrder (x ∷ xs) log → InOrder (x ∷ []) log
head (here h) = here none
head (later h) = later (head h)

-- ---- what is shown

applied_more : (bag more : List Packet) (log entries : List LogEntry) (id index : ℕ) → IsApplied bag log id index → IsApplied (bag ++ more) (log ++ entries) id index
applied_more bag more log entries id index h = record {
  meta = h.meta;
  offered = offered_more bag more id h.meta h.offered;
  active = h.active;
  in_order = in_left entries h.in_order;
  version = h.version;
  digest = h.digest;
}

pub shown_more : (bag more : List Packet) (log entries : List LogEntry) (id index phase : ℕ) → IsShown bag log id index phase → IsShown (bag ++ more) (log ++ entries) id index phase
shown_more bag more log entries id index phase (ruled h) = ruled h
shown_more bag more log entries id index phase (reached is h) = reached is (in_left entries h)
shown_more bag more log entries id index phase (applied is h) = applied is (applied_more bag more log entries id index h)
