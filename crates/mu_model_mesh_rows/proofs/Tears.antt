-- A tear outlasts the events that have fewer operations.
use Rattle.std.proofs.Common.{◌≡◌, ℕ, ◌<◌, zero, suc, Bool, true, false, cond, List, [], ◌∷◌, length, Some, nat_eq, nat_le, slice_index_or, Contains, refl, subst, arith}
use Rattle.std.specs.Map.{lookup, set_value}
use Rattle.mu_model_node.specs.Events.{NodeEvent, node_step, node_work, is_worn}
use Rattle.mu_model_distributor.specs.DistEvents.{dist_step, dist_work, is_worn as dist_is_worn}
use Rattle.mu_model_world.specs.World.{Tear, Member, World, config_of}
use Rattle.mu_model_world.specs.Outcomes.{Outcome, ran, torn, happens_by}
use Rattle.mu_model_mesh.specs.Mesh.{DistributorMember, Mesh}
use Rattle.mu_model_mesh.specs.MeshOutcomes.{MeshOutcome, dist_ran, dist_torn, dist_happens_by}
use Rattle.mu_model_mesh_rows.specs.Tears.{NodeStands, NodeTearsStay, DistributorStands, DistributorTearsStay}

-- ---- lists and maps

none_within : {X : Type 0} {A : Type 0} (x : X) → Contains [] x → A
none_within x c = let below = c.1 in absurd (omega (arith, below))

one_by : {X : Type 0} (x y : X) (k : ℕ) → k < 1 → slice_index_or (x ∷ []) k y ≡ y → x ≡ y
one_by x y zero l e = e
one_by x y (suc k) l e = absurd (omega (arith, l))

one_within : {X : Type 0} (x y : X) → Contains (x ∷ []) y → x ≡ y
one_within x y c = one_by x y c.0 c.1 c.2

unless_worn : {X : Type 0} (worn : Bool) (xs : List X) (x : X) → Contains (cond worn [] xs) x → Contains xs x
unless_worn true xs x c = none_within x c
unless_worn false xs x c = c

here_by : {X : Type 0} (a : ℕ) (e : ℕ × X) (es : List (ℕ × X)) (v w : X) (b : Bool) → nat_eq a e.0 ≡ b → cond b (Some e.1) (lookup (nat_eq a) es) ≡ Some v
    → (lookup (nat_eq a) es ≡ Some v → lookup (nat_eq a) (set_value (nat_eq a) es w) ≡ Some w)
    → lookup (nat_eq a) (cond b ((e.0, w) ∷ es) (e ∷ set_value (nat_eq a) es w)) ≡ Some w
here_by a e es v w true t h k = rw t refl
here_by a e es v w false t h k = rw t (k h)

set_here : {X : Type 0} (a : ℕ) (es : List (ℕ × X)) (v w : X) → lookup (nat_eq a) es ≡ Some v → lookup (nat_eq a) (set_value (nat_eq a) es w) ≡ Some w
set_here a [] v w h = cc
set_here a (e ∷ es) v w h = here_by a e es v w (nat_eq a e.0) refl h (set_here a es v w)

fewer : {X : Type 0} (n most : ℕ) (b : Bool) (xs ys : List X) (x : X) → nat_le most n ≡ b → n < most → Contains (cond b xs ys) x → Contains ys x
fewer n most true xs ys x e l c = absurd (grind (arith, e, l))
fewer n most false xs ys x e l c = c

-- ---- nodes

ran_stands : (w : World) (address : ℕ) (old m : Member) (event : NodeEvent) (first : List ℕ) (tear : Tear) → lookup (nat_eq address) w.members ≡ Some old → m.tear ≡ Some tear
    → NodeStands (ran w address m first (node_step (config_of address m) m.state event m.moment)).world address m event tear
ran_stands w address old m event first tear there armed = record {
  next = record m { state = (node_step (config_of address m) m.state event m.moment).next };
  there = set_here address w.members old (record m { state = (node_step (config_of address m) m.state event m.moment).next }) there;
  stays = armed;
  done = refl;
}

pub node_tears_stay : NodeTearsStay
node_tears_stay w address old m event first tear o there armed less within =
    let some = unless_worn (is_worn (config_of address m) m.state event m.moment) (happens_by w address m event first m.tear) o within in
    let by_tear : Contains (happens_by w address m event first (Some tear)) o = subst (λ t. Contains (happens_by w address m event first t) o) armed some in
    let whole = fewer (length (node_work (config_of address m) m.state event m.moment)) tear.operation (nat_le tear.operation (length (node_work (config_of address m) m.state event m.moment))) (torn w address m event tear) (ran w address m first (node_step (config_of address m) m.state event m.moment) ∷ []) o refl less by_tear in
    subst (λ (x : Outcome). NodeStands x.world address m event tear) (one_within (ran w address m first (node_step (config_of address m) m.state event m.moment)) o whole) (ran_stands w address old m event first tear there armed)

-- ---- distributors

dist_ran_stands : (w : Mesh) (address : ℕ) (old d : DistributorMember) (event : NodeEvent) (first : List ℕ) (tear : Tear) → lookup (nat_eq address) w.distributors ≡ Some old → d.tear ≡ Some tear
    → DistributorStands (dist_ran w address d first (dist_step address d.state event d.moment)).mesh address d event tear
dist_ran_stands w address old d event first tear there armed = record {
  next = record d { state = (dist_step address d.state event d.moment).next };
  there = set_here address w.distributors old (record d { state = (dist_step address d.state event d.moment).next }) there;
  stays = armed;
  done = refl;
}

pub distributor_tears_stay : DistributorTearsStay
distributor_tears_stay w address old d event first tear o there armed less within =
    let some = unless_worn (dist_is_worn address d.state event d.moment) (dist_happens_by w address d event first d.tear) o within in
    let by_tear : Contains (dist_happens_by w address d event first (Some tear)) o = subst (λ t. Contains (dist_happens_by w address d event first t) o) armed some in
    let whole = fewer (length (dist_work address d.state event d.moment)) tear.operation (nat_le tear.operation (length (dist_work address d.state event d.moment))) (dist_torn w address d event tear) (dist_ran w address d first (dist_step address d.state event d.moment) ∷ []) o refl less by_tear in
    subst (λ (x : MeshOutcome). DistributorStands x.mesh address d event tear) (one_within (dist_ran w address d first (dist_step address d.state event d.moment)) o whole) (dist_ran_stands w address old d event first tear there armed)
