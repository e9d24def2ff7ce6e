-- The members of a world, and how an event changes them.
use Rattle.std.proofs.Common.{◌≡◌, ◌<◌, ℕ, zero, suc, nat_eq, Bool, true, false, List, [], ◌∷◌, ◌++◌, map, refl, sym, ap, subst, ◌∙◌, cond, arith, Option, Some, None}
use Rattle.std.specs.Prelude.{Contains, slice_index_or}
use Rattle.std.specs.List.{flat_map}
use Rattle.std.specs.Map.{lookup, set_value}
use Rattle.std.proofs.lemmas.Bool.{eqb-true, ne_eqb, eq-eqb}
use Rattle.mu_model_wire.specs.Packet.{Packet}
use Rattle.mu_model_node.specs.Events.{NodeEvent, NodeStep, node_step}
use Rattle.mu_model_node.specs.NodeMessages.{reply_octets}
use Rattle.mu_model_client.specs.Packets.{request_octets}
use Rattle.mu_model_updater.specs.Updater.{UpdaterStep}
use Rattle.mu_model_distributor.specs.DistEvents.{DistStep, dist_step}
use Rattle.mu_model_world.specs.World as w
use Rattle.mu_model_world.specs.World.{Tear, config_of}
use Rattle.mu_model_world.specs.Outcomes.{ran, happens, happens_by}
use Rattle.mu_model_mesh.specs.Mesh.{UpdaterMember, DistributorMember, Mesh, node_at, updater_at, distributor_at}
use Rattle.mu_model_mesh.specs.MeshOutcomes.{MeshOutcome, of_nodes, all_of_nodes, updater_ran, dist_ran, dist_happens, dist_happens_by}
use Rattle.mu_model_mesh_completion.proofs.Apart.{true_false, some_none}
use Rattle.mu_model_mesh_completion.specs.Settled.{IsAtRest}
use Rattle.mu_model_completion.specs.Turn.{Member, IsNode, IsUpdater, Body, Asks, Replies, Sent}

-- ---- members

abbrev pub members_by : ℕ → Option w.Member → Option UpdaterMember → List Member
members_by address (Some n) u = record { config = config_of address n; moment = n.moment; part = IsNode n.state } ∷ []
members_by address None (Some u) =
    record { config = record { address = address; group = 0 }; moment = u.moment; part = IsUpdater u.updater.client u.updater.image.octets } ∷ []
members_by address None None = []

-- what stands at an address
abbrev pub member_of : Mesh → ℕ → List Member
member_of m address = members_by address (node_at m address) (updater_at m address)

abbrev pub members : Mesh → List Member
members m = flat_map (member_of m) m.order

-- ---- packets

abbrev pub body_octets : Body → List ℕ
body_octets (Asks request) = request_octets request
body_octets (Replies reply) = reply_octets reply

abbrev pub packet_of : Sent → Packet
packet_of p = record { from = p.from; to = p.to; payload = body_octets p.body }

-- ---- outcomes

only_at : {X : Type 0} (x y : X) (k : ℕ) → k < 1 → slice_index_or (x ∷ []) k y ≡ y → x ≡ y
only_at x y zero h e = e
only_at x y (suc k) h e = absurd (omega (arith, h))

pub only : {X : Type 0} (x y : X) → Contains (x ∷ []) y → x ≡ y
only x y h = only_at x y h.0 h.1 h.2

pub none : {X : Type 0} (y : X) → Contains [] y → ⊥
none y h = let below = h.1 in omega (arith, below)

-- ---- entries

here_by : {X : Type 0} (a : ℕ) (e : ℕ × X) (es : List (ℕ × X)) (v w : X) (b : Bool) → nat_eq a e.0 ≡ b → cond b (Some e.1) (lookup (nat_eq a) es) ≡ Some v
    → (lookup (nat_eq a) es ≡ Some v → lookup (nat_eq a) (set_value (nat_eq a) es w) ≡ Some w)
    → lookup (nat_eq a) (cond b ((e.0, w) ∷ es) (e ∷ set_value (nat_eq a) es w)) ≡ Some w
here_by a e es v w true t h k = rw t refl
here_by a e es v w false t h k = rw t (k h)

pub set_here : {X : Type 0} (a : ℕ) (es : List (ℕ × X)) (v w : X) → lookup (nat_eq a) es ≡ Some v → lookup (nat_eq a) (set_value (nat_eq a) es w) ≡ Some w
set_here a [] v w h = cc
set_here a (e ∷ es) v w h = here_by a e es v w (nat_eq a e.0) refl h (set_here a es v w)

there_by : {X : Type 0} (a b : ℕ) (e : ℕ × X) (es : List (ℕ × X)) (w : X) (t : Bool) → nat_eq a e.0 ≡ t → (a ≡ b → ⊥)
    → lookup (nat_eq b) (set_value (nat_eq a) es w) ≡ lookup (nat_eq b) es
    → lookup (nat_eq b) (cond t ((e.0, w) ∷ es) (e ∷ set_value (nat_eq a) es w)) ≡ lookup (nat_eq b) (e ∷ es)
there_by a b e es w true t ne k =
    let at : a ≡ e.0 = eqb-true a e.0 t in
    let other : nat_eq b e.0 ≡ false = ne_eqb b e.0 (λ (is : b ≡ e.0). ne (at ∙ sym is)) in
    rw other refl
there_by a b e es w false t ne k = ap (λ (o : Option _). cond (nat_eq b e.0) (Some e.1) o) k

pub set_there : {X : Type 0} (a b : ℕ) (es : List (ℕ × X)) (w : X) → (a ≡ b → ⊥) → lookup (nat_eq b) (set_value (nat_eq a) es w) ≡ lookup (nat_eq b) es
set_there a b [] w ne = refl
set_there a b (e ∷ es) w ne = there_by a b e es w (nat_eq a e.0) refl ne (set_there a b es w ne)

-- ---- no tear is to come, and distributors are at rest

pub record Stable (m : Mesh) : Type 0 where
  pub at_rest : (address : ℕ) (d : DistributorMember) → distributor_at m address ≡ Some d → IsAtRest d
  pub no_tear : (address : ℕ) (n : w.Member) → node_at m address ≡ Some n → n.tear ≡ None

-- where no distributor is, none comes
abbrev pub NoneComes : Mesh → Mesh → Type 0
NoneComes m next = (b : ℕ) → distributor_at m b ≡ None → distributor_at next b ≡ None

-- and none goes
abbrev pub NoneGoes : Mesh → Mesh → Type 0
NoneGoes m next = (b : ℕ) → distributor_at next b ≡ None → distributor_at m b ≡ None

-- ---- a node goes through a step

pub record NodeRan (m next : Mesh) (address : ℕ) (n : w.Member) (step : NodeStep) : Type 0 where
  pub here : member_of next address ≡ record { config = config_of address n; moment = n.moment; part = IsNode step.next } ∷ []
  pub there : (b : ℕ) → (address ≡ b → ⊥) → member_of next b ≡ member_of m b
  pub bag : next.nodes.bag ≡ m.nodes.bag ++ step.sent
  pub order : next.order ≡ m.order
  pub stable : Stable next
  pub none_comes : NoneComes m next
  pub none_goes : NoneGoes m next

tear_by : (m next : Mesh) (address : ℕ) (n : w.Member) (b : ℕ) (k : w.Member) (t : Bool) → nat_eq address b ≡ t → Stable m → n.tear ≡ None → node_at next address ≡ Some n
    → ((c : ℕ) → (address ≡ c → ⊥) → node_at next c ≡ node_at m c) → node_at next b ≡ Some k → k.tear ≡ None
tear_by m next address n b k true t s none here there h =
    let at : address ≡ b = eqb-true address b t in
    let same : node_at next b ≡ Some n = subst (λ c. node_at next c ≡ Some n) at here in
    let is : n ≡ k = cc in
    subst (λ (x : w.Member). x.tear ≡ None) is none
tear_by m next address n b k false t s none here there h =
    let ne : address ≡ b → ⊥ = λ is. false_or_true (sym (eq-eqb address b is) ∙ t) in
    s.no_tear b k (sym (there b ne) ∙ h)
  where
    false_or_true : true ≡ false → ⊥
    false_or_true e = cc

pub node_ran : (m : Mesh) (address : ℕ) (old n : w.Member) (first : List ℕ) (step : NodeStep) → Stable m → node_at m address ≡ Some old → n.tear ≡ None
    → NodeRan m (of_nodes m (ran m.nodes address n first step)).mesh address n step
node_ran m address old n first step s at no_tear =
    let next : Mesh = (of_nodes m (ran m.nodes address n first step)).mesh in
    let new : w.Member = record n { state = step.next } in
    let here : node_at next address ≡ Some new = set_here address m.nodes.members old new at in
    let there : (b : ℕ) → (address ≡ b → ⊥) → node_at next b ≡ node_at m b = λ b ne. set_there address b m.nodes.members new ne in
    record {
      here = ap (λ (o : Option w.Member). members_by address o (updater_at m address)) here;
      there = λ b ne. ap (λ (o : Option w.Member). members_by b o (updater_at m b)) (there b ne);
      bag = refl;
      order = refl;
      stable = record { at_rest = s.at_rest; no_tear = λ b k h. tear_by m next address new b k (nat_eq address b) refl s no_tear here there h };
      none_comes = λ b h. h;
      none_goes = λ b h. h;
    }

happens_only_by : (m : Mesh) (address : ℕ) (n : w.Member) (event : NodeEvent) (first : List ℕ) (o : MeshOutcome) (worn : Bool) (tear : Option Tear) → tear ≡ None
    → Contains (map (of_nodes m) (cond worn [] (happens_by m.nodes address n event first tear))) o
    → of_nodes m (ran m.nodes address n first (node_step (config_of address n) n.state event n.moment)) ≡ o
happens_only_by m address n event first o true tear e h = absurd (none o h)
happens_only_by m address n event first o false None e h = only _ o h
happens_only_by m address n event first o false (Some tear) e h = cc

-- an event of a node that has no tear to come, where its flash isn't worn out
pub happens_only : (m : Mesh) (address : ℕ) (n : w.Member) (event : NodeEvent) (first : List ℕ) (o : MeshOutcome) → n.tear ≡ None
    → Contains (all_of_nodes m (happens m.nodes address n event first)) o
    → of_nodes m (ran m.nodes address n first (node_step (config_of address n) n.state event n.moment)) ≡ o
happens_only m address n event first o e h = happens_only_by m address n event first o _ n.tear e h

-- ---- an updater goes through a step

pub record UpdaterRan (m next : Mesh) (address : ℕ) (u : UpdaterMember) (step : UpdaterStep) : Type 0 where
  pub here : member_of next address ≡ record { config = record { address = address; group = 0 }; moment = u.moment; part = IsUpdater step.next.client step.next.image.octets } ∷ []
  pub there : (b : ℕ) → (address ≡ b → ⊥) → member_of next b ≡ member_of m b
  pub bag : next.nodes.bag ≡ m.nodes.bag ++ step.sent
  pub order : next.order ≡ m.order
  pub stable : Stable next
  pub none_comes : NoneComes m next
  pub none_goes : NoneGoes m next

pub updater_went : (m : Mesh) (address : ℕ) (old u : UpdaterMember) (first : List ℕ) (step : UpdaterStep) → Stable m → node_at m address ≡ None → updater_at m address ≡ Some old
    → UpdaterRan m (updater_ran m address u first step).mesh address u step
updater_went m address old u first step s nobody_there at =
    let next : Mesh = (updater_ran m address u first step).mesh in
    let new : UpdaterMember = record u { updater = step.next } in
    let here : updater_at next address ≡ Some new = set_here address m.updaters old new at in
    let there : (b : ℕ) → (address ≡ b → ⊥) → updater_at next b ≡ updater_at m b = λ b ne. set_there address b m.updaters new ne in
    record {
      here = ap (λ (o : Option w.Member). members_by address o (updater_at next address)) nobody_there ∙ ap (λ (o : Option UpdaterMember). members_by address None o) here;
      there = λ b ne. ap (λ (o : Option UpdaterMember). members_by b (node_at m b) o) (there b ne);
      bag = refl;
      order = refl;
      stable = record { at_rest = s.at_rest; no_tear = s.no_tear };
      none_comes = λ b h. h;
      none_goes = λ b h. h;
    }

-- ---- a distributor at rest goes through a step

pub record DistRan (m next : Mesh) (sent : List Packet) : Type 0 where
  pub same : (b : ℕ) → member_of next b ≡ member_of m b
  pub bag : next.nodes.bag ≡ m.nodes.bag ++ sent
  pub order : next.order ≡ m.order
  pub stable : Stable next
  pub none_comes : NoneComes m next
  pub none_goes : NoneGoes m next

rest_by : (m next : Mesh) (address b : ℕ) (new k : DistributorMember) (t : Bool) → nat_eq address b ≡ t → Stable m → IsAtRest new → distributor_at next address ≡ Some new
    → ((c : ℕ) → (address ≡ c → ⊥) → distributor_at next c ≡ distributor_at m c) → distributor_at next b ≡ Some k → IsAtRest k
rest_by m next address b new k true t s rest here there h =
    let at : address ≡ b = eqb-true address b t in
    let same : distributor_at next b ≡ Some new = subst (λ c. distributor_at next c ≡ Some new) at here in
    let is : new ≡ k = cc in
    subst IsAtRest is rest
rest_by m next address b new k false t s rest here there h =
    s.at_rest b k (sym (there b (λ is. true_false (sym (eq-eqb address b is) ∙ t))) ∙ h)

pub goes_by : {X : Type 0} (a b : ℕ) (t : Bool) → nat_eq a b ≡ t → (f g : ℕ → Option X) (new : X) → f a ≡ Some new → ((c : ℕ) → (a ≡ c → ⊥) → f c ≡ g c) → f b ≡ None → g b ≡ None
goes_by a b true t f g new here there h = absurd (some_none (sym here ∙ (ap f (eqb-true a b t) ∙ h)))
goes_by a b false t f g new here there h = sym (there b (λ is. true_false (sym (eq-eqb a b is) ∙ t))) ∙ h

pub dist_went : (m : Mesh) (address : ℕ) (old d : DistributorMember) (first : List ℕ) (step : DistStep) → Stable m → distributor_at m address ≡ Some old → IsAtRest (record d { state = step.next })
    → DistRan m (dist_ran m address d first step).mesh step.sent
dist_went m address old d first step s at rest =
    let next : Mesh = (dist_ran m address d first step).mesh in
    let new : DistributorMember = record d { state = step.next } in
    let here : distributor_at next address ≡ Some new = set_here address m.distributors old new at in
    let there : (c : ℕ) → (address ≡ c → ⊥) → distributor_at next c ≡ distributor_at m c = λ c ne. set_there address c m.distributors new ne in
    record {
      same = λ b. refl;
      bag = refl;
      order = refl;
      stable = record { at_rest = λ b k h. rest_by m next address b new k (nat_eq address b) refl s rest here there h; no_tear = s.no_tear };
      none_comes = λ b h. there b (λ is. some_none (sym at ∙ (ap (λ c. distributor_at m c) is ∙ h))) ∙ h;
      none_goes = λ b h. goes_by address b (nat_eq address b) refl (distributor_at next) (distributor_at m) new here there h;
    }

dist_only_by : (m : Mesh) (address : ℕ) (d : DistributorMember) (event : NodeEvent) (first : List ℕ) (o : MeshOutcome) (worn : Bool) (tear : Option Tear) → tear ≡ None
    → Contains (cond worn [] (dist_happens_by m address d event first tear)) o → dist_ran m address d first (dist_step address d.state event d.moment) ≡ o
dist_only_by m address d event first o true tear e h = absurd (none o h)
dist_only_by m address d event first o false None e h = only _ o h
dist_only_by m address d event first o false (Some tear) e h = cc

pub dist_only : (m : Mesh) (address : ℕ) (d : DistributorMember) (event : NodeEvent) (first : List ℕ) (o : MeshOutcome) → d.tear ≡ None → Contains (dist_happens m address d event first) o
    → dist_ran m address d first (dist_step address d.state event d.moment) ≡ o
dist_only m address d event first o e h = dist_only_by m address d event first o _ d.tear e h
