-- A world in which an updater is about to begin has members that can begin, and typed members that have completed are those of a world
-- in which the update is complete.
use Rattle.std.proofs.Common.{◌≡◌, ◌≢◌, ℕ, nat_eq, Bool, true, false, List, [], ◌∷◌, ◌++◌, map, refl, sym, ap, subst, ◌∙◌, cond, Option, Some, None}
use Rattle.std.specs.Prelude.{◌==◌, ◌||◌}
use Rattle.std.specs.List.{AllByRecursion, flat_map, list_any}
use Rattle.std.proofs.lemmas.Bool.{eqb-true, ne_eqb, eq-eqb}
use Rattle.mu_model_node.specs.NodeState.{NodeState}
use Rattle.mu_model_client.specs.Rows.{Row}
use Rattle.mu_model_client.specs.Client.{rows}
use Rattle.mu_model_updater.specs.Updater.{UpdaterLine}
use Rattle.mu_model_world.specs.World as w
use Rattle.mu_model_world.specs.World.{config_of}
use Rattle.mu_model_mesh.specs.Mesh.{UpdaterMember, Mesh, node_at, updater_at}
use Rattle.mu_model_completion.specs.Completion.{at_address, Distinct, rows_of, rows_in, drop_of, drops_of, drops_in, NoneTwice}
use Rattle.mu_model_completion.specs.Turn.{Member, Part, IsNode, IsUpdater}
use Rattle.mu_model_mesh_completion.proofs.Apart.{true_false, none_some}
use Rattle.mu_model_mesh_completion.specs.Settled.{DropsNobody}
use Rattle.mu_model_mesh_completion.proofs.Worlds.{members_by, member_of, members}

-- ---- members by address

own_address : (a : ℕ) (n : Option w.Member) (u : Option UpdaterMember) → AllByRecursion (λ (x : Member). x.config.address ≡ a) (members_by a n u)
own_address a (Some n) u = (refl, tt)
own_address a None (Some u) = (refl, tt)
own_address a None None = tt

skipped : (a b : ℕ) (xs ys : List Member) → (b ≡ a → ⊥) → AllByRecursion (λ (x : Member). x.config.address ≡ b) xs → at_address a (xs ++ ys) ≡ at_address a ys
skipped a b [] ys ne h = refl
skipped a b (x ∷ xs) ys ne h =
    let other : (x.config.address == a) ≡ false = ne_eqb x.config.address a (λ (e : x.config.address ≡ a). ne (sym h.0 ∙ e)) in
    rw (other, skipped a b xs ys ne h.1) refl

absent : (m : Mesh) (a : ℕ) (bs : List ℕ) → AllByRecursion (λ b. a ≢ b) bs → at_address a (flat_map (member_of m) bs) ≡ None
absent m a [] h = refl
absent m a (b ∷ bs) h = skipped a b (member_of m b) (flat_map (member_of m) bs) (λ e. h.0 (sym e)) (own_address b (node_at m b) (updater_at m b)) ∙ absent m a bs h.1

found_by : (m : Mesh) (a b : ℕ) (bs : List ℕ) (x : Member) (t : Bool) → nat_eq a b ≡ t → member_of m a ≡ x ∷ [] → x.config.address ≡ a → (t || list_any (nat_eq a) bs) ≡ true
    → (list_any (nat_eq a) bs ≡ true → at_address a (flat_map (member_of m) bs) ≡ Some x) → at_address a (flat_map (member_of m) (b ∷ bs)) ≡ Some x
found_by m a b bs x true t is at h k =
    let same : a ≡ b = eqb-true a b t in
    let own : member_of m b ≡ x ∷ [] = subst (λ c. member_of m c ≡ x ∷ []) same is in
    let here : (x.config.address == a) ≡ true = eq-eqb x.config.address a at in
    rw (own, here) refl
found_by m a b bs x false t is at h k =
    let ne : b ≡ a → ⊥ = λ e. true_false (sym (eq-eqb a b (sym e)) ∙ t) in
    skipped a b (member_of m b) (flat_map (member_of m) bs) ne (own_address b (node_at m b) (updater_at m b)) ∙ k h

pub found : (m : Mesh) (a : ℕ) (bs : List ℕ) (x : Member) → member_of m a ≡ x ∷ [] → x.config.address ≡ a → list_any (nat_eq a) bs ≡ true → at_address a (flat_map (member_of m) bs) ≡ Some x
found m a [] x is at h = cc
found m a (b ∷ bs) x is at h = found_by m a b bs x (nat_eq a b) refl is at h (found m a bs x is at)

one_distinct : (m : Mesh) (b : ℕ) (n : Option w.Member) (u : Option UpdaterMember) (xs : List Member) → at_address b xs ≡ None → Distinct xs → Distinct (members_by b n u ++ xs)
one_distinct m b (Some n) u xs h k = (h, k)
one_distinct m b None (Some u) xs h k = (h, k)
one_distinct m b None None xs h k = k

pub distinct : (m : Mesh) (bs : List ℕ) → NoneTwice bs → Distinct (flat_map (member_of m) bs)
distinct m [] h = tt
distinct m (b ∷ bs) h = one_distinct m b (node_at m b) (updater_at m b) (flat_map (member_of m) bs) (absent m b bs h.0) (distinct m bs h.1)

back_one : (m : Mesh) (a b : ℕ) (rest : Option Member) (x y : Member) (t : Bool) → (b == a) ≡ t → member_of m b ≡ y ∷ [] → cond t (Some y) rest ≡ Some x → (rest ≡ Some x → member_of m a ≡ x ∷ []) → member_of m a ≡ x ∷ []
back_one m a b rest x y true t is h k =
    let same : y ≡ x = cc in
    let at : b ≡ a = eqb-true b a t in
    subst (λ c. member_of m c ≡ x ∷ []) at (is ∙ ap (λ (z : Member). z ∷ []) same)
back_one m a b rest x y false t is h k = k h

back_by : (m : Mesh) (a b : ℕ) (bs : List ℕ) (x : Member) (n : Option w.Member) (u : Option UpdaterMember) → member_of m b ≡ members_by b n u → at_address a (members_by b n u ++ flat_map (member_of m) bs) ≡ Some x
    → (at_address a (flat_map (member_of m) bs) ≡ Some x → member_of m a ≡ x ∷ []) → member_of m a ≡ x ∷ []
back_by m a b bs x (Some n) u is h k = back_one m a b (at_address a (flat_map (member_of m) bs)) x (record { config = config_of b n; moment = n.moment; part = IsNode n.state }) (b == a) refl is h k
back_by m a b bs x None (Some u) is h k =
    back_one m a b (at_address a (flat_map (member_of m) bs)) x (record { config = record { address = b; group = 0 }; moment = u.moment; part = IsUpdater u.updater.client u.updater.image.octets }) (b == a) refl is h k
back_by m a b bs x None None is h k = k h

back : (m : Mesh) (a : ℕ) (bs : List ℕ) (x : Member) → at_address a (flat_map (member_of m) bs) ≡ Some x → member_of m a ≡ x ∷ []
back m a [] x h = cc
back m a (b ∷ bs) x h = back_by m a b bs x (node_at m b) (updater_at m b) refl h (back m a bs x)

-- ---- the end

-- an updater stands at the address, with this part
pub record There (line : UpdaterLine) (m : Mesh) (part : Part) : Type 0 where
  pub member : UpdaterMember
  pub found : updater_at m line.address ≡ Some member
  pub same : IsUpdater member.updater.client member.updater.image.octets ≡ part

there_by : (line : UpdaterLine) (m : Mesh) (x : Member) (n : Option w.Member) (u : Option UpdaterMember) → updater_at m line.address ≡ u → members_by line.address n u ≡ x ∷ []
    → ((s : NodeState) → IsNode s ≡ x.part → ⊥) → There line m x.part
there_by line m x (Some n) u at is other =
    let same : record { config = config_of line.address n; moment = n.moment; part = IsNode n.state } ≡ x = cc in
    absurd (other n.state (ap (λ (y : Member). y.part) same))
there_by line m x None (Some u) at is other =
    let same : record { config = record { address = line.address; group = 0 }; moment = u.moment; part = IsUpdater u.updater.client u.updater.image.octets } ≡ x = cc in
    record { member = u; found = at; same = ap (λ (y : Member). y.part) same }
there_by line m x None None at is other = cc

there : (line : UpdaterLine) (m : Mesh) (x : Member) → at_address line.address (members m) ≡ Some x → ((s : NodeState) → IsNode s ≡ x.part → ⊥) → There line m x.part
there line m x e other = there_by line m x (node_at m line.address) (updater_at m line.address) refl (back m line.address m.order x e) other

-- its rows, and the drops of its receivers
pub record Rows (line : UpdaterLine) (m : Mesh) (shown : List Row) : Type 0 where
  pub member : UpdaterMember
  pub found : updater_at m line.address ≡ Some member
  pub rows : rows member.updater.client ≡ shown

pub rows_there : (line : UpdaterLine) (m : Mesh) (shown : List Row) (o : Option Member) → at_address line.address (members m) ≡ o → rows_in o ≡ Some shown → Rows line m shown
rows_there line m shown None e r = cc
rows_there line m shown (Some x) e r =
    let t : There line m x.part = there line m x e (λ s is. none_some (ap rows_of is ∙ r)) in
    let own : Some (rows t.member.updater.client) ≡ Some shown = ap rows_of t.same ∙ r in
    record { member = t.member; found = t.found; rows = cc }

pub drops_there : (line : UpdaterLine) (m : Mesh) (o : Option Member) → at_address line.address (members m) ≡ o → drops_in o ≡ Some (map (λ a. None) line.receivers) → DropsNobody line m
drops_there line m None e d = cc
drops_there line m (Some x) e d =
    let t : There line m x.part = there line m x e (λ s is. none_some (ap drops_of is ∙ d)) in
    let own : Some (map drop_of t.member.updater.client.receivers) ≡ Some (map (λ a. None) line.receivers) = ap drops_of t.same ∙ d in
    record { member = t.member; found = t.found; drops = cc }
