-- Through a `settle` each Update Start that is sent offers an image of its sender, in a world that the `settle` goes through.
use Rattle.std.proofs.Common.{◌≡◌, ◌+◌, ℕ, zero, suc, nat_eq, true, List, [], ◌∷◌, ◌++◌, refl, sym, subst, arith, Some, Contains}
use Rattle.std.specs.List.{AllByRecursion, list_any}
use Rattle.std.proofs.lemmas.List.Elements.{Contains-append_left, Contains-append_right}
use Rattle.mu_model_image.specs.Meta.{Image}
use Rattle.mu_model_wire.specs.Packet.{Packet}
use Rattle.mu_model_node.specs.NodeMessages.{OfUpdate, request_at}
use Rattle.mu_model_node.specs.UpdateMessages.{UpdateStart, StartUpdate}
use Rattle.mu_model_world.specs.Judged.{owner_of}
use Rattle.mu_model_mesh.specs.Mesh.{Mesh, is_member, addressees, moment_at}
use Rattle.mu_model_mesh.specs.MeshOutcomes.{MeshOutcome}
use Rattle.mu_model_mesh.specs.Settle.{turn_time, turn_comes, EachComes, given_to, AllComes, none_left, comes, Turns, Settles}
use Rattle.mu_model_mesh_runs.specs.Goes.{Coming, ByTime, ByPacket, NextOfEach, first, later, NextOfAll, this, after, NextOfTurn, in_time, in_packets, GoesThrough, in_turn, in_later}
use Rattle.mu_model_mesh_safety.specs.Runs.{IsOfRuns}
use Rattle.mu_model_mesh_images.specs.Laws.{HasImage, OffersImage}
use Rattle.mu_model_mesh_images.specs.Worlds.{worlds_by_each, worlds_by_all, worlds_in_turn, worlds_in_settle}
use Rattle.mu_model_mesh_images.proofs.Lists.{AllOf, of_all}
use Rattle.mu_model_mesh_images.proofs.Events.{EventLaws, HasPlan, IsAdded, Adds, AllAdd, packets_add, times_add}

-- an Update Start under a member's BLOB ID offers an image that the member has or had
abbrev pub IsOffer : List Mesh → Mesh → Packet → Type 0
IsOffer worlds m p = (u : UpdateStart) → request_at p.payload ≡ Some (OfUpdate (StartUpdate u)) → is_member m (owner_of u.id) ≡ true → OffersImage worlds (owner_of u.id) u

-- after the member lines
pub record Late (worlds : List Mesh) (m : Mesh) : Type 0 where
  pub bag : AllByRecursion (IsOffer worlds m) m.nodes.bag
  pub begun : m.nodes.begun ≡ true
  pub plans : AllOf HasPlan m.updaters

all_both : {X : Type 0} (P : X → Type 0) (xs ys : List X) → AllByRecursion P xs → AllByRecursion P ys → AllByRecursion P (xs ++ ys)
all_both P [] ys h k = k
all_both P (x ∷ xs) ys h k = (h.0, all_both P xs ys h.1 k)

each : {X : Type 0} (P Q : X → Type 0) (xs : List X) → ((x : X) → P x → Q x) → AllByRecursion P xs → AllByRecursion Q xs
each P Q [] f h = tt
each P Q (x ∷ xs) f h = (f x h.0, each P Q xs f h.1)

pub same_member : (m next : Mesh) (address : ℕ) → next.order ≡ m.order → is_member next address ≡ true → is_member m address ≡ true
same_member m next address order h = subst (λ (addresses : List ℕ). list_any (nat_eq address) addresses ≡ true) order h

-- what comes in a world of the run
pub adds_late : (worlds : List Mesh) (home m next : Mesh) → Contains worlds home → ((a : ℕ) (image : Image) → HasImage m a image → HasImage home a image) → Late worlds m → Adds m next → Late worlds next
adds_late worlds home m next in_run at_home l adds =
    let old = each (IsOffer worlds m) (IsOffer worlds next) m.nodes.bag (λ p is u e member. is u e (same_member m next (owner_of u.id) adds.order member)) l.bag in
    let new = each (IsAdded m) (IsOffer worlds next) adds.more
    (λ p is u e member. (let o = is u e (same_member m next (owner_of u.id) adds.order member) in
    record { image = o.image; had = record { world = home; in_run = in_run; has = at_home (owner_of u.id) o.image o.has }; metadata = o.metadata; range = o.range; fits = o.fits })) adds.offers in
    record {
      bag = subst (λ (ps : List Packet). AllByRecursion (IsOffer worlds next) ps) (sym adds.bag) (all_both (IsOffer worlds next) m.nodes.bag adds.more old new);
      begun = adds.begun;
      plans = adds.updaters;
    }

-- worlds of a part of the run are worlds of the run
abbrev pub AreIn : List Mesh → List Mesh → Type 0
AreIn worlds part = (x : Mesh) → Contains part x → Contains worlds x

head_in : (x : Mesh) (xs : List Mesh) → Contains (x ∷ xs) x
head_in x xs = (zero, omega arith, refl)

pub tail_in : (x y : Mesh) (xs : List Mesh) → Contains xs y → Contains (x ∷ xs) y
tail_in x y xs (k, within, is) = (suc k, omega (arith, within), is)

module _ (laws : EventLaws) (worlds : List Mesh) where
  came_late : (m : Mesh) (outs : List MeshOutcome) (text : List ℕ) (next : Mesh) → Contains worlds m → Late worlds m → AllAdd m outs → Contains outs (record { mesh = next; text = text }) → Late worlds next
  came_late m outs text next in_run l adds is = adds_late worlds m m next in_run (λ a image h. h) l (of_all (λ (o : MeshOutcome). Adds m o.mesh) outs (record { mesh = next; text = text }) adds is)

  module _ (outs : Mesh → ℕ → List MeshOutcome) (adds : (x : Mesh) (a : ℕ) → IsOfRuns x → Late worlds x → AllAdd x (outs x a)) where
    each_late : (addresses : List ℕ) (m : Mesh) (text : List ℕ) (next : Mesh) → Late worlds m → ((a : ℕ) (x : Mesh) → NextOfEach outs addresses m a x → IsOfRuns x)
        → (way : EachComes outs addresses m text next) → AreIn worlds (worlds_by_each outs addresses m text next way) → Late worlds next
    each_late [] m text next l good way are = subst (Late worlds) (sym way.1) l
    each_late (a ∷ addresses) m text next l good way are =
        let in_run = are m (head_in m (worlds_by_each outs addresses way.0 way.2 next way.4)) in
        let mid = came_late m (outs m a) way.1 way.0 in_run l (adds m a (good a m first) l) way.3 in
        each_late addresses way.0 way.2 next mid (λ b x n. good b x (later way.1 way.3 n)) way.4 (λ x h. are x (tail_in m x (worlds_by_each outs addresses way.0 way.2 next way.4) h))

  given_adds : (number : ℕ) (x : Mesh) (a : ℕ) → IsOfRuns x → Late worlds x → AllAdd x (given_to number x a)
  given_adds number x a r l = packets_add laws x r l.begun l.plans number a

  turn_adds : (x : Mesh) (a : ℕ) → IsOfRuns x → Late worlds x → AllAdd x (turn_comes x a)
  turn_adds x a r l = times_add laws x r l.begun l.plans a (moment_at x a + turn_time)

  all_late : {number : ℕ} {m : Mesh} {text : List ℕ} {next : Mesh} → Late worlds m → ((k a : ℕ) (x : Mesh) → NextOfAll number m k a x → IsOfRuns x) → (way : AllComes number m text next)
      → AreIn worlds (worlds_by_all way) → Late worlds next
  all_late l good (none_left over) are = l
  all_late {number = number} {m = m} l good (comes {mid = mid} front more packet at way all) are =
      let own = worlds_by_each (given_to number) (addressees m packet) m front mid way in
      let late = each_late (given_to number) (given_adds number) (addressees m packet) m front mid l (λ a x n. good number a x (this packet at n)) way
      (λ x h. are x (Contains-append_left own (worlds_by_all all) x h)) in
      all_late late (λ k a x n. good k a x (after front packet at way n)) all (λ x h. are x (Contains-append_right own (worlds_by_all all) x h))

  counted_late : (next last : Mesh) → next ≡ record last { turns = last.turns + 1 } → Late worlds last → Late worlds next
  counted_late next last e l = subst (Late worlds) (sym e) (record { bag = l.bag; begun = l.begun; plans = l.plans })

  turn_late : (m : Mesh) (text : List ℕ) (next : Mesh) → Late worlds m → ((coming : Coming) (x : Mesh) → NextOfTurn m coming x → IsOfRuns x) → (way : Turns m text next) → AreIn worlds (worlds_in_turn way) → Late worlds next
  turn_late m text next l good t are =
      let own = worlds_by_each turn_comes m.order m t.first t.mid t.time in
      let mid = each_late turn_comes turn_adds m.order m t.first t.mid l (λ a x n. good (ByTime a (moment_at x a + turn_time)) x (in_time n)) t.time
      (λ x h. are x (Contains-append_left own (worlds_by_all t.packets) x h)) in
      counted_late next t.last t.counted
      (all_late mid (λ k a x n. good (ByPacket k a) x (in_packets t.first t.time n)) t.packets (λ x h. are x (Contains-append_right own (worlds_by_all t.packets) x h)))

  pub settle_late : (turns : ℕ) (m : Mesh) (text : List ℕ) (next : Mesh) → Late worlds m → ((coming : Coming) (x : Mesh) → GoesThrough turns m coming x → IsOfRuns x)
      → (way : Settles turns m text next) → AreIn worlds (worlds_in_settle turns m text next way) → Late worlds next
  settle_late zero m text next l good way are = subst (Late worlds) (sym way.1) l
  settle_late (suc turns) m text next l good way are =
      let own = worlds_in_turn way.3 in
      let more = worlds_in_settle turns way.0 way.2 next way.4 in
      let mid = turn_late m way.1 way.0 l (λ coming x n. good coming x (in_turn n)) way.3 (λ x h. are x (Contains-append_left own more x h)) in
      settle_late turns way.0 way.2 next mid (λ coming x n. good coming x (in_later way.1 way.3 n)) way.4 (λ x h. are x (Contains-append_right own more x h))
