-- What an event at a member changes of a world: nobody comes or goes, and packets go to the end of the bag.
use Rattle.std.proofs.Common.{◌≡◌, ℕ, nat_eq, Bool, true, false, List, [], ◌∷◌, ◌++◌, map, refl, sym, ap, ◌∙◌, cond, append_assoc, append-nil, Option, Some, None, is_some}
use Rattle.std.specs.Prelude.{slice_get, nat_le, length}
use Rattle.std.specs.List.{AllByRecursion, list_any}
use Rattle.std.specs.Map.{lookup, set_value}
use Rattle.mu_model_wire.specs.Packet.{Packet}
use Rattle.mu_model_node.specs.NodeState.{NodeDurable, restarted as node_restarted}
use Rattle.mu_model_node.specs.Events.{NodeEvent, PacketComes, TimeComes, node_step, node_work, is_worn}
use Rattle.mu_model_node.specs.Safe.{left_after as node_left}
use Rattle.mu_model_distributor.specs.DistState.{DistDurable}
use Rattle.mu_model_distributor.specs.DistEvents.{dist_step, dist_work, is_worn as dist_is_worn, restarted}
use Rattle.mu_model_distributor.specs.Runs.{left_after as dist_left}
use Rattle.mu_model_updater.specs.Updater.{updater_step}
use Rattle.mu_model_world.specs.World.{Tear, Member, config_of}
use Rattle.mu_model_world.specs.Outcomes.{Outcome, ran, booted, done_by, torn, happens, happens_by, at_moment, unread}
use Rattle.mu_model_mesh.specs.Mesh.{UpdaterMember, DistributorMember, Mesh, is_member, node_at, updater_at, distributor_at}
use Rattle.mu_model_mesh.specs.MeshOutcomes.{MeshOutcome, of_nodes, all_of_nodes, updater_ran, updater_happens, updater_later, dist_ran, dist_booted, dist_torn, dist_happens, dist_happens_by, dist_later, given, given_packet, given_by, time_comes, timed_by, unread_if}
use Rattle.mu_model_answers.specs.Laws.{IsUnanswered, NodeAnswersAreUnanswered, DistributorAnswersAreUnanswered, UpdatersAnswerNothing}
use Rattle.mu_model_mesh_runs.specs.Laws.{HasMembers}

-- ---- nobody comes or goes

pub record Stays (m next : Mesh) : Type 0 where
  pub order : next.order ≡ m.order
  pub nodes : (a : ℕ) → is_some (node_at next a) ≡ is_some (node_at m a)
  pub updaters : (a : ℕ) → is_some (updater_at next a) ≡ is_some (updater_at m a)
  pub distributors : (a : ℕ) → is_some (distributor_at next a) ≡ is_some (distributor_at m a)

pub stays_same : (m : Mesh) → Stays m m
stays_same m = record { order = refl; nodes = λ a. refl; updaters = λ a. refl; distributors = λ a. refl }

pub stays_then : (m mid next : Mesh) → Stays m mid → Stays mid next → Stays m next
stays_then m mid next h k = record {
  order = k.order ∙ h.order;
  nodes = λ a. k.nodes a ∙ h.nodes a;
  updaters = λ a. k.updaters a ∙ h.updaters a;
  distributors = λ a. k.distributors a ∙ h.distributors a;
}

none_of : {X : Type 0} (x : Option X) → is_some x ≡ false → x ≡ None
none_of None e = refl
none_of (Some x) e = cc

still_none : {X : Type 0} (x y : Option X) → is_some y ≡ is_some x → y ≡ None → x ≡ None
still_none x y same e = none_of x (sym same ∙ ap is_some e)

pub still_there : (m next : Mesh) (a : ℕ) → Stays m next → is_member m a ≡ true → is_member next a ≡ true
still_there m next a s e = ap (λ order. list_any (nat_eq a) order) s.order ∙ e

pub members_stay : (m next : Mesh) → Stays m next → HasMembers m → HasMembers next
members_stay m next s h a there n u d =
    h a (ap (λ order. list_any (nat_eq a) order) (sym s.order) ∙ there) (still_none (node_at m a) (node_at next a) (s.nodes a) n)
    (still_none (updater_at m a) (updater_at next a) (s.updaters a) u) (still_none (distributor_at m a) (distributor_at next a) (s.distributors a) d)

-- ---- what is set at an address

set_one : {X : Type 0} (a : ℕ) (e : ℕ × X) (w : X) (es : List (ℕ × X)) (b : Bool) → is_some (cond b (Some w) (lookup (nat_eq a) es)) ≡ is_some (cond b (Some e.1) (lookup (nat_eq a) es))
set_one a e w es true = refl
set_one a e w es false = refl

set_other : {X : Type 0} (a : ℕ) (e : ℕ × X) (x y : Option X) (b : Bool) → is_some x ≡ is_some y → is_some (cond b (Some e.1) x) ≡ is_some (cond b (Some e.1) y)
set_other a e x y true h = refl
set_other a e x y false h = h

set_key : {X : Type 0} (a b : ℕ) (e : ℕ × X) (es : List (ℕ × X)) (w : X) (t : Bool) → is_some (lookup (nat_eq a) (set_value (nat_eq b) es w)) ≡ is_some (lookup (nat_eq a) es)
    → is_some (lookup (nat_eq a) (cond t ((e.0, w) ∷ es) (e ∷ set_value (nat_eq b) es w))) ≡ is_some (lookup (nat_eq a) (e ∷ es))
set_key a b e es w true h = set_one a e w es (nat_eq a e.0)
set_key a b e es w false h = set_other a e (lookup (nat_eq a) (set_value (nat_eq b) es w)) (lookup (nat_eq a) es) (nat_eq a e.0) h

pub set_some : {X : Type 0} (a b : ℕ) (es : List (ℕ × X)) (w : X) → is_some (lookup (nat_eq a) (set_value (nat_eq b) es w)) ≡ is_some (lookup (nat_eq a) es)
set_some a b [] w = refl
set_some a b (e ∷ es) w = set_key a b e es w (nat_eq b e.0) (set_some a b es w)

-- ---- the bag

pub record Grows (P : Packet → Type 0) (m next : Mesh) : Type 0 where
  pub stays : Stays m next
  pub more : List Packet
  pub bag : next.nodes.bag ≡ m.nodes.bag ++ more
  pub fits : AllByRecursion P more

pub grows_same : (P : Packet → Type 0) (m : Mesh) → Grows P m m
grows_same P m = record { stays = stays_same m; more = []; bag = sym (append-nil m.nodes.bag); fits = tt }

all_append : (P : Packet → Type 0) (xs ys : List Packet) → AllByRecursion P xs → AllByRecursion P ys → AllByRecursion P (xs ++ ys)
all_append P [] ys h k = k
all_append P (x ∷ xs) ys h k = (h.0, all_append P xs ys h.1 k)

pub grows_then : (P : Packet → Type 0) (m mid next : Mesh) → Grows P m mid → Grows P mid next → Grows P m next
grows_then P m mid next h k = record {
  stays = stays_then m mid next h.stays k.stays;
  more = h.more ++ k.more;
  bag = k.bag ∙ (ap (λ bag. bag ++ k.more) h.bag ∙ append_assoc m.nodes.bag h.more k.more);
  fits = all_append P h.more k.more h.fits k.fits;
}

-- ---- outcomes

abbrev pub AllGrow : (Packet → Type 0) → Mesh → List MeshOutcome → Type 0
AllGrow P m outs = AllByRecursion (λ (o : MeshOutcome). Grows P m o.mesh) outs

module _ (P : Packet → Type 0) (m : Mesh) (address : ℕ) where
  module _ (n : Member) (event : NodeEvent) (first : List ℕ) where
    pub node_boots : (left : NodeDurable) → Grows P m (of_nodes m (booted m.nodes address n left)).mesh
    node_boots left = record {
      stays = record { order = refl; nodes = λ a. set_some a address m.nodes.members (record n { tear = None; state = node_restarted left }); updaters = λ a. refl; distributors = λ a. refl };
      more = [];
      bag = sym (append-nil m.nodes.bag);
      fits = tt;
    }

    node_torn : (operations : List ℕ) → AllGrow P m (all_of_nodes m (map (λ k. booted m.nodes address n (node_left (config_of address n) n.state event n.moment k)) operations))
    node_torn [] = tt
    node_torn (k ∷ operations) = (node_boots (node_left (config_of address n) n.state event n.moment k), node_torn operations)

    node_ran : AllByRecursion P (node_step (config_of address n) n.state event n.moment).sent → Grows P m (of_nodes m (ran m.nodes address n first (node_step (config_of address n) n.state event n.moment))).mesh
    node_ran h = record {
      stays = record { order = refl; nodes = λ a. set_some a address m.nodes.members (record n { state = (node_step (config_of address n) n.state event n.moment).next }); updaters = λ a. refl; distributors = λ a. refl };
      more = (node_step (config_of address n) n.state event n.moment).sent;
      bag = refl;
      fits = h;
    }

    pub node_happens : AllByRecursion P (node_step (config_of address n) n.state event n.moment).sent → AllGrow P m (all_of_nodes m (happens m.nodes address n event first))
    node_happens h = by_worn (is_worn (config_of address n) n.state event n.moment)
      where
        by_operations : (t : Tear) (b : Bool) → AllGrow P m (all_of_nodes m (cond b (torn m.nodes address n event t) (ran m.nodes address n first (node_step (config_of address n) n.state event n.moment) ∷ [])))
        by_operations t true = node_torn (done_by t.pattern t.operation)
        by_operations t false = (node_ran h, tt)

        by_tear : (tear : Option Tear) → AllGrow P m (all_of_nodes m (happens_by m.nodes address n event first tear))
        by_tear None = (node_ran h, tt)
        by_tear (Some t) = by_operations t (nat_le t.operation (length (node_work (config_of address n) n.state event n.moment)))

        by_worn : (b : Bool) → AllGrow P m (all_of_nodes m (cond b [] (happens_by m.nodes address n event first n.tear)))
        by_worn true = tt
        by_worn false = by_tear n.tear

  module _ (d : DistributorMember) (event : NodeEvent) (first : List ℕ) where
    pub dist_boots : (left : DistDurable) → Grows P m (dist_booted m address d left).mesh
    dist_boots left = record {
      stays = record { order = refl; nodes = λ a. refl; updaters = λ a. refl; distributors = λ a. set_some a address m.distributors (record d { tear = None; state = restarted address left }) };
      more = [];
      bag = sym (append-nil m.nodes.bag);
      fits = tt;
    }

    all_torn : (operations : List ℕ) → AllGrow P m (map (λ k. dist_booted m address d (dist_left address d.state event d.moment k)) operations)
    all_torn [] = tt
    all_torn (k ∷ operations) = (dist_boots (dist_left address d.state event d.moment k), all_torn operations)

    runs : AllByRecursion P (dist_step address d.state event d.moment).sent → Grows P m (dist_ran m address d first (dist_step address d.state event d.moment)).mesh
    runs h = record {
      stays = record { order = refl; nodes = λ a. refl; updaters = λ a. refl; distributors = λ a. set_some a address m.distributors (record d { state = (dist_step address d.state event d.moment).next }) };
      more = (dist_step address d.state event d.moment).sent;
      bag = refl;
      fits = h;
    }

    pub distributor_happens : AllByRecursion P (dist_step address d.state event d.moment).sent → AllGrow P m (dist_happens m address d event first)
    distributor_happens h = by_worn (dist_is_worn address d.state event d.moment)
      where
        by_operations : (t : Tear) (b : Bool) → AllGrow P m (cond b (dist_torn m address d event t) (dist_ran m address d first (dist_step address d.state event d.moment) ∷ []))
        by_operations t true = all_torn (done_by t.pattern t.operation)
        by_operations t false = (runs h, tt)

        by_tear : (tear : Option Tear) → AllGrow P m (dist_happens_by m address d event first tear)
        by_tear None = (runs h, tt)
        by_tear (Some t) = by_operations t (nat_le t.operation (length (dist_work address d.state event d.moment)))

        by_worn : (b : Bool) → AllGrow P m (cond b [] (dist_happens_by m address d event first d.tear))
        by_worn true = tt
        by_worn false = by_tear d.tear

  pub one_happens : (u : UpdaterMember) (event : NodeEvent) (first : List ℕ) → AllByRecursion P (updater_step u.updater event u.moment).sent → AllGrow P m (updater_happens m address u event first)
  one_happens u event first h = (
    record {
      stays = record { order = refl; nodes = λ a. refl; updaters = λ a. set_some a address m.updaters (record u { updater = (updater_step u.updater event u.moment).next }); distributors = λ a. refl };
      more = (updater_step u.updater event u.moment).sent;
      bag = refl;
      fits = h;
    },
    tt,
  )

-- ---- time

abbrev pub Any : Packet → Type 0
Any p = Unit {0}

pub all_any : (packets : List Packet) → AllByRecursion Any packets
all_any [] = tt
all_any (p ∷ packets) = (tt, all_any packets)

timed_grows : (m : Mesh) (address ms : ℕ) (n : Option Member) (u : Option UpdaterMember) (d : Option DistributorMember) → AllGrow Any m (timed_by m address ms n u d)
timed_grows m address ms (Some n) u d = let x : Member = at_moment ms n in node_happens Any m address x TimeComes [] (all_any (node_step (config_of address x) x.state TimeComes x.moment).sent)
timed_grows m address ms None (Some u) d = (let x : UpdaterMember = updater_later ms u in one_happens Any m address x TimeComes [] (all_any (updater_step x.updater TimeComes x.moment).sent))
timed_grows m address ms None None (Some d) = (let x : DistributorMember = dist_later ms d in distributor_happens Any m address x TimeComes [] (all_any (dist_step address x.state TimeComes x.moment).sent))
timed_grows m address ms None None None = tt

pub time_grows : (m : Mesh) (address ms : ℕ) → AllGrow Any m (time_comes m address ms)
time_grows m address ms = timed_grows m address ms (node_at m address) (updater_at m address) (distributor_at m address)

-- ---- packets

-- what each of the three sends on a packet
pub record Answers : Type 0 where
  pub nodes : NodeAnswersAreUnanswered
  pub distributors : DistributorAnswersAreUnanswered
  pub updaters : UpdatersAnswerNothing

nothing_of : (P : Packet → Type 0) (packets : List Packet) → packets ≡ [] → AllByRecursion P packets
nothing_of P [] e = tt
nothing_of P (p ∷ packets) e = cc

module _ (answers : Answers) where
  given_grows : (m : Mesh) (number address : ℕ) (p : Packet) (n : Option Member) (u : Option UpdaterMember) (d : Option DistributorMember) → AllGrow IsUnanswered m (given_by m number address p n u d)
  given_grows m number address p (Some n) u d = node_happens IsUnanswered m address n (PacketComes p) (unread number address n p) (answers.nodes (config_of address n) n.state p n.moment)
  given_grows m number address p None (Some u) d =
      one_happens IsUnanswered m address u (PacketComes p) (unread_if number address (updater_step u.updater (PacketComes p) u.moment).handled) (nothing_of IsUnanswered (updater_step u.updater (PacketComes p) u.moment).sent (answers.updaters u.updater p u.moment))
  given_grows m number address p None None (Some d) = distributor_happens IsUnanswered m address d (PacketComes p) (unread_if number address (dist_step address d.state (PacketComes p) d.moment).handled) (answers.distributors address d.state p d.moment)
  given_grows m number address p None None None = tt

  pub packet_grows : (m : Mesh) (number address : ℕ) (p : Packet) → slice_get m.nodes.bag number ≡ Some p → AllGrow IsUnanswered m (given m number address)
  packet_grows m number address p e = rw e (given_grows m number address p (node_at m address) (updater_at m address) (distributor_at m address))

-- on one that is unanswered nothing is sent
abbrev pub Never : Packet → Type 0
Never p = ⊥

given_still : (m : Mesh) (number address : ℕ) (p : Packet) → IsUnanswered p → (n : Option Member) (u : Option UpdaterMember) (d : Option DistributorMember) → AllGrow Never m (given_by m number address p n u d)
given_still m number address p h (Some n) u d = node_happens Never m address n (PacketComes p) (unread number address n p) (nothing_of Never (node_step (config_of address n) n.state (PacketComes p) n.moment).sent (h.by_node (config_of address n) n.state n.moment))
given_still m number address p h None (Some u) d = one_happens Never m address u (PacketComes p) (unread_if number address (updater_step u.updater (PacketComes p) u.moment).handled) (nothing_of Never (updater_step u.updater (PacketComes p) u.moment).sent (h.by_updater u.updater u.moment))
given_still m number address p h None None (Some d) = distributor_happens Never m address d (PacketComes p) (unread_if number address (dist_step address d.state (PacketComes p) d.moment).handled) (nothing_of Never (dist_step address d.state (PacketComes p) d.moment).sent (h.by_distributor address d.state d.moment))
given_still m number address p h None None None = tt

pub packet_still : (m : Mesh) (number address : ℕ) (p : Packet) → slice_get m.nodes.bag number ≡ Some p → IsUnanswered p → AllGrow Never m (given m number address)
packet_still m number address p e h = rw e (given_still m number address p h (node_at m address) (updater_at m address) (distributor_at m address))
