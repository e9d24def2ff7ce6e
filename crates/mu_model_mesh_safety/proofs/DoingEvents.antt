-- What time, a packet, a cut and a tear do in a world is a deed.
use Rattle.std.proofs.Common.{◌≡◌, ℕ, ◌-◌, ◌≤◌, arith, max, List, [], ◌∷◌, ◌++◌, length, Option, Some, None, true, false, cond, nat_eq, nat_le, refl, sym, ap, subst, ◌∙◌, inl, inr, slice_get, append-nil}
use Rattle.std.specs.List.{AllByRecursion}
use Rattle.std.specs.Map.{lookup}
use Rattle.mu_model_flash.specs.declared.Pattern.{Pattern}
use Rattle.mu_model_flash.specs.declared.Pattern.TheVariants.{Old as OldBits, New as NewBits, Made as MadeBits}
use Rattle.mu_model_wire.specs.Packet.{Packet}
use Rattle.mu_model_node.specs.Events.{NodeEvent, PacketComes, TimeComes, node_step, node_work, is_worn}
use Rattle.mu_model_node.specs.NodeState.{NodeDurable, restarted}
use Rattle.mu_model_node.specs.Safe.{Happening, Done, CutPower, Torn, left_after, happened}
use Rattle.mu_model_distributor.specs.DistEvents.{dist_step, dist_work, is_worn as dist_worn, restarted as dist_restarted}
use Rattle.mu_model_distributor.specs.DistState.{DistDurable}
use Rattle.mu_model_distributor.specs.Runs.{left_after as dist_left_after, happened as dist_happened}
use Rattle.mu_model_fates.specs.Laws.{come_by}
use Rattle.mu_model_offers.specs.Packets.{packets_by}
use Rattle.mu_model_told.specs.Reached.{sent_by}
use Rattle.mu_model_updater.specs.Updater.{updater_step, come_by as event_packets}
use Rattle.mu_model_world.specs.World.{Tear, Member, World, config_of}
use Rattle.mu_model_world.specs.Outcomes.{happens, happens_by, unread, torn, ran, booted, with_changed}
use Rattle.mu_model_mesh.specs.Mesh.{UpdaterMember, DistributorMember, Mesh, node_at, updater_at, distributor_at, with_nodes, with_distributor, without_transfer}
use Rattle.mu_model_mesh.specs.MeshOutcomes.{MeshOutcome, of_nodes, all_of_nodes, updater_ran, dist_ran, dist_booted, dist_torn, dist_happens_by, dist_happens, unread_if, given_by, given_packet, given, timed_by, time_comes, cut_by, armed_by, mesh_begun}
use Rattle.mu_model_mesh_safety.specs.Laws.{node_cut, dist_cut}
use Rattle.mu_model_mesh_safety.specs.Runs.{AreIn}
use Rattle.mu_model_mesh_safety.proofs.Deeds.{IsBy, MoreAir, IsStill, Deed, still, node_goes, updater_goes, distributor_goes}
use Rattle.mu_model_mesh_safety.proofs.DoingPlaces.{at_place, pads, pads_none, changed, changed_none}

-- each outcome is a deed of the world
abbrev pub AreDeeds : Mesh → List MeshOutcome → Type 0
AreDeeds m outs = AllByRecursion (λ (o : MeshOutcome). Deed m o.mesh) outs

-- ---- nothing changes but counts

le_self : (n : ℕ) → n ≤ n
le_self n = omega arith

pub is_still : (m next : Mesh) → next.updaters ≡ m.updaters → next.distributors ≡ m.distributors → next.transfers ≡ m.transfers → next.order ≡ m.order
    → next.nodes.members ≡ m.nodes.members → next.nodes.bag ≡ m.nodes.bag → next.nodes.log ≡ m.nodes.log → (next.nodes.begun ≡ false → m.nodes.begun ≡ false) → IsStill m next
is_still m next updaters distributors transfers order members bag log begun = record {
  updaters = record { updaters = updaters };
  air = record { bag = bag; transfers = transfers };
  order = order;
  log = log;
  begun = begun;
  nodes = λ address new is. (new, ap (λ es. lookup (nat_eq address) es) (sym members) ∙ is, refl, refl, refl, le_self new.moment);
  no_node = λ address is. ap (λ es. lookup (nat_eq address) es) (sym members) ∙ is;
  distributors = λ address new is. (new, ap (λ es. lookup (nat_eq address) es) (sym distributors) ∙ is, refl);
  no_distributor = λ address is. ap (λ es. lookup (nat_eq address) es) (sym distributors) ∙ is;
}

pub same : (m : Mesh) → Deed m m
same m = still (is_still m m refl refl refl refl refl refl refl (λ early. early))

-- a line that is no member line begins so
pub begins : (m : Mesh) → Deed m (mesh_begun m)
begins m = still (is_still m (mesh_begun m) refl refl refl refl refl refl refl (λ late. absurd cc))

-- a turn is counted
pub counts : (m : Mesh) (turns : ℕ) → Deed m (record m { turns = turns })
counts m turns = still (is_still m _ refl refl refl refl refl refl refl (λ early. early))

-- ---- what comes

come_done : (bag : List Packet) (event : NodeEvent) (now : ℕ) → AreIn bag (event_packets event) → AreIn bag (come_by (Done event now))
come_done bag (PacketComes packet) now come = come
come_done bag TimeComes now come = tt

come_torn : (bag : List Packet) (event : NodeEvent) (now operations : ℕ) → AreIn bag (event_packets event) → AreIn bag (come_by (Torn event now operations))
come_torn bag (PacketComes packet) now operations come = come
come_torn bag TimeComes now operations come = tt

-- ---- nodes

-- a node at another moment
abbrev node_then : ℕ → Member → Member
node_then now n = record n { moment = now }

silent_air : (m : Mesh) (nodes : World) → nodes.bag ≡ m.nodes.bag → MoreAir m (without_transfer m nodes) [] None
silent_air m nodes same =
    let none = ap (λ (bag : List Packet). length bag - length m.nodes.bag) same in
    record {
      bag = same ∙ sym (append-nil m.nodes.bag);
      transfers = rw none (ap (λ places. m.transfers ++ places) (pads_none (length m.nodes.bag)));
    }

module _ (m : Mesh) (begun : m.nodes.begun ≡ true) where
  module _ (address now : ℕ) (n : Member) (at : node_at m address ≡ Some n) (later : n.moment ≤ now) where
    node_boots : (h : Happening) (left : NodeDurable) → restarted left ≡ happened (config_of address n) n.state h → sent_by (config_of address n) n.state h ≡ [] → AreIn m.nodes.bag (come_by h) → IsBy now h
        → Deed m (of_nodes m (booted m.nodes address (node_then now n) left)).mesh
    node_boots h left next silent come by = node_goes (record {
      address = address;
      old = n;
      new = record n { moment = now; tear = None; state = restarted left };
      h = h;
      at = at;
      group = refl;
      first = refl;
      state = next;
      moment = later;
      by = by;
      come = come;
      members = refl;
      log = refl;
      air = subst (λ sent. MoreAir m (of_nodes m (booted m.nodes address (node_then now n) left)).mesh sent None) (sym silent) (silent_air m _ refl);
      updaters = record { updaters = refl };
      distributors = record { distributors = refl };
      on = record { order = refl; begun = begun };
    })

    module _ (event : NodeEvent) (come : AreIn m.nodes.bag (event_packets event)) where
      node_ran : (first : List ℕ) → Deed m (of_nodes m (ran m.nodes address (node_then now n) first (node_step (config_of address n) n.state event now))).mesh
      node_ran first = node_goes (record {
        address = address;
        old = n;
        new = record n { moment = now; state = (node_step (config_of address n) n.state event now).next };
        h = Done event now;
        at = at;
        group = refl;
        first = refl;
        state = refl;
        moment = later;
        by = le_self now;
        come = come_done m.nodes.bag event now come;
        members = refl;
        log = refl;
        air = record { bag = refl; transfers = ap (λ places. m.transfers ++ places) (pads m.nodes.bag (node_step (config_of address n) n.state event now).sent) };
        updaters = record { updaters = refl };
        distributors = record { distributors = refl };
        on = record { order = refl; begun = begun };
      })

      node_left : (operations : ℕ) → Deed m (of_nodes m (booted m.nodes address (node_then now n) (left_after (config_of address n) n.state event now operations))).mesh
      node_left operations = node_boots (Torn event now operations) _ refl refl (come_torn m.nodes.bag event now operations come) tt

      node_torn : (operation : ℕ) (pattern : Pattern) → AreDeeds m (all_of_nodes m (torn m.nodes address (node_then now n) event (record { operation = operation; pattern = pattern })))
      node_torn operation OldBits = (node_left _, tt)
      node_torn operation NewBits = (node_left _, tt)
      node_torn operation (MadeBits seed) = (node_left _, (node_left _, tt))

      node_happens_by : (first : List ℕ) (tear : Option Tear) → AreDeeds m (all_of_nodes m (happens_by m.nodes address (node_then now n) event first tear))
      node_happens_by first None = (node_ran first, tt)
      node_happens_by first (Some tear) =
          elim (nat_le tear.operation (length (node_work (config_of address n) n.state event now)))
          as (λ b. AreDeeds m (all_of_nodes m (cond b (torn m.nodes address (node_then now n) event tear) (ran m.nodes address (node_then now n) first (node_step (config_of address n) n.state event now) ∷ [])))) [
            | true ↦ node_torn tear.operation tear.pattern
            | false ↦ (node_ran first, tt)
          ]

      node_happens : (first : List ℕ) → AreDeeds m (all_of_nodes m (happens m.nodes address (node_then now n) event first))
      node_happens first =
          elim (is_worn (config_of address n) n.state event now) as (λ b. AreDeeds m (all_of_nodes m (cond b [] (happens_by m.nodes address (node_then now n) event first n.tear)))) [
            | true ↦ tt
            | false ↦ node_happens_by first n.tear
          ]

  -- ---- updaters

  updater_deed : (address now : ℕ) (u : UpdaterMember) (event : NodeEvent) (first : List ℕ) → updater_at m address ≡ Some u → AreIn m.nodes.bag (event_packets event)
      → Deed m (updater_ran m address (record u { moment = now }) first (updater_step u.updater event now)).mesh
  updater_deed address now u event first at come = updater_goes (record {
    address = address;
    old = u;
    new = record { moment = now; updater = (updater_step u.updater event now).next };
    event = event;
    now = now;
    at = at;
    state = refl;
    come = come;
    updaters = refl;
    air = record { bag = refl; transfers = refl };
    nodes = record { members = refl; log = refl };
    distributors = record { distributors = refl };
    on = record { order = refl; begun = begun };
  })

  -- ---- distributors

  module _ (address now : ℕ) (d : DistributorMember) (at : distributor_at m address ≡ Some d) where
    abbrev dist_then : DistributorMember
    dist_then = record d { moment = now }

    dist_boots : (h : Happening) (left : DistDurable) → dist_restarted address left ≡ dist_happened address d.state h → packets_by address d.state h ≡ [] → AreIn m.nodes.bag (come_by h)
        → Deed m (dist_booted m address dist_then left).mesh
    dist_boots h left next silent come = distributor_goes (record {
      address = address;
      old = d;
      new = record { moment = now; tear = None; state = dist_restarted address left };
      h = h;
      at = at;
      state = next;
      come = come;
      distributors = refl;
      air = rw silent (record { bag = sym (append-nil m.nodes.bag); transfers = sym (append-nil m.transfers) });
      nodes = record { members = refl; log = refl };
      updaters = record { updaters = refl };
      on = record { order = refl; begun = begun };
    })

    module _ (event : NodeEvent) (come : AreIn m.nodes.bag (event_packets event)) where
      dist_went : (first : List ℕ) → Deed m (dist_ran m address dist_then first (dist_step address d.state event now)).mesh
      dist_went first = distributor_goes (record {
        address = address;
        old = d;
        new = record d { moment = now; state = (dist_step address d.state event now).next };
        h = Done event now;
        at = at;
        state = refl;
        come = come_done m.nodes.bag event now come;
        distributors = refl;
        air = record { bag = refl; transfers = refl };
        nodes = record { members = refl; log = refl };
        updaters = record { updaters = refl };
        on = record { order = refl; begun = begun };
      })

      dist_left : (operations : ℕ) → Deed m (dist_booted m address dist_then (dist_left_after address d.state event now operations)).mesh
      dist_left operations = dist_boots (Torn event now operations) _ refl refl (come_torn m.nodes.bag event now operations come)

      dist_tears : (operation : ℕ) (pattern : Pattern) → AreDeeds m (dist_torn m address dist_then event (record { operation = operation; pattern = pattern }))
      dist_tears operation OldBits = (dist_left _, tt)
      dist_tears operation NewBits = (dist_left _, tt)
      dist_tears operation (MadeBits seed) = (dist_left _, (dist_left _, tt))

      dist_deeds_by : (first : List ℕ) (tear : Option Tear) → AreDeeds m (dist_happens_by m address dist_then event first tear)
      dist_deeds_by first None = (dist_went first, tt)
      dist_deeds_by first (Some tear) =
          elim (nat_le tear.operation (length (dist_work address d.state event now)))
          as (λ b. AreDeeds m (cond b (dist_torn m address dist_then event tear) (dist_ran m address dist_then first (dist_step address d.state event now) ∷ []))) [
            | true ↦ dist_tears tear.operation tear.pattern
            | false ↦ (dist_went first, tt)
          ]

      dist_deeds : (first : List ℕ) → AreDeeds m (dist_happens m address dist_then event first)
      dist_deeds first =
          elim (dist_worn address d.state event now) as (λ b. AreDeeds m (cond b [] (dist_happens_by m address dist_then event first d.tear))) [
            | true ↦ tt
            | false ↦ dist_deeds_by first d.tear
          ]

  -- ---- packets

  given_deeds : (number address : ℕ) (packet : Packet) (n : Option Member) (u : Option UpdaterMember) (d : Option DistributorMember) → slice_get m.nodes.bag number ≡ Some packet
      → node_at m address ≡ n → updater_at m address ≡ u → distributor_at m address ≡ d → AreDeeds m (given_by m number address packet n u d)
  given_deeds number address packet (Some n) u d is node updater distributor = node_happens address n.moment n node (le_self n.moment) (PacketComes packet) (at_place m.nodes.bag number packet is, tt) (unread number address n packet)
  given_deeds number address packet None (Some u) d is node updater distributor = (updater_deed address u.moment u (PacketComes packet) (unread_if number address (updater_step u.updater (PacketComes packet) u.moment).handled) updater (at_place m.nodes.bag number packet is, tt), tt)
  given_deeds number address packet None None (Some d) is node updater distributor =
      dist_deeds address d.moment d distributor (PacketComes packet) (at_place m.nodes.bag number packet is, tt)
      (unread_if number address (dist_step address d.state (PacketComes packet) d.moment).handled)
  given_deeds number address packet None None None is node updater distributor = tt

  packet_deeds : (number address : ℕ) (packet : Option Packet) → slice_get m.nodes.bag number ≡ packet → AreDeeds m (given_packet m number address packet)
  packet_deeds number address None is = tt
  packet_deeds number address (Some packet) is = given_deeds number address packet _ _ _ is refl refl refl

  pub deeds_of_packet : (number address : ℕ) → AreDeeds m (given m number address)
  deeds_of_packet number address = packet_deeds number address _ refl

  -- ---- time

  timed_deeds : (address ms : ℕ) (n : Option Member) (u : Option UpdaterMember) (d : Option DistributorMember) → node_at m address ≡ n → updater_at m address ≡ u → distributor_at m address ≡ d
      → AreDeeds m (timed_by m address ms n u d)
  timed_deeds address ms (Some n) u d node updater distributor = node_happens address (max n.moment ms) n node (omega arith) TimeComes tt []
  timed_deeds address ms None (Some u) d node updater distributor = (updater_deed address (max u.moment ms) u TimeComes [] updater tt, tt)
  timed_deeds address ms None None (Some d) node updater distributor = dist_deeds address (max d.moment ms) d distributor TimeComes tt []
  timed_deeds address ms None None None node updater distributor = tt

  pub deeds_of_time : (address ms : ℕ) → AreDeeds m (time_comes m address ms)
  deeds_of_time address ms = timed_deeds address ms _ _ _ refl refl refl

  -- ---- power

  pub deeds_of_cut : (address : ℕ) (n : Option Member) (d : Option DistributorMember) → node_at m address ≡ n → distributor_at m address ≡ d → AreDeeds m (cut_by m address n d)
  deeds_of_cut address (Some n) d node distributor = (node_boots address n.moment n node (le_self n.moment) CutPower n.state.durable refl refl tt tt, tt)
  deeds_of_cut address None (Some d) node distributor = (dist_boots address d.moment d distributor CutPower d.state.durable refl refl tt, tt)
  deeds_of_cut address None None node distributor = tt

  -- the power goes anywhere in an event
  pub deed_of_node_cut : (address : ℕ) (n : Member) (event : NodeEvent) (now operations : ℕ) → node_at m address ≡ Some n → AreIn m.nodes.bag (event_packets event)
      → Deed m (node_cut m address n event now operations)
  deed_of_node_cut address n event now operations at come =
      node_boots address n.moment n at (le_self n.moment) (Torn event now operations) _ refl refl (come_torn m.nodes.bag event now operations come) tt

  pub deed_of_dist_cut : (address : ℕ) (d : DistributorMember) (event : NodeEvent) (now operations : ℕ) → distributor_at m address ≡ Some d → AreIn m.nodes.bag (event_packets event)
      → Deed m (dist_cut m address d event now operations)
  deed_of_dist_cut address d event now operations at come =
      dist_boots address d.moment d at (Torn event now operations) _ refl refl (come_torn m.nodes.bag event now operations come)

armed_node : (m : Mesh) (address : ℕ) (n : Member) (tear : Option Tear) → node_at m address ≡ Some n → IsStill m (with_nodes m (with_changed m.nodes address (record n { tear = tear })))
armed_node m address n tear at = record {
  updaters = record { updaters = refl };
  air = record { bag = refl; transfers = refl };
  order = refl;
  log = refl;
  begun = λ early. early;
  nodes = λ b new is.
      elim (changed m.nodes.members address b (record n { tear = tear }) new is) [
        | inl here ↦ (n, subst (λ x. node_at m x ≡ Some n) (sym here.0) at, ap (λ (x : Member). x.group) here.1, ap (λ (x : Member). x.first) here.1, ap (λ (x : Member). x.state) here.1, subst (λ (x : Member). n.moment ≤ x.moment) (sym here.1) (le_self n.moment))
        | inr there ↦ (new, there, refl, refl, refl, le_self new.moment)
      ];
  no_node = λ b is. changed_none m.nodes.members address b (record n { tear = tear }) is;
  distributors = λ b new is. (new, is, refl);
  no_distributor = λ b is. is;
}

armed_distributor : (m : Mesh) (address : ℕ) (d : DistributorMember) (tear : Option Tear) → distributor_at m address ≡ Some d → IsStill m (with_distributor m address (record d { tear = tear }))
armed_distributor m address d tear at = record {
  updaters = record { updaters = refl };
  air = record { bag = refl; transfers = refl };
  order = refl;
  log = refl;
  begun = λ early. early;
  nodes = λ b new is. (new, is, refl, refl, refl, le_self new.moment);
  no_node = λ b is. is;
  distributors = λ b new is.
      elim (changed m.distributors address b (record d { tear = tear }) new is) [
        | inl here ↦ (d, subst (λ x. distributor_at m x ≡ Some d) (sym here.0) at, ap (λ (x : DistributorMember). x.state) here.1)
        | inr there ↦ (new, there, refl)
      ];
  no_distributor = λ b is. changed_none m.distributors address b (record d { tear = tear }) is;
}

pub deeds_of_tear : (m : Mesh) (address : ℕ) (tear : Tear) (n : Option Member) (d : Option DistributorMember) → node_at m address ≡ n → distributor_at m address ≡ d → AreDeeds m (armed_by m address tear n d)
deeds_of_tear m address tear (Some n) d node distributor = (still (armed_node m address n (Some tear) node), tt)
deeds_of_tear m address tear None (Some d) node distributor = (still (armed_distributor m address d (Some tear) distributor), tt)
deeds_of_tear m address tear None None node distributor = tt
