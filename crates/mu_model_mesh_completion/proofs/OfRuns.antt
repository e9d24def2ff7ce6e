-- A world whose members have each gone through a run of their own is as the laws on `settle` ask, and so is each world of each script.
use Rattle.std.proofs.Common.{◌≡◌, ◌<◌, ℕ, zero, suc, nat_eq, Bool, true, false, List, [], ◌∷◌, refl, sym, ap, subst, ◌∙◌, cond, arith, Option, Some, None, inl}
use Rattle.std.specs.Prelude.{◌||◌, ◌==◌, Contains}
use Rattle.std.specs.List.{AllByRecursion, list_any}
use Rattle.std.proofs.lemmas.Bool.{eq-eqb}
use Rattle.mu_model_wire.specs.Packet.{Packet}
use Rattle.mu_model_node.specs.Events.{NodeEvent, PacketComes, TimeComes}
use Rattle.mu_model_client.specs.declared.Sending.{Sending}
use Rattle.mu_model_client.specs.Answers.{Answer, answer_at}
use Rattle.mu_model_client.specs.Packets.{answer_handled}
use Rattle.mu_model_client_laws.specs.Laws.{PlansStay}
use Rattle.mu_model_fates.specs.Laws.{come_in}
use Rattle.mu_model_updater.specs.Updater.{Updater, new_updater, updater_step, updater_after}
use Rattle.mu_model_world.specs.World.{Member, config_of}
use Rattle.mu_model_mesh.specs.Mesh.{UpdaterMember, Mesh, is_member}
use Rattle.mu_model_packets.specs.Laws.{PacketFits}
use Rattle.mu_model_mesh_safety.specs.Laws.{EveryWorldIsOfRuns}
use Rattle.mu_model_mesh_safety.specs.Runs.{AreIn, NodeRun, UpdaterRun, IsOfRuns}
use Rattle.mu_model_completion.specs.Completion.{NoneTwice}
use Rattle.mu_model_mesh_completion.specs.Laws.{WorldsOfScripts}
use Rattle.mu_model_mesh_completion.specs.Settled.{IsNode, IsWorld}
use Rattle.mu_model_mesh_completion.proofs.Nodes.{NodeFits}
use Rattle.mu_model_mesh_completion.proofs.Happened.{RunLaws, BagReads, run_fits, has_numbers, has_messages}

pub record WorldLaws : Type 0 where
  pub runs : RunLaws
  pub plans : PlansStay

-- ---- what comes is of the bag

in_bag : (bag : List Packet) (p : Packet) → AllByRecursion PacketFits bag → Contains bag p → PacketFits p
in_bag [] p all at =
    let none : at.0 < 0 = at.1 in
    absurd (omega (arith, none))
in_bag (x ∷ bag) p all (zero, within, is) = subst PacketFits is all.0
in_bag (x ∷ bag) p all (suc k, within, is) = in_bag bag p all.1 (k, omega (arith, within), is)

all_read : (bag packets : List Packet) → AllByRecursion PacketFits bag → AreIn bag packets → BagReads packets
all_read bag [] all h = tt
all_read bag (p ∷ packets) all h = ((in_bag bag p all h.0).asks, all_read bag packets all h.1)

-- ---- nodes

node_of : RunLaws → (bag : List Packet) (address : ℕ) (n : Member) → AllByRecursion PacketFits bag → address < 0x8000 → NodeRun bag address n → IsNode address n
node_of laws bag address n fits unicast r =
    let fit : NodeFits n.state = subst NodeFits (sym r.state) (run_fits laws (config_of address n) r.made r.hs r.sound r.jobless (all_read bag (come_in r.hs) fits r.come)) in
    record {
      state = fit.sound;
      numbers = has_numbers n.state.durable.job fit.ranges.job;
      messages = has_messages n.state.durable.job fit.ranges.job;
      last = fit.ranges.last;
      handed = r.handed;
      unicast = unicast;
      some_group = r.group;
    }

-- ---- updaters

answer_stays : PlansStay → (u : Updater) (from now : ℕ) (answer : Option Answer) → (answer_handled u.client from now answer).next.sending ≡ u.client.sending
answer_stays plans u from now None = refl
answer_stays plans u from now (Some answer) = (plans.tells u.client from answer now).sending

event_stays : PlansStay → (u : Updater) (event : NodeEvent) (now : ℕ) → (updater_step u event now).next.client.sending ≡ u.client.sending
event_stays plans u (PacketComes packet) now =
    elim (packet.to == u.client.sending.from)
    as (λ b. (cond b (answer_handled u.client packet.from now (answer_at packet.payload)) (answer_handled u.client packet.from now None)).next.sending ≡ u.client.sending) [
      | true ↦ answer_stays plans u packet.from now (answer_at packet.payload)
      | false ↦ refl
    ]
event_stays plans u TimeComes now = (plans.dues u.client u.image.octets now).sending

run_stays : PlansStay → (u : Updater) (run : List (NodeEvent × ℕ)) → (updater_after u run).client.sending ≡ u.client.sending
run_stays plans u [] = refl
run_stays plans u (e ∷ run) = run_stays plans (updater_step u e.0 e.1).next run ∙ event_stays plans u e.0 e.1

sends_from : PlansStay → (bag : List Packet) (address : ℕ) (u : UpdaterMember) → UpdaterRun bag address u → u.updater.client.sending.from ≡ address
sends_from plans bag address u r =
    let own : u.updater.client.sending ≡ r.plan.sending = ap (λ (x : Updater). x.client.sending) r.state ∙ run_stays plans (new_updater r.plan r.image r.to) r.run in
    ap (λ (s : Sending). s.from) own ∙ r.from

-- ---- the order

later : (x y : Bool) → y ≡ true → (x || y) ≡ true
later true y h = refl
later false y h = h

sooner : (x y : Bool) → x ≡ true → (x || y) ≡ true
sooner true y h = refl
sooner false y h = cc

each : (P : ℕ → Type 0) (addresses : List ℕ) → ((a : ℕ) → list_any (nat_eq a) addresses ≡ true → P a) → AllByRecursion P addresses
each P [] h = tt
each P (a ∷ addresses) h = (h a (sooner (nat_eq a a) (list_any (nat_eq a) addresses) (eq-eqb a a refl)), each P addresses (λ b k. h b (later (nat_eq b a) (list_any (nat_eq b) addresses) k)))

-- ---- worlds

world_of_runs : WorldLaws → (m : Mesh) → IsOfRuns m → IsWorld m
world_of_runs laws m r =
    let unicast : (a : ℕ) → is_member m a ≡ true → a < 0x8000 = λ a h. (let most = (r.apart.unicast a h).1 in omega (arith, most)) in
    record {
      nodes = λ a n e. node_of laws.runs m.nodes.bag a n r.packets (unicast a (r.apart.nodes a n e).0) (r.nodes a n e);
      updaters = λ a u e. (sends_from laws.plans m.nodes.bag a u (r.updaters a u e), (r.apart.updaters a u e).1);
      distributors = λ a d e. (unicast a (r.apart.distributors a d e).0, (r.apart.distributors a d e).1);
      once = r.apart.once;
      there = each _ m.order r.apart.some;
    }

pub worlds_of_scripts : WorldLaws → EveryWorldIsOfRuns → WorldsOfScripts
worlds_of_scripts laws every lines text m run = world_of_runs laws m (every lines text m m run (inl refl))
