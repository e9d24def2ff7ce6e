-- The members of each world of a script are sound, and what comes to them is in the ranges of the grammar.
use Rattle.std.proofs.Common.{◌≡◌, ℕ, zero, suc, List, [], ◌∷◌, refl, sym, subst, Some, ◌⊎◌, inl, inr, slice_get}
use Rattle.std.specs.Prelude.{slice_index_or}
use Rattle.std.specs.List.{AllByRecursion}
use Rattle.mu_model_wire.specs.Packet.{Packet}
use Rattle.mu_model_node.specs.declared.NodeConfig.{NodeConfig}
use Rattle.mu_model_node.specs.Events.{NodeEvent, node_step, node_work}
use Rattle.mu_model_node.specs.Laws.{EventFits, EventsKeepStatesSound, BootsAreSound, WorkLeavesOldOrNew}
use Rattle.mu_model_node.specs.NodeState.{NodeDurable, NodeState, restarted}
use Rattle.mu_model_node.specs.Safe.{Happening, Done, CutPower, Torn, left_after, state_after}
use Rattle.mu_model_node.specs.Sound.{IsNodeDurable, IsNodeState}
use Rattle.mu_model_distributor.specs.Runs.{state_after as dist_state_after}
use Rattle.mu_model_distributor.specs.Sound.{IsDistState}
use Rattle.mu_model_distributor_laws.specs.RunLaws.{RunsAreInOrder}
use Rattle.mu_model_offers.specs.Laws.{begin_of}
use Rattle.mu_model_packets.specs.Laws.{PacketFits}
use Rattle.mu_model_told.specs.Reached.{HappeningFits}
use Rattle.mu_model_world.specs.World.{Member, config_of}
use Rattle.mu_model_mesh.specs.Mesh.{DistributorMember, Mesh, node_at, distributor_at}
use Rattle.mu_model_mesh_safety.specs.Runs.{NodeRun, DistributorRun, IsOfRuns}
use Rattle.mu_model_mesh_fixed.proofs.Lists.{of_all, contains_at}

pub record SoundLaws : Type 0 where
  pub events : EventsKeepStatesSound
  pub boots : BootsAreSound
  pub leaves : WorkLeavesOldOrNew
  pub order : RunsAreInOrder

pub record Good (m : Mesh) : Type 0 where
  pub nodes : (address : ℕ) (n : Member) → node_at m address ≡ Some n → IsNodeState n.state
  pub distributors : (address : ℕ) (d : DistributorMember) → distributor_at m address ≡ Some d → IsDistState d.state
  pub packets : (number : ℕ) (p : Packet) → slice_get m.nodes.bag number ≡ Some p → PacketFits p

-- ---- nodes

one_left : (xs : List NodeDurable) (k : ℕ) (d old new : NodeDurable) → AllByRecursion (λ (x : NodeDurable). (x ≡ old) ⊎ (x ≡ new)) xs → IsNodeDurable old → IsNodeDurable new → IsNodeDurable d → IsNodeDurable (slice_index_or xs k d)
one_left [] k d old new all h g f = f
one_left (x ∷ xs) zero d old new all h g f = elim all.0 as (λ _. IsNodeDurable x) [ inl e ↦ subst IsNodeDurable (sym e) h | inr e ↦ subst IsNodeDurable (sym e) g ]
one_left (x ∷ xs) (suc k) d old new all h g f = one_left xs k d old new all.1 h g f

module _ (laws : SoundLaws) where
  torn_sound : (config : NodeConfig) (s : NodeState) (event : NodeEvent) (now operations : ℕ) → EventFits event → IsNodeState s → IsNodeState (restarted (left_after config s event now operations))
  torn_sound config s event now operations fits h =
      let next = laws.events config s event now fits h in
      laws.boots (left_after config s event now operations)
      (one_left (s.durable ∷ node_work config s event now) operations s.durable s.durable (node_step config s event now).next.durable (inl refl, laws.leaves config s event now) h.durable next.durable h.durable)

  runs_sound : (config : NodeConfig) (s : NodeState) (hs : List Happening) → AllByRecursion HappeningFits hs → IsNodeState s → IsNodeState (state_after config s hs)
  runs_sound config s [] fits h = h
  runs_sound config s (Done event now ∷ hs) fits h = runs_sound config (node_step config s event now).next hs fits.1 (laws.events config s event now fits.0.0 h)
  runs_sound config s (CutPower ∷ hs) fits h = runs_sound config (restarted s.durable) hs fits.1 (laws.boots s.durable h.durable)
  runs_sound config s (Torn event now operations ∷ hs) fits h =
      runs_sound config (restarted (left_after config s event now operations)) hs fits.1 (torn_sound config s event now operations fits.0.0 h)

  node_sound : (bag : List Packet) (address : ℕ) (n : Member) → NodeRun bag address n → IsNodeState n.state
  node_sound bag address n r = subst IsNodeState (sym r.state) (runs_sound (config_of address n) (restarted r.made) r.hs r.fits (laws.boots r.made r.sound))

  dist_sound : (bag : List Packet) (address : ℕ) (d : DistributorMember) → DistributorRun bag address d → IsDistState d.state
  dist_sound bag address d r =
      let sound = (laws.order r.run.address r.run.durable r.run.fresh r.run.happenings r.is.durable r.is.fresh r.is.happenings).sound in
      subst IsDistState (sym r.state) (subst (λ a. IsDistState (dist_state_after a (begin_of r.run) r.run.happenings)) r.own sound)

  pub good : (m : Mesh) → IsOfRuns m → Good m
  good m r = record {
    nodes = λ address n at. node_sound m.nodes.bag address n (r.nodes address n at);
    distributors = λ address d at. dist_sound m.nodes.bag address d (r.distributors address d at);
    packets = λ number p at. of_all PacketFits m.nodes.bag p r.packets (contains_at m.nodes.bag number p at);
  }
