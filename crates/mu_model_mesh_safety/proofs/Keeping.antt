-- Every deed keeps the invariant.
use Rattle.std.proofs.Common.{refl}
use Rattle.mu_model_distributor_laws.specs.Starts.{NewIsUnused, StockedIsUnused}
use Rattle.mu_model_fates.specs.Moments.{MomentsAreTheGreatest}
use Rattle.mu_model_offers.specs.Packets.{PacketsSayStarts}
use Rattle.mu_model_packets.specs.Laws.{OctetsSayFit, NodesSendFit, UpdatersSendFit, DistributorsSendFit}
use Rattle.mu_model_updater.specs.Laws.{SendsFromItsAddress}
use Rattle.mu_model_mesh.specs.Mesh.{Mesh, new_mesh}
use Rattle.mu_model_mesh_safety.proofs.Deeds.{Deed, still, says, node_goes, updater_goes, distributor_goes, adds_node, adds_updater, adds_distributor, stocks}
use Rattle.mu_model_mesh_safety.proofs.Kept.{Kept}
use Rattle.mu_model_mesh_safety.proofs.KeepingGoes.{keeps_says, keeps_node, keeps_updater, keeps_distributor}
use Rattle.mu_model_mesh_safety.proofs.KeepingMembers.{keeps_still, keeps_new_node, keeps_new_updater, keeps_new_distributor, keeps_stocks}

pub kept_new : Kept new_mesh
kept_new = record {
  nodes = λ a n is. absurd cc;
  silent = λ a none. refl;
  updaters = λ a u is. absurd cc;
  distributors = λ a d is. absurd cc;
  packets = tt;
  apart = record {
    nodes = λ a n is. absurd cc;
    updaters = λ a u is. absurd cc;
    distributors = λ a d is. absurd cc;
    unicast = λ a is. absurd cc;
    some = λ a is. absurd cc;
    once = tt;
  };
  padded = refl;
  early = λ e. refl;
  unused = λ e a d is. absurd cc;
}

module _
    (octets : OctetsSayFit) (greatest : MomentsAreTheGreatest) (nodes_fit : NodesSendFit) (updaters_fit : UpdatersSendFit) (distributors_fit : DistributorsSendFit)
    (packets : PacketsSayStarts) (updaters_from : SendsFromItsAddress) (new_unused : NewIsUnused) (stocked_unused : StockedIsUnused)
  where
    pub deed_keeps : (m next : Mesh) → Deed m next → Kept m → Kept next
    deed_keeps m next (still d) k = keeps_still m next d k
    deed_keeps m next (says d) k = keeps_says octets m next d k
    deed_keeps m next (node_goes d) k = keeps_node greatest nodes_fit m next d k
    deed_keeps m next (updater_goes d) k = keeps_updater updaters_from updaters_fit m next d k
    deed_keeps m next (distributor_goes d) k = keeps_distributor packets distributors_fit m next d k
    deed_keeps m next (adds_node d) k = keeps_new_node m next d k
    deed_keeps m next (adds_updater d) k = keeps_new_updater m next d k
    deed_keeps m next (adds_distributor d) k = keeps_new_distributor new_unused m next d k
    deed_keeps m next (stocks d) k = keeps_stocks stocked_unused m next d k
