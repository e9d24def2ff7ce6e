-- Each world of each script, and each within a line.
use Rattle.std.proofs.Common.{refl}
use Rattle.mu_model_image.specs.Laws.{ImagesFit, ImagesHaveMetadata, MadeImageHasItsSize}
use Rattle.mu_model_node.specs.Events.{NodeEvent, PacketComes, TimeComes}
use Rattle.mu_model_distributor_laws.specs.Starts.{NewIsUnused, StockedIsUnused}
use Rattle.mu_model_distributor_laws.specs.Planned.{CountersRise}
use Rattle.mu_model_distributor_laws.specs.RunLaws.{NoNumberIsLost}
use Rattle.mu_model_fates.specs.Laws.{JobIsLogged, JobGoesOn}
use Rattle.mu_model_fates.specs.Moments.{MomentsAreTheGreatest}
use Rattle.mu_model_offers.specs.Packets.{PacketsSayStarts}
use Rattle.mu_model_packets.specs.Laws.{PacketFits, OctetsSayFit, NodesSendFit, UpdatersSendFit, DistributorsSendFit}
use Rattle.mu_model_script.specs.Laws.{ScriptEventIsInRange}
use Rattle.mu_model_told.specs.Reached.{SentIsReached}
use Rattle.mu_model_updater.specs.Laws.{LinesAreInRange, SendsFromItsAddress}
use Rattle.mu_model_updater.specs.Updater.{come_by as event_packets}
use Rattle.mu_model_mesh.specs.Mesh.{Mesh, new_mesh}
use Rattle.mu_model_mesh.specs.MeshOutcomes.{mesh_begun}
use Rattle.mu_model_mesh_safety.specs.Laws.{Always, MayCome, AfterCuts, EveryWorldIsOfRuns, EveryWorldIsSafe, EveryCutIsSafe, EveryListIsTrue, ListsStayTrue, EveryFactHolds, FactsStay}
use Rattle.mu_model_mesh_safety.specs.Safe.{IsSafe, ListsAreTrue}
use Rattle.mu_model_mesh_safety.specs.Facts.{TransfersAreKept, FactsHold}
use Rattle.mu_model_mesh_safety.specs.Runs.{AreIn, IsOfRuns}
use Rattle.mu_model_mesh_safety.proofs.Deeds.{Deed}
use Rattle.mu_model_mesh_safety.proofs.Doing.{always_keeps}
use Rattle.mu_model_mesh_safety.proofs.DoingEvents.{begins, deed_of_node_cut, deed_of_dist_cut}
use Rattle.mu_model_mesh_safety.proofs.Facts.{statuses_are_reached, versions_rise, shown_images_were_had, jobs_are_logged, jobs_were_offered, verified_jobs_go_on}
use Rattle.mu_model_mesh_safety.proofs.KeepingLists.{weaker}
use Rattle.mu_model_mesh_safety.proofs.Keeping.{kept_new, deed_keeps}
use Rattle.mu_model_mesh_safety.proofs.Kept.{IsPacket, Kept}
use Rattle.mu_model_mesh_safety.proofs.ShownAir.{starts_are_own, starts_are_of_one_offer, counters_are_ahead}
use Rattle.mu_model_mesh_safety.proofs.Transfers.{TransferLaws, transfers_new, transfers_keep}
use Rattle.mu_model_mesh_safety.proofs.ShownLists.{lists_new, lists_keep}
use Rattle.mu_model_mesh_safety.proofs.ShownLaws.{MemberLaws}
use Rattle.mu_model_mesh_safety.proofs.ShownSafe.{safe}

-- what else the runs of worlds rest on
pub record LineLaws : Type 0 where
  pub fit : ImagesFit
  pub metadata : ImagesHaveMetadata
  pub made : MadeImageHasItsSize
  pub lines : LinesAreInRange
  pub range : ScriptEventIsInRange
  pub octets : OctetsSayFit
  pub greatest : MomentsAreTheGreatest
  pub nodes : NodesSendFit
  pub updaters : UpdatersSendFit
  pub distributors : DistributorsSendFit
  pub packets : PacketsSayStarts
  pub from : SendsFromItsAddress
  pub unused : NewIsUnused
  pub stocked : StockedIsUnused

-- and the facts on the air and in the logs
pub record FactLaws : Type 0 where
  pub sent : SentIsReached
  pub lost : NoNumberIsLost
  pub rise : CountersRise
  pub jobs : JobIsLogged
  pub on : JobGoesOn

packets_come : (m : Mesh) (event : NodeEvent) → MayCome m event → AreIn m.nodes.bag (event_packets event)
packets_come m (PacketComes packet) h = (h, tt)
packets_come m TimeComes h = tt

-- the invariant says of each member that it went through a run
of_runs : (m : Mesh) → Kept m → IsOfRuns m
of_runs m k = record {
  nodes = λ address n at. (k.nodes address n at).0;
  updaters = k.updaters;
  distributors = k.distributors;
  packets = weaker (IsPacket m) PacketFits m.nodes.bag (λ p is. is.fits) k.packets;
  apart = k.apart;
}

module _ (laws : LineLaws) where
  pub keeps : (m next : Mesh) → Kept m → Deed m next → Kept next
  keeps m next kept deed = deed_keeps laws.octets laws.greatest laws.nodes laws.updaters laws.distributors laws.packets laws.from laws.unused laws.stocked m next deed kept

  pub always : (P : Mesh → Type 0) → ((m next : Mesh) → P m → Deed m next → P next) → P new_mesh → Always P
  always P keep start = always_keeps P keep laws.fit laws.metadata laws.made laws.lines laws.range start

  pub always_kept : Always Kept
  always_kept = always Kept keeps kept_new

  pub every_run : EveryWorldIsOfRuns
  every_run lines text m mid run within = of_runs mid (always_kept lines text m mid run within)

  -- what follows from the invariant holds after each cut too
  pub after_cuts : (Holds : Mesh → Type 0) → ((m : Mesh) → Kept m → Holds m) → (m : Mesh) → Kept m → AfterCuts Holds (mesh_begun m)
  after_cuts Holds follows m kept =
      let begun : Kept (mesh_begun m) = keeps m (mesh_begun m) kept (begins m) in
      record {
        nodes = λ address n event now operations at comes.
            follows _ (keeps (mesh_begun m) _ begun (deed_of_node_cut (mesh_begun m) refl address n event now operations at (packets_come (mesh_begun m) event comes)));
        distributors = λ address d event now operations at comes.
            follows _ (keeps (mesh_begun m) _ begun (deed_of_dist_cut (mesh_begun m) refl address d event now operations at (packets_come (mesh_begun m) event comes)));
      }

  module _ (members : MemberLaws) where
    pub every_world : EveryWorldIsSafe
    every_world lines text m mid run within = safe members mid (always_kept lines text m mid run within)

    pub every_cut : EveryCutIsSafe
    every_cut lines text m mid run within = after_cuts IsSafe (safe members) mid (always_kept lines text m mid run within)

    -- ---- lists

    abbrev WithLists : Mesh → Type 0
    WithLists m = Kept m × ListsAreTrue m

    lists_kept : (m next : Mesh) → WithLists m → Deed m next → WithLists next
    lists_kept m next (kept, lists) deed = (keeps m next kept deed, lists_keep members m kept next deed lists)

    always_true : Always WithLists
    always_true = always WithLists lists_kept (kept_new, lists_new)

    pub every_list : EveryListIsTrue
    every_list lines text m mid run within = (always_true lines text m mid run within).1

    pub every_list_stays : ListsStayTrue
    every_list_stays lines text m mid run within =
        let now = always_true lines text m mid run within in
        let begun : WithLists (mesh_begun mid) = lists_kept mid (mesh_begun mid) now (begins mid) in
        record {
          nodes = λ address n event time operations at comes.
              (lists_kept (mesh_begun mid) _ begun (deed_of_node_cut (mesh_begun mid) refl address n event time operations at (packets_come (mesh_begun mid) event comes))).1;
          distributors = λ address d event time operations at comes.
              (lists_kept (mesh_begun mid) _ begun (deed_of_dist_cut (mesh_begun mid) refl address d event time operations at (packets_come (mesh_begun mid) event comes))).1;
        }

    -- ---- facts

    abbrev WithTransfers : Mesh → Type 0
    WithTransfers m = Kept m × TransfersAreKept m

    transfers : FactLaws → TransferLaws
    transfers facts = record { packets = laws.packets; from = laws.from; stay = members.stay; order = members.order }

    transfers_kept : FactLaws → (m next : Mesh) → WithTransfers m → Deed m next → WithTransfers next
    transfers_kept facts m next (kept, own) deed =
        let after = keeps m next kept deed in
        (after, transfers_keep (transfers facts) m next deed kept after own)

    facts : FactLaws → (m : Mesh) → WithTransfers m → FactsHold m
    facts laws m (kept, own) = record {
      statuses = statuses_are_reached laws.sent m kept;
      own = starts_are_own members m kept;
      offers = starts_are_of_one_offer members m kept;
      counters = counters_are_ahead members m kept laws.lost laws.rise;
      versions = versions_rise members.rise m kept;
      images = shown_images_were_had laws.sent m kept;
      logged = jobs_are_logged laws.jobs m kept;
      jobs = jobs_were_offered members.came m kept;
      go_on = verified_jobs_go_on laws.on m;
      transfers = own;
    }

    pub every_fact : FactLaws → EveryFactHolds
    every_fact facts_laws lines text m mid run within = facts facts_laws mid (always WithTransfers (transfers_kept facts_laws) (kept_new, transfers_new) lines text m mid run within)

    pub every_fact_stays : FactLaws → FactsStay
    every_fact_stays facts_laws lines text m mid run within =
        let now = always WithTransfers (transfers_kept facts_laws) (kept_new, transfers_new) lines text m mid run within in
        let begun : WithTransfers (mesh_begun mid) = transfers_kept facts_laws mid (mesh_begun mid) now (begins mid) in
        record {
          nodes = λ address n event time operations at comes.
              facts facts_laws _ (transfers_kept facts_laws (mesh_begun mid) _ begun (deed_of_node_cut (mesh_begun mid) refl address n event time operations at (packets_come (mesh_begun mid) event comes)));
          distributors = λ address d event time operations at comes.
              facts facts_laws _ (transfers_kept facts_laws (mesh_begun mid) _ begun (deed_of_dist_cut (mesh_begun mid) refl address d event time operations at (packets_come (mesh_begun mid) event comes)));
        }
