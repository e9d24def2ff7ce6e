-- The laws of members that the safety of what is shown rests on.
use Rattle.mu_model_wire.specs.Opcodes.{TwoOctetsAreKept}
use Rattle.mu_model_image.specs.Laws.{MetaIsReadBack, FirmwareIdsDiffer}
use Rattle.mu_model_node.specs.Safe.{OneNodeIsSafe}
use Rattle.mu_model_client_laws.specs.Laws.{PlansStay}
use Rattle.mu_model_distributor_laws.specs.RowsTold.{OffersStand}
use Rattle.mu_model_distributor_laws.specs.RunLaws.{RunsAreInOrder}
use Rattle.mu_model_fates.specs.Laws.{ReachedWasTaken, AskedBefore, VersionsRise, ShownSinceTaken, VerifiedIsHeld, TookWasOffered}
use Rattle.mu_model_listed.specs.Laws.{RowsAreReached, NewListsAreTrue}
use Rattle.mu_model_offers.specs.Laws.{StartsAgree, HeardAgrees, RowsAgree, ListsAgree, StartsAreOwn, HeardIsOwn}
use Rattle.mu_model_offers.specs.Packets.{PacketsSayStarts}
use Rattle.mu_model_packets.specs.Laws.{NodesSendFit}
use Rattle.mu_model_updater.specs.Laws.{RowsAreOfReceivers, ReadStartsAreOffered, NothingElse}
use Rattle.mu_model_updater_reached.specs.Laws.{NewRowsAreTrue}
use Rattle.mu_model_mesh_safety.proofs.ShownOctets.{OctetsOfferInRange}

pub record MemberLaws : Type 0 where
  -- metadata
  pub again : MetaIsReadBack
  pub ids : FirmwareIdsDiffer
  pub octets : OctetsOfferInRange
  -- a node
  pub one : OneNodeIsSafe
  pub fit : NodesSendFit
  pub taken : ReachedWasTaken
  pub asked : AskedBefore
  pub rise : VersionsRise
  pub since : ShownSinceTaken
  pub held : VerifiedIsHeld
  pub came : TookWasOffered
  -- an updater
  pub read : ReadStartsAreOffered
  pub receivers : RowsAreOfReceivers
  pub nothing : NothingElse
  pub stay : PlansStay
  -- a distributor
  pub say : PacketsSayStarts
  pub own : StartsAreOwn
  pub starts : StartsAgree
  pub heard : HeardAgrees
  pub heard_own : HeardIsOwn
  pub rows : RowsAgree
  pub lists : ListsAgree
  pub order : RunsAreInOrder
  pub stand : OffersStand
  pub two : TwoOctetsAreKept
  -- a node and another member
  pub row_reached : RowsAreReached
  pub list_true : NewListsAreTrue
  pub row_true : NewRowsAreTrue
