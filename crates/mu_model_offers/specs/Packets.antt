-- What a node reads in a distributor's packets: its Update Starts are those that were sent, each at its destination.
use Rattle.std.specs.Prelude.{ℕ, ◌≡◌, ◌<◌, ◌^◌, List, [], ◌∷◌, ◌++◌, Some, Contains}
use Rattle.std.specs.List.{AllByRecursion}
use Rattle.mu_model_image.specs.Meta.{meta_octets}
use Rattle.mu_model_wire.specs.Packet.{Packet}
use Rattle.mu_model_node.specs.UpdateMessages.{UpdateStart, StartUpdate}
use Rattle.mu_model_node.specs.NodeMessages.{OfUpdate, request_at}
use Rattle.mu_model_node.specs.Events.{NodeEvent}
use Rattle.mu_model_node.specs.Safe.{Happening, Done}
use Rattle.mu_model_distributor.specs.DistState.{StoredImage, DistDurable, DistState, transfer_id}
use Rattle.mu_model_distributor.specs.DistEvents.{dist_step}
use Rattle.mu_model_distributor.specs.Runs.{happened}
use Rattle.mu_model_distributor_laws.specs.Laws.{EventFits}
use Rattle.mu_model_distributor_laws.specs.RunLaws.{IsInOrder}
use Rattle.mu_model_offers.specs.Laws.{Run, IsRun, begin_of, sent_of, HasStart}

-- the packets that are sent; what a torn event would have sent is lost
abbrev pub packets_by : ℕ → DistState → Happening → List Packet
packets_by address s (Done event now) = (dist_step address s event now).sent
packets_by address s _ = []

abbrev pub packets_in : ℕ → DistState → List Happening → List Packet
packets_in address s [] = []
packets_in address s (h ∷ hs) = packets_by address s h ++ packets_in address (happened address s h) hs

abbrev pub packets_of : Run → List Packet
packets_of r = packets_in r.address (begin_of r) r.happenings

-- a packet goes out from the distributor's address, and what a node reads in it as an Update Start was sent so to its destination
pub record IsPacketOf (r : Run) (p : Packet) : Type 0 where
  pub from : p.from ≡ r.address
  pub start : (u : UpdateStart) → request_at p.payload ≡ Some (OfUpdate (StartUpdate u)) → HasStart (sent_of r) p.to u

abbrev pub PacketsSayStarts : Type 0
PacketsSayStarts = (r : Run) → IsRun r → r.address < 2 ^ 16 → AllByRecursion (IsPacketOf r) (packets_of r)

-- ---- what is offered

-- it is of the present transfer, and its metadata are those of one of the images
pub record IsOfImage (address : ℕ) (d : DistDurable) (u : UpdateStart) : Type 0 where
  pub id : u.id ≡ transfer_id address d
  pub stored : StoredImage
  pub has : Contains d.images stored
  pub metadata : u.metadata ≡ meta_octets stored.image.meta

-- what a node reads as an Update Start in the packets of an event offers an image that the distributor has when the event comes
abbrev pub StartsAreOfImages : Type 0
StartsAreOfImages =
    (address : ℕ) (s : DistState) (event : NodeEvent) (now : ℕ) → address < 2 ^ 16 → IsInOrder address s → EventFits event
    → AllByRecursion (λ (p : Packet). (u : UpdateStart) → request_at p.payload ≡ Some (OfUpdate (StartUpdate u)) → IsOfImage address s.durable u) (dist_step address s event now).sent
