-- What members of a script send is in the ranges that every member expects, so that the laws of each hold with the packets of the others.
use Rattle.std.specs.Prelude.{ℕ, ◌≡◌, List, None, Some}
use Rattle.std.specs.List.{AllByRecursion}
use Rattle.mu_model_image.specs.Meta.{Image}
use Rattle.mu_model_wire.specs.Laws.{AreOctets}
use Rattle.mu_model_wire.specs.Packet.{Packet}
use Rattle.mu_model_node.specs.declared.NodeConfig.{NodeConfig}
use Rattle.mu_model_node.specs.Events.{NodeEvent, PacketComes}
use Rattle.mu_model_node.specs.Laws.{EventFits as NodeEventFits}
use Rattle.mu_model_node.specs.NodeMessages.{Request, OfUpdate, request_at}
use Rattle.mu_model_node.specs.NodeState.{NodeState}
use Rattle.mu_model_node.specs.Safe.{Happening}
use Rattle.mu_model_node.specs.UpdateMessages.{UpdateStart, StartUpdate}
use Rattle.mu_model_client.specs.declared.Plan.{Plan}
use Rattle.mu_model_client_laws.specs.Wire.{InRange}
use Rattle.mu_model_distributor_laws.specs.Laws.{EventFits as DistributorEventFits}
use Rattle.mu_model_distributor_laws.specs.Lists.{list_at}
use Rattle.mu_model_offers.specs.Laws.{Run}
use Rattle.mu_model_offers.specs.Packets.{packets_of}
use Rattle.mu_model_told.specs.Laws.{AreNumbers}
use Rattle.mu_model_told.specs.Reached.{sent_in}
use Rattle.mu_model_updater.specs.Updater.{new_updater, sent_in as updater_sent_in}

-- what a packet says to a node, and to a distributor, is in the ranges of the grammar
pub record PacketFits (p : Packet) : Type 0 where
  pub asks : (request : Request) → request_at p.payload ≡ Some request → InRange request
  pub node : NodeEventFits (PacketComes p)
  pub numbers : AreNumbers (PacketComes p)
  pub distributor : DistributorEventFits (PacketComes p)

-- what octets say always is
abbrev pub OctetsSayFit : Type 0
OctetsSayFit = (p : Packet) → AreOctets p.payload → PacketFits p

-- ---- nodes

-- a packet offers no update, and is no Receivers List
pub record OffersNothing (p : Packet) : Type 0 where
  pub no_start : (u : UpdateStart) → request_at p.payload ≡ Some (OfUpdate (StartUpdate u)) → ⊥
  pub no_list : list_at p.payload ≡ None

pub record IsAnswer (p : Packet) : Type 0 where
  pub fits : PacketFits p
  pub offers_nothing : OffersNothing p

-- each packet of a node, from whatever state on
abbrev pub NodesSendFit : Type 0
NodesSendFit = (config : NodeConfig) (s : NodeState) (hs : List Happening) → AllByRecursion IsAnswer (sent_in config s hs)

-- ---- updaters

abbrev pub UpdatersSendFit : Type 0
UpdatersSendFit =
    (plan : Plan) (image : Image) (to : List (ℕ × ℕ)) (run : List (NodeEvent × ℕ))
    → AllByRecursion PacketFits (updater_sent_in (new_updater plan image to) run)

-- ---- distributors

abbrev pub DistributorsSendFit : Type 0
DistributorsSendFit = (r : Run) → AllByRecursion PacketFits (packets_of r)
