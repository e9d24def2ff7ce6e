-- What a packet asks of a node and says to a distributor in the ranges of the grammar is what its events may say; and octets say
-- nothing else.
use Rattle.std.proofs.Common.{◌≡◌, refl, subst, Option, Some, None, Result, Ok, Err}
use Rattle.std.specs.Prelude.{MatchOption}
use Rattle.mu_model_wire.specs.declared.Refusal.{Refusal}
use Rattle.mu_model_wire.specs.Fields.{Message}
use Rattle.mu_model_wire.specs.Packet.{Packet}
use Rattle.mu_model_wire.specs.Reading.{message_at}
use Rattle.mu_model_wire.specs.Table.{rows}
use Rattle.mu_model_node.specs.BlobMessages.{TransferStart}
use Rattle.mu_model_node.specs.Events.{PacketComes}
use Rattle.mu_model_node.specs.NodeMessages.{Request, OfUpdate, OfBlob, request_at, request_in, request_of}
use Rattle.mu_model_node.specs.Sound.{RequestFits}
use Rattle.mu_model_node.specs.UpdateMessages.{InformationGet, StartUpdate}
use Rattle.mu_model_client_laws.specs.Wire.{InRange}
use Rattle.mu_model_distributor_laws.specs.Laws.{OctetsSayInRange, EventFits as DistributorEventFits}
use Rattle.mu_model_told.specs.Laws.{AreRequestNumbers}
use Rattle.mu_model_packets.specs.Laws.{PacketFits, OctetsSayFit}
use Rattle.mu_model_packets.proofs.Tested.{message_tested}
use Rattle.mu_model_packets.proofs.Asked.{message_asks}

-- what is asked, if anything
abbrev Asks : Option Request → Type 0
Asks asked = MatchOption asked (Unit {0}) InRange

in_range : (asked : Option Request) (request : Request) → asked ≡ Some request → Asks asked → InRange request
in_range (Some one) request e h =
    let is : one ≡ request = cc in
    subst InRange is h
in_range None request e h = absurd cc

node_fits : (asked : Option Request) → Asks asked → MatchOption asked (Unit {0}) RequestFits
node_fits (Some (OfBlob (TransferStart id p))) h =
    record { some = h.1.size_least; mode_above = h.1.mode_least; mode_below = h.1.mode_most; mtu_above = h.1.mtu_least }
node_fits (Some (OfBlob request)) h = tt
node_fits (Some (OfUpdate request)) h = tt
node_fits None h = tt

are_numbers : (asked : Option Request) → Asks asked → MatchOption asked (Unit {0}) AreRequestNumbers
are_numbers (Some (OfUpdate (StartUpdate u))) h = record { ttl = h.ttl; base = h.base; id = h.id; index = h.index }
are_numbers (Some (OfUpdate (InformationGet first limit))) h = h.0
are_numbers (Some (OfUpdate request)) h = tt
are_numbers (Some (OfBlob request)) h = tt
are_numbers None h = tt

pub packet_says : (p : Packet) → Asks (request_at p.payload) → DistributorEventFits (PacketComes p) → PacketFits p
packet_says p asks distributor = record {
  asks = λ request e. in_range (request_at p.payload) request e asks;
  node = node_fits (request_at p.payload) asks;
  numbers = are_numbers (request_at p.payload) asks;
  distributor = distributor;
}

-- ---- octets

read_asks : (r : Result Message Refusal) → ((m : Message) → r ≡ Ok m → Asks (request_of m)) → Asks (request_in r)
read_asks (Ok m) h = h m refl
read_asks (Err d) h = tt

pub octets_say_fit : OctetsSayInRange → OctetsSayFit
octets_say_fit said p octets =
    packet_says p (read_asks (message_at rows p.payload) (λ m e. message_asks m (message_tested p.payload m e (λ i l. octets i)))) (said p.payload octets)
