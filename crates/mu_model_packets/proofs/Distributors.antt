-- What a distributor sends is in every range.
use Rattle.std.proofs.Common.{◌≡◌, ℕ, true, false, List, [], ◌∷◌, ◌++◌, map, refl, arith, sym, ap, subst, cond, Option, Some, None}
use Rattle.std.specs.Prelude.{◌==◌}
use Rattle.std.specs.List.{AllByRecursion}
use Rattle.mu_model_wire.specs.Fields.{Message}
use Rattle.mu_model_wire.specs.Opcodes.{OneOctetIsKept, TwoOctetsAreKept}
use Rattle.mu_model_wire.specs.Packet.{Packet}
use Rattle.mu_model_node.specs.Events.{NodeEvent, PacketComes, TimeComes}
use Rattle.mu_model_node.specs.NodeMessages.{ByBlob as NodeByBlob}
use Rattle.mu_model_node.specs.Safe.{Happening, Done, CutPower, Torn}
use Rattle.mu_model_client_laws.specs.Wire.{RequestsKeepTheirOpcodes}
use Rattle.mu_model_distributor.specs.Replies.{DistReply, ReceiversStatus, ReceiversList, CapabilitiesStatus, DistributionStatus, UploadStatus, FirmwareStatus, dist_message_of}
use Rattle.mu_model_distributor.specs.Requests.{dist_request_of}
use Rattle.mu_model_distributor.specs.DistMessages.{Taken, taken_at, Sent, ByDistribution, ByBlob, ByClient, sent_octets, sent_packet}
use Rattle.mu_model_distributor.specs.DistState.{DistState}
use Rattle.mu_model_distributor.specs.DistEvents.{at_moment, on_packet, on_event, passed_over}
use Rattle.mu_model_distributor.specs.Runs.{happened}
use Rattle.mu_model_distributor_laws.specs.RunLaws.{sent_by, sent_in}
use Rattle.mu_model_offers.specs.Laws.{begin_of, sent_of}
use Rattle.mu_model_offers.specs.Packets.{packets_by, packets_in}
use Rattle.mu_model_packets.specs.Laws.{PacketFits, DistributorsSendFit}
use Rattle.mu_model_packets.proofs.Spelled.{IsShaped, spelling_opens}
use Rattle.mu_model_packets.proofs.Opcodes.{Keeps, keeps_two, IsOther, packet_fits}
use Rattle.mu_model_packets.proofs.Nodes.{opcode_of, reply_other}
use Rattle.mu_model_packets.proofs.Requests.{request_fits}

-- ---- a distributor's answers

abbrev answer_opcode : DistReply → ℕ
answer_opcode reply = (dist_message_of reply).opcode

answer_shaped : (reply : DistReply) → IsShaped (dist_message_of reply)
answer_shaped (ReceiversStatus status count) = (omega arith, tt)
answer_shaped (ReceiversList count first rows) = (omega arith, tt)
answer_shaped (CapabilitiesStatus capacity remaining) = (omega arith, tt)
answer_shaped (DistributionStatus status phase settings) = (omega arith, tt)
answer_shaped (UploadStatus status phase upload) = (omega arith, tt)
answer_shaped (FirmwareStatus status count index fwid) = (omega arith, tt)

no_request : (reply : DistReply) (m : Message) → m.opcode ≡ answer_opcode reply → dist_request_of m ≡ None
no_request (ReceiversStatus status count) m e = rw e refl
no_request (ReceiversList count first rows) m e = rw e refl
no_request (CapabilitiesStatus capacity remaining) m e = rw e refl
no_request (DistributionStatus status phase settings) m e = rw e refl
no_request (UploadStatus status phase upload) m e = rw e refl
no_request (FirmwareStatus status count index fwid) m e = rw e refl

module _ (one : OneOctetIsKept) (two : TwoOctetsAreKept) where
  answer_kept : (reply : DistReply) → Keeps (answer_opcode reply) (sent_octets (ByDistribution reply))
  answer_kept (ReceiversStatus status count) = keeps_two two (sent_octets (ByDistribution (ReceiversStatus status count))) 0x13 _ refl
  answer_kept (ReceiversList count first rows) = keeps_two two (sent_octets (ByDistribution (ReceiversList count first rows))) 0x15 _ refl
  answer_kept (CapabilitiesStatus capacity remaining) = keeps_two two (sent_octets (ByDistribution (CapabilitiesStatus capacity remaining))) 0x17 _ refl
  answer_kept (DistributionStatus status phase settings) = keeps_two two (sent_octets (ByDistribution (DistributionStatus status phase settings))) 0x1D _ refl
  answer_kept (UploadStatus status phase upload) = keeps_two two (sent_octets (ByDistribution (UploadStatus status phase upload))) 0x22 _ refl
  answer_kept (FirmwareStatus status count index fwid) = keeps_two two (sent_octets (ByDistribution (FirmwareStatus status count index fwid))) 0x27 _ refl

  answer_other : (reply : DistReply) → IsOther (answer_opcode reply) (sent_octets (ByDistribution reply))
  answer_other reply = record { keeps = answer_kept reply; opens = spelling_opens (dist_message_of reply) (answer_shaped reply); distribution = no_request reply }

  -- ---- a packet

  sent_fits : RequestsKeepTheirOpcodes → (from to : ℕ) (sent : Sent) → PacketFits (sent_packet from (to, sent))
  sent_fits keeps from to (ByDistribution reply) = packet_fits (answer_opcode reply) (sent_packet from (to, ByDistribution reply)) (answer_other reply)
  sent_fits keeps from to (ByBlob reply) = packet_fits (opcode_of (NodeByBlob reply)) (sent_packet from (to, ByBlob reply)) (reply_other one two (NodeByBlob reply))
  sent_fits keeps from to (ByClient request) = request_fits keeps from to request

  -- ---- each packet is of a message

  abbrev Spelled : ℕ → List (ℕ × Sent) → List Packet → Type 0
  Spelled address sends packets = packets ≡ map (sent_packet address) sends

  packet_spelled : (address : ℕ) (s : DistState) (from : ℕ) (taken : Option Taken) → Spelled address (on_packet address s from taken).sends (on_packet address s from taken).sent
  packet_spelled address s from (Some taken) = refl
  packet_spelled address s from None = refl

  event_spelled : (address : ℕ) (s : DistState) (event : NodeEvent) → Spelled address (on_event address s event).sends (on_event address s event).sent
  event_spelled address s (PacketComes packet) =
      elim (packet.to == address) as (λ b. Spelled address (cond b (on_packet address s packet.from (taken_at packet.payload)) (passed_over s)).sends (cond b (on_packet address s packet.from (taken_at packet.payload)) (passed_over s)).sent) [
        | true ↦ packet_spelled address s packet.from (taken_at packet.payload)
        | false ↦ refl
      ]
  event_spelled address s TimeComes = refl

  happening_spelled : (address : ℕ) (s : DistState) (h : Happening) → Spelled address (sent_by address s h) (packets_by address s h)
  happening_spelled address s (Done event now) = event_spelled address (at_moment s now) event
  happening_spelled address s CutPower = refl
  happening_spelled address s (Torn event now operations) = refl

  map_join : {A B : Type 0} (f : A → B) (xs ys : List A) → map f (xs ++ ys) ≡ map f xs ++ map f ys
  map_join f [] ys = refl
  map_join f (x ∷ xs) ys = ap (λ zs. f x ∷ zs) (map_join f xs ys)

  run_spelled : (address : ℕ) (s : DistState) (hs : List Happening) → Spelled address (sent_in address s hs) (packets_in address s hs)
  run_spelled address s [] = refl
  run_spelled address s (h ∷ hs) =
      rw (happening_spelled address s h, run_spelled address (happened address s h) hs) (sym (map_join (sent_packet address) (sent_by address s h) (sent_in address (happened address s h) hs)))

  -- ---- runs

  all_fit : RequestsKeepTheirOpcodes → (from : ℕ) (sends : List (ℕ × Sent)) → AllByRecursion PacketFits (map (sent_packet from) sends)
  all_fit keeps from [] = tt
  all_fit keeps from ((to, sent) ∷ sends) = (sent_fits keeps from to sent, all_fit keeps from sends)

  pub distributors_send_fit : RequestsKeepTheirOpcodes → DistributorsSendFit
  distributors_send_fit keeps r =
      subst (AllByRecursion PacketFits) (sym (run_spelled r.address (begin_of r) r.happenings)) (all_fit keeps r.address (sent_of r))
