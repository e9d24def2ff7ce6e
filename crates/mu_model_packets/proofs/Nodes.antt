-- Each packet of a node is an answer: whatever its numbers are, it is read as a status or a report of its kind, or as nothing.
use Rattle.std.proofs.Common.{◌≡◌, ℕ, true, false, List, [], ◌∷◌, map, refl, arith, cond, Option, Some, None}
use Rattle.std.specs.List.{AllByRecursion}
use Rattle.mu_model_wire.specs.Fields.{Message}
use Rattle.mu_model_wire.specs.Opcodes.{OneOctetIsKept, TwoOctetsAreKept}
use Rattle.mu_model_wire.specs.Packet.{Packet}
use Rattle.mu_model_node.specs.declared.NodeConfig.{NodeConfig}
use Rattle.mu_model_node.specs.BlobMessages.{BlobInformationStatus, TransferStatus, BlockStatus, PartialBlockReport}
use Rattle.mu_model_node.specs.UpdateMessages.{InformationStatus, MetadataStatus, UpdateStatus}
use Rattle.mu_model_node.specs.NodeMessages.{Request, request_at, Reply, ByUpdate, ByBlob, message_of, reply_octets, reply_packet}
use Rattle.mu_model_node.specs.NodeState.{NodeState, is_addressee, update_phase}
use Rattle.mu_model_node.specs.Events.{NodeEvent, PacketComes, TimeComes, on_request, on_packet, on_event, passed_over, at_moment}
use Rattle.mu_model_node.specs.Safe.{Happening, Done, CutPower, Torn, happened}
use Rattle.mu_model_node.specs.TimeTable.{on_time}
use Rattle.mu_model_distributor.specs.Requests.{dist_request_of}
use Rattle.mu_model_told.specs.Reached.{sent_by, sent_in}
use Rattle.mu_model_packets.specs.Laws.{IsAnswer, NodesSendFit}
use Rattle.mu_model_packets.proofs.Lists.{joined}
use Rattle.mu_model_packets.proofs.Spelled.{IsShaped, spelling_opens}
use Rattle.mu_model_packets.proofs.Opcodes.{Keeps, keeps_two, keeps_67, keeps_68, IsOther, IsReply, packet_answers}

-- ---- opcodes of replies

abbrev pub opcode_of : Reply → ℕ
opcode_of reply = (message_of reply).opcode

reply_shaped : (reply : Reply) → IsShaped (message_of reply)
reply_shaped (ByUpdate (InformationStatus count first ids)) = (omega arith, tt)
reply_shaped (ByUpdate (MetadataStatus status index)) = (omega arith, tt)
reply_shaped (ByUpdate (UpdateStatus status phase job)) = (omega arith, tt)
reply_shaped (ByBlob (BlobInformationStatus capacity)) = (omega arith, tt)
reply_shaped (ByBlob (TransferStatus status mode phase id parameters missing)) = (omega arith, tt)
reply_shaped (ByBlob (BlockStatus status block chunk_size report)) = (omega arith, tt)
reply_shaped (ByBlob (PartialBlockReport chunks)) = (omega arith, tt)

no_distribution : (reply : Reply) (m : Message) → m.opcode ≡ opcode_of reply → dist_request_of m ≡ None
no_distribution (ByUpdate (InformationStatus count first ids)) m e = rw e refl
no_distribution (ByUpdate (MetadataStatus status index)) m e = rw e refl
no_distribution (ByUpdate (UpdateStatus status phase job)) m e = rw e refl
no_distribution (ByBlob (BlobInformationStatus capacity)) m e = rw e refl
no_distribution (ByBlob (TransferStatus status mode phase id parameters missing)) m e = rw e refl
no_distribution (ByBlob (BlockStatus status block chunk_size report)) m e = rw e refl
no_distribution (ByBlob (PartialBlockReport chunks)) m e = rw e refl

reply_replies : (reply : Reply) → IsReply (opcode_of reply)
reply_replies (ByUpdate (InformationStatus count first ids)) = record { request = λ m e. rw e refl; list = λ m e. rw e refl }
reply_replies (ByUpdate (MetadataStatus status index)) = record { request = λ m e. rw e refl; list = λ m e. rw e refl }
reply_replies (ByUpdate (UpdateStatus status phase job)) = record { request = λ m e. rw e refl; list = λ m e. rw e refl }
reply_replies (ByBlob (BlobInformationStatus capacity)) = record { request = λ m e. rw e refl; list = λ m e. rw e refl }
reply_replies (ByBlob (TransferStatus status mode phase id parameters missing)) = record { request = λ m e. rw e refl; list = λ m e. rw e refl }
reply_replies (ByBlob (BlockStatus status block chunk_size report)) = record { request = λ m e. rw e refl; list = λ m e. rw e refl }
reply_replies (ByBlob (PartialBlockReport chunks)) = record { request = λ m e. rw e refl; list = λ m e. rw e refl }

module _ (one : OneOctetIsKept) (two : TwoOctetsAreKept) where
  reply_kept : (reply : Reply) → Keeps (opcode_of reply) (reply_octets reply)
  reply_kept (ByUpdate (InformationStatus count first ids)) = keeps_two two (reply_octets (ByUpdate (InformationStatus count first ids))) 0x09 _ refl
  reply_kept (ByUpdate (MetadataStatus status index)) = keeps_two two (reply_octets (ByUpdate (MetadataStatus status index))) 0x0B _ refl
  reply_kept (ByUpdate (UpdateStatus status phase job)) = keeps_two two (reply_octets (ByUpdate (UpdateStatus status phase job))) 0x10 _ refl
  reply_kept (ByBlob (BlobInformationStatus capacity)) = keeps_two two (reply_octets (ByBlob (BlobInformationStatus capacity))) 0x07 _ refl
  reply_kept (ByBlob (TransferStatus status mode phase id parameters missing)) = keeps_two two (reply_octets (ByBlob (TransferStatus status mode phase id parameters missing))) 0x03 _ refl
  reply_kept (ByBlob (BlockStatus status block chunk_size report)) = keeps_67 one (reply_octets (ByBlob (BlockStatus status block chunk_size report))) _ refl
  reply_kept (ByBlob (PartialBlockReport chunks)) = keeps_68 one (reply_octets (ByBlob (PartialBlockReport chunks))) _ refl

  pub reply_other : (reply : Reply) → IsOther (opcode_of reply) (reply_octets reply)
  reply_other reply = record { keeps = reply_kept reply; opens = spelling_opens (message_of reply) (reply_shaped reply); distribution = no_distribution reply }

  reply_answers : (from : ℕ) (reply : ℕ × Reply) → IsAnswer (reply_packet from reply)
  reply_answers from reply = packet_answers (opcode_of reply.1) (reply_packet from reply) (reply_other reply.1) (reply_replies reply.1)

  -- ---- runs

  abbrev Answers : List Packet → Type 0
  Answers sent = AllByRecursion IsAnswer sent

  replies_answer : (from : ℕ) (replies : List (ℕ × Reply)) → Answers (map (reply_packet from) replies)
  replies_answer from [] = tt
  replies_answer from (r ∷ replies) = (reply_answers from r, replies_answer from replies)

  packet_answers_all : (config : NodeConfig) (s : NodeState) (from : ℕ) (request : Option Request) → Answers (on_packet config s from request).sent
  packet_answers_all config s from (Some request) = replies_answer config.address (on_request s from request).replies
  packet_answers_all config s from None = tt

  event_answers : (config : NodeConfig) (s : NodeState) (event : NodeEvent) → Answers (on_event config s event).sent
  event_answers config s (PacketComes packet) =
      elim (is_addressee config packet) as (λ b. Answers (cond b (on_packet config s packet.from (request_at packet.payload)) (passed_over s)).sent) [
        | true ↦ packet_answers_all config s packet.from (request_at packet.payload)
        | false ↦ tt
      ]
  event_answers config s TimeComes = replies_answer config.address (on_time s (update_phase s)).replies

  happening_answers : (config : NodeConfig) (s : NodeState) (h : Happening) → Answers (sent_by config s h)
  happening_answers config s (Done event now) = event_answers config (at_moment s now) event
  happening_answers config s CutPower = tt
  happening_answers config s (Torn event now operations) = tt

  run_answers : (config : NodeConfig) (s : NodeState) (hs : List Happening) → Answers (sent_in config s hs)
  run_answers config s [] = tt
  run_answers config s (h ∷ hs) = joined IsAnswer (sent_by config s h) (sent_in config (happened config s h) hs) (happening_answers config s h) (run_answers config (happened config s h) hs)

  pub nodes_send_fit : NodesSendFit
  nodes_send_fit config s hs = run_answers config s hs
