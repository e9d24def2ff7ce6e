-- What answers are read as: messages of their kind, or none.
use Rattle.std.proofs.Common.{◌≡◌, ◌<◌, ◌≤◌, ℕ, ◌+◌, ◌*◌, List, [], ◌∷◌, refl, arith, Option, Some, None, Result, Ok, Err}
use Rattle.mu_model_wire.specs.Fields.{Message}
use Rattle.mu_model_wire.specs.Opcodes.{Keeps as KeepsIn, OneOctetIsKept, TwoOctetsAreKept}
use Rattle.mu_model_wire.specs.Reading.{message_at}
use Rattle.mu_model_wire.specs.Table.{rows}
use Rattle.mu_model_wire.specs.declared.Refusal.{Refusal}
use Rattle.mu_model_node.specs.BlobMessages.{BlobRequest, blob_request_of, BlobInformationStatus, TransferStatus, BlockStatus, PartialBlockReport}
use Rattle.mu_model_node.specs.UpdateMessages.{InformationStatus, MetadataStatus, UpdateStatus}
use Rattle.mu_model_node.specs.NodeMessages.{Reply, ByUpdate, ByBlob, message_of, reply_octets, request_of, request_in, request_at}
use Rattle.mu_model_client.specs.Answers.{Answer, answer_of}
use Rattle.mu_model_distributor.specs.Requests.{DistRequest, dist_request_of}
use Rattle.mu_model_distributor.specs.Replies.{DistReply, ReceiversStatus, ReceiversList, CapabilitiesStatus, DistributionStatus, UploadStatus, FirmwareStatus, dist_message_of}
use Rattle.mu_model_distributor.specs.DistMessages.{taken_as, taken_of, taken_in, taken_at, ByDistribution, sent_octets}
use Rattle.mu_model_answers.specs.Laws.{AsksNothing, AreNoRequest, AsksOfNobody}

abbrev Keeps : ℕ → Result Message Refusal → Type 0
Keeps opcode read = (m : Message) → read ≡ Ok m → m.opcode ≡ opcode

-- ---- replies of a node

no_request_of : (reply : Reply) (m : Message) → m.opcode ≡ (message_of reply).opcode → request_of m ≡ None
no_request_of (ByUpdate (InformationStatus count first ids)) m e = rw e refl
no_request_of (ByUpdate (MetadataStatus status index)) m e = rw e refl
no_request_of (ByUpdate (UpdateStatus status phase job)) m e = rw e refl
no_request_of (ByBlob (BlobInformationStatus capacity)) m e = rw e refl
no_request_of (ByBlob (TransferStatus status means phase id parameters absent)) m e = rw e refl
no_request_of (ByBlob (BlockStatus status block size report)) m e = rw e refl
no_request_of (ByBlob (PartialBlockReport chunks)) m e = rw e refl

no_dist_of : (reply : Reply) (m : Message) → m.opcode ≡ (message_of reply).opcode → dist_request_of m ≡ None
no_dist_of (ByUpdate (InformationStatus count first ids)) m e = rw e refl
no_dist_of (ByUpdate (MetadataStatus status index)) m e = rw e refl
no_dist_of (ByUpdate (UpdateStatus status phase job)) m e = rw e refl
no_dist_of (ByBlob (BlobInformationStatus capacity)) m e = rw e refl
no_dist_of (ByBlob (TransferStatus status means phase id parameters absent)) m e = rw e refl
no_dist_of (ByBlob (BlockStatus status block size report)) m e = rw e refl
no_dist_of (ByBlob (PartialBlockReport chunks)) m e = rw e refl

no_blob_of : (reply : Reply) (m : Message) → m.opcode ≡ (message_of reply).opcode → blob_request_of m ≡ None
no_blob_of (ByUpdate (InformationStatus count first ids)) m e = rw e refl
no_blob_of (ByUpdate (MetadataStatus status index)) m e = rw e refl
no_blob_of (ByUpdate (UpdateStatus status phase job)) m e = rw e refl
no_blob_of (ByBlob (BlobInformationStatus capacity)) m e = rw e refl
no_blob_of (ByBlob (TransferStatus status means phase id parameters absent)) m e = rw e refl
no_blob_of (ByBlob (BlockStatus status block size report)) m e = rw e refl
no_blob_of (ByBlob (PartialBlockReport chunks)) m e = rw e refl

received : (dist : Option DistRequest) (blob : Option BlobRequest) (answer : Option Answer) → dist ≡ None → blob ≡ None → AsksNothing (taken_as dist blob answer)
received None None None d b = tt
received None None (Some answer) d b = tt
received None (Some request) answer d b = cc
received (Some request) blob answer d b = cc

received_of : (reply : Reply) (m : Message) → m.opcode ≡ (message_of reply).opcode → AsksNothing (taken_of m)
received_of reply m e = received (dist_request_of m) (blob_request_of m) (answer_of m) (no_dist_of reply m e) (no_blob_of reply m e)

no_request_in : (reply : Reply) (read : Result Message Refusal) → Keeps (message_of reply).opcode read → request_in read ≡ None
no_request_in reply (Ok m) h = no_request_of reply m (h m refl)
no_request_in reply (Err e) h = refl

received_in : (reply : Reply) (read : Result Message Refusal) → Keeps (message_of reply).opcode read → AsksNothing (taken_in read)
received_in reply (Ok m) h = received_of reply m (h m refl)
received_in reply (Err e) h = tt

-- ---- statuses and lists of a distributor

no_request_by : (reply : DistReply) (m : Message) → m.opcode ≡ (dist_message_of reply).opcode → request_of m ≡ None
no_request_by (ReceiversStatus status count) m e = rw e refl
no_request_by (ReceiversList count first given) m e = rw e refl
no_request_by (CapabilitiesStatus capacity empty) m e = rw e refl
no_request_by (DistributionStatus status phase settings) m e = rw e refl
no_request_by (UploadStatus status phase upload) m e = rw e refl
no_request_by (FirmwareStatus status count index fwid) m e = rw e refl

not_taken : (reply : DistReply) (m : Message) → m.opcode ≡ (dist_message_of reply).opcode → AsksNothing (taken_of m)
not_taken (ReceiversStatus status count) m e = rw e tt
not_taken (ReceiversList count first given) m e = rw e tt
not_taken (CapabilitiesStatus capacity empty) m e = rw e tt
not_taken (DistributionStatus status phase settings) m e = rw e tt
not_taken (UploadStatus status phase upload) m e = rw e tt
not_taken (FirmwareStatus status count index fwid) m e = rw e tt

no_request_at : (reply : DistReply) (read : Result Message Refusal) → Keeps (dist_message_of reply).opcode read → request_in read ≡ None
no_request_at reply (Ok m) h = no_request_by reply m (h m refl)
no_request_at reply (Err e) h = refl

not_taken_at : (reply : DistReply) (read : Result Message Refusal) → Keeps (dist_message_of reply).opcode read → AsksNothing (taken_in read)
not_taken_at reply (Ok m) h = not_taken reply m (h m refl)
not_taken_at reply (Err e) h = tt

-- ---- their opcodes

module _ (one : OneOctetIsKept) (two : TwoOctetsAreKept) where
  keeps_two : (bytes : List ℕ) (low : ℕ) (body : List ℕ) → bytes ≡ 0x83 ∷ low ∷ body → KeepsIn rows (0x83 * 256 + low) bytes
  keeps_two bytes low body e = rw e (two rows 0x83 low body (omega arith) (omega arith))

  keeps_block : (bytes body : List ℕ) → bytes ≡ 0x67 ∷ body → KeepsIn rows 0x67 bytes
  keeps_block bytes body e = rw e (one rows 0x67 body (omega arith))

  keeps_part : (bytes body : List ℕ) → bytes ≡ 0x68 ∷ body → KeepsIn rows 0x68 bytes
  keeps_part bytes body e = rw e (one rows 0x68 body (omega arith))

  reply_kept : (reply : Reply) → Keeps (message_of reply).opcode (message_at rows (reply_octets reply))
  reply_kept (ByUpdate (InformationStatus count first ids)) = keeps_two (reply_octets (ByUpdate (InformationStatus count first ids))) 0x09 _ refl
  reply_kept (ByUpdate (MetadataStatus status index)) = keeps_two (reply_octets (ByUpdate (MetadataStatus status index))) 0x0B _ refl
  reply_kept (ByUpdate (UpdateStatus status phase job)) = keeps_two (reply_octets (ByUpdate (UpdateStatus status phase job))) 0x10 _ refl
  reply_kept (ByBlob (BlobInformationStatus capacity)) = keeps_two (reply_octets (ByBlob (BlobInformationStatus capacity))) 0x07 _ refl
  reply_kept (ByBlob (TransferStatus status means phase id parameters absent)) = keeps_two (reply_octets (ByBlob (TransferStatus status means phase id parameters absent))) 0x03 _ refl
  reply_kept (ByBlob (BlockStatus status block size report)) = keeps_block (reply_octets (ByBlob (BlockStatus status block size report))) _ refl
  reply_kept (ByBlob (PartialBlockReport chunks)) = keeps_part (reply_octets (ByBlob (PartialBlockReport chunks))) _ refl

  status_kept : (reply : DistReply) → Keeps (dist_message_of reply).opcode (message_at rows (sent_octets (ByDistribution reply)))
  status_kept (ReceiversStatus status count) = keeps_two (sent_octets (ByDistribution (ReceiversStatus status count))) 0x13 _ refl
  status_kept (ReceiversList count first given) = keeps_two (sent_octets (ByDistribution (ReceiversList count first given))) 0x15 _ refl
  status_kept (CapabilitiesStatus capacity empty) = keeps_two (sent_octets (ByDistribution (CapabilitiesStatus capacity empty))) 0x17 _ refl
  status_kept (DistributionStatus status phase settings) = keeps_two (sent_octets (ByDistribution (DistributionStatus status phase settings))) 0x1D _ refl
  status_kept (UploadStatus status phase upload) = keeps_two (sent_octets (ByDistribution (UploadStatus status phase upload))) 0x22 _ refl
  status_kept (FirmwareStatus status count index fwid) = keeps_two (sent_octets (ByDistribution (FirmwareStatus status count index fwid))) 0x27 _ refl

  pub asks_nothing : AsksOfNobody
  asks_nothing = record {
    replies = λ reply. record { of_node = no_request_in reply (message_at rows (reply_octets reply)) (reply_kept reply); of_distributor = received_in reply (message_at rows (reply_octets reply)) (reply_kept reply) };
    statuses = λ reply. record { of_node = no_request_at reply (message_at rows (sent_octets (ByDistribution reply))) (status_kept reply); of_distributor = not_taken_at reply (message_at rows (sent_octets (ByDistribution reply))) (status_kept reply) };
  }
