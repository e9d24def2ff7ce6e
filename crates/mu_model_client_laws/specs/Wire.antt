-- A client's messages on the wire: a node reads what a client writes.
use Rattle.std.specs.Prelude.{ℕ, ◌≡◌, ◌<◌, ◌≤◌, ◌^◌, length, Option, Some, None, Ok}
use Rattle.mu_model_wire.specs.Fields.{Message}
use Rattle.mu_model_wire.specs.Reading.{message_at}
use Rattle.mu_model_wire.specs.Spelling.{Fits}
use Rattle.mu_model_wire.specs.Table.{rows}
use Rattle.mu_model_node.specs.declared.Parameters.{Parameters}
use Rattle.mu_model_node.specs.BlobMessages.{BlobRequest, TransferStart, TransferCancel, BlockStart, ChunkTransfer, BlobReply, TransferStatus}
use Rattle.mu_model_node.specs.UpdateMessages.{UpdateStart, UpdateRequest, InformationGet, MetadataCheck, StartUpdate, UpdateReply, UpdateStatus}
use Rattle.mu_model_node.specs.NodeMessages.{Request, OfUpdate, OfBlob, request_at, Reply, ByUpdate, ByBlob, message_of, reply_octets}
use Rattle.mu_model_client.specs.Answers.{answer_at, heard}
use Rattle.mu_model_client.specs.Packets.{request_message, request_octets}

-- ---- the ranges of the grammar

pub record StartInRange (u : UpdateStart) : Type 0 where
  pub ttl : u.ttl < 2 ^ 8
  pub base : u.base < 2 ^ 16
  pub id : u.id < 2 ^ 64
  pub index : u.index < 2 ^ 8
  pub metadata : length u.metadata ≤ 255

pub record ParametersInRange (p : Parameters) : Type 0 where
  pub mode_least : 1 ≤ p.mode
  pub mode_most : p.mode ≤ 2
  pub size_least : 1 ≤ p.size
  pub size_most : p.size < 2 ^ 32
  pub log_least : 6 ≤ p.log
  pub log_most : p.log ≤ 32
  pub mtu_least : 20 ≤ p.mtu
  pub mtu_most : p.mtu < 2 ^ 16

abbrev pub UpdateInRange : UpdateRequest → Type 0
UpdateInRange (InformationGet first limit) = (first < 2 ^ 8) × (limit < 2 ^ 8)
UpdateInRange (MetadataCheck index metadata) = (index < 2 ^ 8) × (length metadata ≤ 255)
UpdateInRange (StartUpdate u) = StartInRange u
UpdateInRange _ = Unit {0}

abbrev pub BlobInRange : BlobRequest → Type 0
BlobInRange (TransferStart id p) = (id < 2 ^ 64) × ParametersInRange p
BlobInRange (TransferCancel id) = id < 2 ^ 64
BlobInRange (BlockStart block chunk_size) = (block < 2 ^ 16) × (chunk_size < 2 ^ 16)
BlobInRange (ChunkTransfer chunk octets) = (chunk < 2 ^ 16) × (1 ≤ length octets) × (length octets ≤ 377)
BlobInRange _ = Unit {0}

abbrev pub InRange : Request → Type 0
InRange (OfUpdate request) = UpdateInRange request
InRange (OfBlob request) = BlobInRange request

-- ---- read back

-- a node reads the octets of a client's message as that message
abbrev pub RequestsAreRead : Type 0
RequestsAreRead = (request : Request) → InRange request → request_at (request_octets request) ≡ Some request

-- whatever its numbers are, these octets are read as a message of its kind or as none
abbrev pub RequestsKeepTheirOpcodes : Type 0
RequestsKeepTheirOpcodes = (request : Request) (m : Message) → message_at rows (request_octets request) ≡ Ok m → m.opcode ≡ (request_message request).opcode

-- so no client takes them for an answer
abbrev pub RequestsAreNoAnswers : Type 0
RequestsAreNoAnswers = (request : Request) → answer_at (request_octets request) ≡ None

-- ---- and a client reads what a node replies

-- what a status shows goes with its phase: a job unless the update phase is 0; a BLOB ID unless the BLOB phase is 0, parameters
-- unless it is 0 or 1, and their mode is the one that is shown
abbrev pub GoesWithPhase : ℕ → Option ℕ → Option Parameters → ℕ → Type 0
GoesWithPhase means None None phase = phase ≡ 0
GoesWithPhase means (Some id) None phase = phase ≡ 1
GoesWithPhase means (Some id) (Some p) phase = (2 ≤ phase) × (p.mode ≡ means)
GoesWithPhase means None (Some p) phase = ⊥

abbrev pub UpdateIsWhole : UpdateReply → Type 0
UpdateIsWhole (UpdateStatus status phase None) = phase ≡ 0
UpdateIsWhole (UpdateStatus status phase (Some job)) = 1 ≤ phase
UpdateIsWhole _ = Unit {0}

abbrev pub BlobIsWhole : BlobReply → Type 0
BlobIsWhole (TransferStatus status means phase id parameters missing) = GoesWithPhase means id parameters phase
BlobIsWhole _ = Unit {0}

abbrev pub IsWhole : Reply → Type 0
IsWhole (ByUpdate reply) = UpdateIsWhole reply
IsWhole (ByBlob reply) = BlobIsWhole reply

-- in the ranges of the grammar, a client reads the octets of a node's reply as what the node says
abbrev pub RepliesAreRead : Type 0
RepliesAreRead = (reply : Reply) → Fits rows (message_of reply) → IsWhole reply → answer_at (reply_octets reply) ≡ Some (heard reply)
