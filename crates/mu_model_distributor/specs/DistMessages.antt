-- The messages that a distributor takes and those that it sends (MshDFU: a Distributor has the Firmware Distribution Server, the
-- BLOB Transfer Server for uploads, and the clients of both transfers).
use Rattle.std.specs.Prelude.{ℕ, List, Option, Some, None, Result, Ok, Err}
use Rattle.mu_model_wire.specs.Fields.{Message}
use Rattle.mu_model_wire.specs.Packet.{Packet}
use Rattle.mu_model_wire.specs.Reading.{message_at}
use Rattle.mu_model_wire.specs.Spelling.{spelling}
use Rattle.mu_model_wire.specs.Table.{rows}
use Rattle.mu_model_wire.specs.declared.Refusal.{Refusal}
use Rattle.mu_model_node.specs.BlobMessages.{BlobRequest, BlobReply, blob_request_of, blob_message_of}
use Rattle.mu_model_node.specs.NodeMessages.{Request}
use Rattle.mu_model_client.specs.Answers.{Answer, answer_of}
use Rattle.mu_model_client.specs.Packets.{request_message}
use Rattle.mu_model_distributor.specs.Requests.{DistRequest, dist_request_of}
use Rattle.mu_model_distributor.specs.Replies.{DistReply, dist_message_of}

pub data Taken : Type 0 where
  OfDistribution : DistRequest → Taken
  -- of an upload
  OfBlob : BlobRequest → Taken
  -- a status or a report of a receiver, to the client
  OfReceiver : Answer → Taken

pub data Sent : Type 0 where
  ByDistribution : DistReply → Sent
  -- of an upload
  ByBlob : BlobReply → Sent
  -- of the client, to a receiver
  ByClient : Request → Sent

-- ---- what is taken

abbrev pub taken_as : Option DistRequest → Option BlobRequest → Option Answer → Option Taken
taken_as (Some request) blob answer = Some (OfDistribution request)
taken_as None (Some request) answer = Some (OfBlob request)
taken_as None None (Some answer) = Some (OfReceiver answer)
taken_as None None None = None

-- a message as a distributor takes it; none where it takes no such message
abbrev pub taken_of : Message → Option Taken
taken_of m = taken_as (dist_request_of m) (blob_request_of m) (answer_of m)

abbrev pub taken_in : Result Message Refusal → Option Taken
taken_in (Ok m) = taken_of m
taken_in (Err e) = None

-- what the octets of a payload are to a distributor
abbrev pub taken_at : List ℕ → Option Taken
taken_at payload = taken_in (message_at rows payload)

-- ---- what is sent

abbrev pub message_of : Sent → Message
message_of (ByDistribution reply) = dist_message_of reply
message_of (ByBlob reply) = blob_message_of reply
message_of (ByClient request) = request_message request

abbrev pub sent_octets : Sent → List ℕ
sent_octets sent = spelling rows (message_of sent)

-- the packet that takes a message from an address to its destination
abbrev pub sent_packet : ℕ → ℕ × Sent → Packet
sent_packet from sent = record { from = from; to = sent.0; payload = sent_octets sent.1 }
