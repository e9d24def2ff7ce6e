-- The messages that a node takes and those that it answers: both models' (MshDFU: a Target node has the Firmware Update
-- Server and the BLOB Transfer Server).
use Rattle.std.specs.Prelude.{ℕ, List, Option, Some, None, Result, Ok, Err}
use Rattle.mu_model_wire.specs.Fields.{Message}
use Rattle.mu_model_wire.specs.Packet.{Packet}
use Rattle.mu_model_wire.specs.Reading.{message_at}
use Rattle.mu_model_wire.specs.Spelling.{spelling}
use Rattle.mu_model_wire.specs.Table.{rows}
use Rattle.mu_model_wire.specs.declared.Refusal.{Refusal}
use Rattle.mu_model_node.specs.BlobMessages.{BlobRequest, BlobReply, blob_request_of, blob_message_of}
use Rattle.mu_model_node.specs.UpdateMessages.{UpdateRequest, UpdateReply, update_request_of, update_message_of}

pub data Request : Type 0 where
  OfUpdate : UpdateRequest → Request
  OfBlob : BlobRequest → Request

pub data Reply : Type 0 where
  ByUpdate : UpdateReply → Reply
  ByBlob : BlobReply → Reply

abbrev pub either_request : Option UpdateRequest → Option BlobRequest → Option Request
either_request (Some request) other = Some (OfUpdate request)
either_request None (Some request) = Some (OfBlob request)
either_request None None = None

-- a message as a node takes it; none where it takes no such message
abbrev pub request_of : Message → Option Request
request_of m = either_request (update_request_of m) (blob_request_of m)

abbrev pub request_in : Result Message Refusal → Option Request
request_in (Ok m) = request_of m
request_in (Err e) = None

-- what the octets of a payload ask of a node
abbrev pub request_at : List ℕ → Option Request
request_at payload = request_in (message_at rows payload)

abbrev pub message_of : Reply → Message
message_of (ByUpdate reply) = update_message_of reply
message_of (ByBlob reply) = blob_message_of reply

-- the octets of a reply
abbrev pub reply_octets : Reply → List ℕ
reply_octets reply = spelling rows (message_of reply)

-- the packet that takes a reply from an address to its destination
abbrev pub reply_packet : ℕ → ℕ × Reply → Packet
reply_packet from reply = record { from = from; to = reply.0; payload = reply_octets reply.1 }
