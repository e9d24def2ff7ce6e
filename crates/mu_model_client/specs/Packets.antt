-- A client's messages and packets as octets, and an updater: a client at an address of its own.
use Rattle.std.specs.Prelude.{ℕ, ◌==◌, Bool, true, false, List, [], ◌∷◌, map, Option, Some, None, if◌then◌else◌}
use Rattle.mu_model_wire.specs.Fields.{number, octets as shown_octets, Message}
use Rattle.mu_model_wire.specs.Names.{mode, id, size, log, mtu, chunk, octets, block, chunk_size, first, limit, index, metadata, ttl, base}
use Rattle.mu_model_wire.specs.Packet.{Packet}
use Rattle.mu_model_wire.specs.Spelling.{spelling}
use Rattle.mu_model_wire.specs.Table.{rows}
use Rattle.mu_model_node.specs.BlobMessages.{BlobRequest, BlobInformationGet, TransferGet, TransferStart, TransferCancel, BlockStart, BlockGet, ChunkTransfer}
use Rattle.mu_model_node.specs.UpdateMessages.{UpdateRequest, InformationGet, MetadataCheck, UpdateGet, StartUpdate, UpdateCancel, UpdateApply}
use Rattle.mu_model_node.specs.NodeMessages.{Request, OfUpdate, OfBlob}
use Rattle.mu_model_client.specs.Answers.{Answer, answer_at}
use Rattle.mu_model_client.specs.Client.{Client, at_moment}
use Rattle.mu_model_client.specs.Told.{told}
use Rattle.mu_model_client.specs.Due.{Due, due}

-- ---- messages on the wire

abbrev pub update_request_message : UpdateRequest → Message
update_request_message (InformationGet from most) = record { opcode = 0x8308; fields = number first from ∷ number limit most ∷ []; entries = [] }
update_request_message (MetadataCheck image offered) = record { opcode = 0x830A; fields = number index image ∷ shown_octets metadata offered ∷ []; entries = [] }
update_request_message UpdateGet = record { opcode = 0x830C; fields = []; entries = [] }
update_request_message (StartUpdate u) = record {
  opcode = 0x830D;
  fields = number ttl u.ttl ∷ number base u.base ∷ number id u.id ∷ number index u.index ∷ shown_octets metadata u.metadata ∷ [];
  entries = [];
}
update_request_message UpdateCancel = record { opcode = 0x830E; fields = []; entries = [] }
update_request_message UpdateApply = record { opcode = 0x830F; fields = []; entries = [] }

abbrev pub blob_request_message : BlobRequest → Message
blob_request_message BlobInformationGet = record { opcode = 0x8306; fields = []; entries = [] }
blob_request_message TransferGet = record { opcode = 0x8300; fields = []; entries = [] }
blob_request_message (TransferStart transfer p) = record {
  opcode = 0x8301;
  fields = number mode p.mode ∷ number id transfer ∷ number size p.size ∷ number log p.log ∷ number mtu p.mtu ∷ [];
  entries = [];
}
blob_request_message (TransferCancel transfer) = record { opcode = 0x8302; fields = number id transfer ∷ []; entries = [] }
blob_request_message (BlockStart b length) = record { opcode = 0x8304; fields = number block b ∷ number chunk_size length ∷ []; entries = [] }
blob_request_message BlockGet = record { opcode = 0x8305; fields = []; entries = [] }
blob_request_message (ChunkTransfer k part) = record { opcode = 0x66; fields = number chunk k ∷ shown_octets octets part ∷ []; entries = [] }

abbrev pub request_message : Request → Message
request_message (OfUpdate request) = update_request_message request
request_message (OfBlob request) = blob_request_message request

abbrev pub request_octets : Request → List ℕ
request_octets request = spelling rows (request_message request)

-- a message from an address to its destination
abbrev pub request_packet : ℕ → ℕ × Request → Packet
request_packet from sent = record { from = from; to = sent.0; payload = request_octets sent.1 }

-- ---- an updater

-- a client after an event, the packets that it sends, and whether the event was handled
pub record ClientStep : Type 0 where
  pub next : Client
  pub sent : List Packet
  pub handled : Bool

abbrev pub answer_handled : Client → ℕ → ℕ → Option Answer → ClientStep
answer_handled c from now None = record { next = at_moment c now; sent = []; handled = false }
answer_handled c from now (Some answer) = record { next = told c from answer now; sent = []; handled = true }

-- a packet is handled where it is addressed to the client and is a status or a report that a client takes; any packet hands in
-- its moment
abbrev pub client_packet : Client → Packet → ℕ → ClientStep
client_packet c packet now =
    if packet.to == c.sending.from then answer_handled c packet.from now (answer_at packet.payload) else answer_handled c packet.from now None

abbrev pub sent_due : Client → Due → ClientStep
sent_due c d = record { next = d.next; sent = map (request_packet c.sending.from) d.packets; handled = true }

abbrev pub client_time : Client → List ℕ → ℕ → ClientStep
client_time c image now = sent_due c (due c image now)
