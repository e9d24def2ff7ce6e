-- What is sent, as the model's messages.
use Rattle.std.specs.Prelude.{ℕ, ◌≤◌, List, length, map, All, Option, Some, None}
use Rattle.mu_model_node.specs.BlobMessages.{BlobInformationGet, BlockStart, BlockGet, ChunkTransfer}
use Rattle.mu_model_node.specs.UpdateMessages.{InformationGet, MetadataCheck, StartUpdate, UpdateGet, UpdateApply, UpdateCancel}
use Rattle.mu_model_node.specs.NodeMessages.{Request, OfUpdate, OfBlob}
use Rattle.mu_model_client.specs.declared.Sending.{Sending}
use Rattle.mu_model_client.specs.Client.{Purpose}
use Rattle.mu_model_client.specs.Lists.{metadata_of, transfer_message}
use Rattle.mu_rounds.specs.declared.said.Said.{Said}
use Rattle.mu_rounds.specs.declared.said.Said.TheVariants as said
use Rattle.mu_rounds.specs.declared.said.Sent.{Sent}

abbrev pub request_of : Sending → Purpose → Said → Request
request_of p purpose (said.MetadataCheck index) = OfUpdate (MetadataCheck index (metadata_of purpose))
request_of p purpose (said.UpdateStart index) =
    OfUpdate (StartUpdate (record { ttl = p.ttl; base = p.base; id = p.id; index = index; metadata = metadata_of purpose }))
request_of p purpose said.BlobInformationGet = OfBlob BlobInformationGet
request_of p purpose said.TransferStart = transfer_message p
request_of p purpose (said.BlockStart b) = OfBlob (BlockStart b p.chunk)
request_of p purpose (said.ChunkTransfer k octets) = OfBlob (ChunkTransfer k octets.items)
request_of p purpose said.BlockGet = OfBlob BlockGet
request_of p purpose said.UpdateGet = OfUpdate UpdateGet
request_of p purpose said.UpdateApply = OfUpdate UpdateApply
request_of p purpose (said.InformationGet index) = OfUpdate (InformationGet index 1)
request_of p purpose said.UpdateCancel = OfUpdate UpdateCancel

abbrev pub SaysOctets : Said → Type 0
SaysOctets (said.ChunkTransfer k octets) = 1 ≤ length octets.items
SaysOctets _ = Unit {0}

abbrev pub said_of : Sending → Purpose → Option Said → Option Request
said_of p purpose None = None
said_of p purpose (Some s) = Some (request_of p purpose s)

abbrev pub sent_of : Sending → Purpose → Sent → ℕ × Request
sent_of p purpose sent = (sent.to, request_of p purpose sent.said)

abbrev pub sents_of : Sending → Purpose → List Sent → List (ℕ × Request)
sents_of p purpose sents = map (sent_of p purpose) sents

-- a chunk has octets
abbrev pub HasOctets : Sent → Type 0
HasOctets sent = SaysOctets sent.said

abbrev pub HaveOctets : List Sent → Type 0
HaveOctets sents = All HasOctets sents
