-- A node reads what a client writes.
use Rattle.std.proofs.Common.{◌≡◌, refl, ap, ◌∙◌, Some, arith}
use Rattle.mu_model_wire.specs.Spelling.{Fits}
use Rattle.mu_model_wire.specs.Table.{rows}
use Rattle.mu_model_wire.specs.Laws.{GrammarHolds, CanonicalIsRead}
use Rattle.mu_model_node.specs.BlobMessages.{BlobRequest, BlobInformationGet, TransferGet, TransferStart, TransferCancel, BlockStart, BlockGet, ChunkTransfer}
use Rattle.mu_model_node.specs.UpdateMessages.{UpdateRequest, InformationGet, MetadataCheck, UpdateGet, StartUpdate, UpdateCancel, UpdateApply}
use Rattle.mu_model_node.specs.NodeMessages.{Request, OfUpdate, OfBlob, request_in, request_of}
use Rattle.mu_model_client.specs.Packets.{request_message, update_request_message, blob_request_message}
use Rattle.mu_model_client_laws.specs.Wire.{UpdateInRange, BlobInRange, InRange, RequestsAreRead}

update_fits : (request : UpdateRequest) → UpdateInRange request → Fits rows (update_request_message request)
update_fits (InformationGet first limit) h = (((refl, h.0), ((refl, h.1), (refl, refl))), omega arith)
update_fits (MetadataCheck index metadata) h = (((refl, h.0), ((refl, omega arith, h.1), refl)), (let k = h.1 in omega (arith, k)))
update_fits UpdateGet h = ((refl, refl), omega arith)
update_fits (StartUpdate u) h = (((refl, h.ttl), ((refl, h.base), ((refl, h.id), ((refl, h.index), ((refl, omega arith, h.metadata), refl))))), (let k = h.metadata in omega (arith, k)))
update_fits UpdateCancel h = ((refl, refl), omega arith)
update_fits UpdateApply h = ((refl, refl), omega arith)

blob_fits : (request : BlobRequest) → BlobInRange request → Fits rows (blob_request_message request)
blob_fits BlobInformationGet h = ((refl, refl), omega arith)
blob_fits TransferGet h = ((refl, refl), omega arith)
blob_fits (TransferStart id p) h =
    (((refl, h.1.mode_least, h.1.mode_most, tt), ((refl, h.0), ((refl, h.1.size_least, (let k = h.1.size_most in omega (arith, k))), ((refl, h.1.log_least, h.1.log_most), ((refl, h.1.mtu_least, (let k = h.1.mtu_most in omega (arith, k))), (refl, refl)))))), omega arith)
blob_fits (TransferCancel id) h = (((refl, h), (refl, refl)), omega arith)
blob_fits (BlockStart block size) h = (((refl, h.0), ((refl, h.1), (refl, refl))), omega arith)
blob_fits BlockGet h = ((refl, refl), omega arith)
blob_fits (ChunkTransfer chunk octets) h = (((refl, h.0), ((refl, h.1, h.2), refl)), (let k = h.2 in omega (arith, k)))

request_fits : (request : Request) → InRange request → Fits rows (request_message request)
request_fits (OfUpdate request) h = update_fits request h
request_fits (OfBlob request) h = blob_fits request h

update_of : (request : UpdateRequest) → request_of (update_request_message request) ≡ Some (OfUpdate request)
update_of (InformationGet first limit) = refl
update_of (MetadataCheck index metadata) = refl
update_of UpdateGet = refl
update_of (StartUpdate u) = refl
update_of UpdateCancel = refl
update_of UpdateApply = refl

blob_of : (request : BlobRequest) → request_of (blob_request_message request) ≡ Some (OfBlob request)
blob_of BlobInformationGet = refl
blob_of TransferGet = refl
blob_of (TransferStart id p) = refl
blob_of (TransferCancel id) = refl
blob_of (BlockStart block size) = refl
blob_of BlockGet = refl
blob_of (ChunkTransfer chunk octets) = refl

its_message : (request : Request) → request_of (request_message request) ≡ Some request
its_message (OfUpdate request) = update_of request
its_message (OfBlob request) = blob_of request

pub requests_are_read : GrammarHolds → CanonicalIsRead → RequestsAreRead
requests_are_read grammar canonical request h =
    ap request_in (canonical rows (request_message request) grammar (request_fits request h)) ∙ its_message request
