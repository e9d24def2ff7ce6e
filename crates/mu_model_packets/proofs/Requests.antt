-- Each request of a client is in every range: its numbers are octets, whatever they are, and what stands behind them has a length
-- of its row or isn't read.
use Rattle.std.proofs.Common.{◌≡◌, ℕ, refl, arith, None}
use Rattle.mu_model_wire.specs.Fields.{Message}
use Rattle.mu_model_node.specs.BlobMessages.{BlobInformationGet, TransferGet, TransferStart, TransferCancel, BlockStart, BlockGet, ChunkTransfer}
use Rattle.mu_model_node.specs.UpdateMessages.{InformationGet, MetadataCheck, UpdateGet, StartUpdate, UpdateCancel, UpdateApply}
use Rattle.mu_model_node.specs.NodeMessages.{Request, OfUpdate, OfBlob}
use Rattle.mu_model_client.specs.Packets.{request_message, request_packet}
use Rattle.mu_model_client_laws.specs.Wire.{RequestsKeepTheirOpcodes}
use Rattle.mu_model_distributor.specs.Requests.{dist_request_of}
use Rattle.mu_model_packets.specs.Laws.{PacketFits}
use Rattle.mu_model_packets.proofs.Opcodes.{packet_fits}
use Rattle.mu_model_packets.proofs.Spelled.{IsShaped, spelling_opens}

request_shaped : (request : Request) → IsShaped (request_message request)
request_shaped (OfUpdate (StartUpdate u)) = (omega arith, tt)
request_shaped (OfUpdate (InformationGet first limit)) = (omega arith, tt)
request_shaped (OfUpdate (MetadataCheck index metadata)) = (omega arith, tt)
request_shaped (OfUpdate UpdateGet) = (omega arith, tt)
request_shaped (OfUpdate UpdateCancel) = (omega arith, tt)
request_shaped (OfUpdate UpdateApply) = (omega arith, tt)
request_shaped (OfBlob TransferGet) = (omega arith, tt)
request_shaped (OfBlob (TransferStart transfer p)) = (omega arith, tt)
request_shaped (OfBlob (TransferCancel transfer)) = (omega arith, tt)
request_shaped (OfBlob (BlockStart block length)) = (omega arith, tt)
request_shaped (OfBlob BlockGet) = (omega arith, tt)
request_shaped (OfBlob BlobInformationGet) = (omega arith, tt)
request_shaped (OfBlob (ChunkTransfer chunk part)) = (omega arith, tt)

no_distribution : (request : Request) (m : Message) → m.opcode ≡ (request_message request).opcode → dist_request_of m ≡ None
no_distribution (OfUpdate (StartUpdate u)) m e = rw e refl
no_distribution (OfUpdate (InformationGet first limit)) m e = rw e refl
no_distribution (OfUpdate (MetadataCheck index metadata)) m e = rw e refl
no_distribution (OfUpdate UpdateGet) m e = rw e refl
no_distribution (OfUpdate UpdateCancel) m e = rw e refl
no_distribution (OfUpdate UpdateApply) m e = rw e refl
no_distribution (OfBlob TransferGet) m e = rw e refl
no_distribution (OfBlob (TransferStart transfer p)) m e = rw e refl
no_distribution (OfBlob (TransferCancel transfer)) m e = rw e refl
no_distribution (OfBlob (BlockStart block length)) m e = rw e refl
no_distribution (OfBlob BlockGet) m e = rw e refl
no_distribution (OfBlob BlobInformationGet) m e = rw e refl
no_distribution (OfBlob (ChunkTransfer chunk part)) m e = rw e refl

pub request_fits : RequestsKeepTheirOpcodes → (from to : ℕ) (request : Request) → PacketFits (request_packet from (to, request))
request_fits keeps from to request =
    packet_fits (request_message request).opcode (request_packet from (to, request)) (record {
      keeps = keeps request;
      opens = spelling_opens (request_message request) (request_shaped request);
      distribution = no_distribution request;
    })
