-- What a client writes is read as a message of its kind or as none.
use Rattle.std.proofs.Common.{◌≡◌, ◌<◌, ◌≤◌, ℕ, ◌+◌, ◌*◌, List, [], ◌∷◌, refl, arith, Option, Some, None, Result, Ok, Err}
use Rattle.mu_model_wire.specs.Fields.{Message}
use Rattle.mu_model_wire.specs.Opcodes.{Keeps, OneOctetIsKept, TwoOctetsAreKept}
use Rattle.mu_model_wire.specs.Reading.{message_at}
use Rattle.mu_model_wire.specs.Table.{rows}
use Rattle.mu_model_wire.specs.declared.Refusal.{Refusal}
use Rattle.mu_model_node.specs.BlobMessages.{BlobInformationGet, TransferGet, TransferStart, TransferCancel, BlockStart, BlockGet, ChunkTransfer}
use Rattle.mu_model_node.specs.UpdateMessages.{InformationGet, MetadataCheck, UpdateGet, StartUpdate, UpdateCancel, UpdateApply}
use Rattle.mu_model_node.specs.NodeMessages.{Request, OfUpdate, OfBlob}
use Rattle.mu_model_client.specs.Answers.{answer_of, answer_in}
use Rattle.mu_model_client.specs.Packets.{request_message, request_octets}
use Rattle.mu_model_client_laws.specs.Wire.{RequestsKeepTheirOpcodes, RequestsAreNoAnswers}

-- ---- answers

abbrev KeptIn : ℕ → Result Message Refusal → Type 0
KeptIn opcode read = (m : Message) → read ≡ Ok m → m.opcode ≡ opcode

-- no opcode of a client's message is that of an answer
none_of : (request : Request) (m : Message) → m.opcode ≡ (request_message request).opcode → answer_of m ≡ None
none_of (OfUpdate (InformationGet first limit)) m e = rw e refl
none_of (OfUpdate (MetadataCheck index metadata)) m e = rw e refl
none_of (OfUpdate UpdateGet) m e = rw e refl
none_of (OfUpdate (StartUpdate u)) m e = rw e refl
none_of (OfUpdate UpdateCancel) m e = rw e refl
none_of (OfUpdate UpdateApply) m e = rw e refl
none_of (OfBlob TransferGet) m e = rw e refl
none_of (OfBlob (TransferStart transfer p)) m e = rw e refl
none_of (OfBlob (TransferCancel transfer)) m e = rw e refl
none_of (OfBlob (BlockStart block size)) m e = rw e refl
none_of (OfBlob BlockGet) m e = rw e refl
none_of (OfBlob BlobInformationGet) m e = rw e refl
none_of (OfBlob (ChunkTransfer chunk part)) m e = rw e refl

none_in : (request : Request) (read : Result Message Refusal) → KeptIn (request_message request).opcode read → answer_in read ≡ None
none_in request (Ok m) h = none_of request m (h m refl)
none_in request (Err e) h = refl

module _ (one : OneOctetIsKept) (two : TwoOctetsAreKept) where
  keeps_two : (bytes : List ℕ) (low : ℕ) (body : List ℕ) → bytes ≡ 0x83 ∷ low ∷ body → Keeps rows (0x83 * 256 + low) bytes
  keeps_two bytes low body e = rw e (two rows 0x83 low body (omega arith) (omega arith))

  keeps_one : (bytes body : List ℕ) → bytes ≡ 0x66 ∷ body → Keeps rows 0x66 bytes
  keeps_one bytes body e = rw e (one rows 0x66 body (omega arith))

  -- ---- what a client writes

  pub opcodes_kept : RequestsKeepTheirOpcodes
  opcodes_kept (OfUpdate (InformationGet first limit)) = keeps_two (request_octets (OfUpdate (InformationGet first limit))) 0x08 _ refl
  opcodes_kept (OfUpdate (MetadataCheck index metadata)) = keeps_two (request_octets (OfUpdate (MetadataCheck index metadata))) 0x0A _ refl
  opcodes_kept (OfUpdate UpdateGet) = keeps_two (request_octets (OfUpdate UpdateGet)) 0x0C _ refl
  opcodes_kept (OfUpdate (StartUpdate u)) = keeps_two (request_octets (OfUpdate (StartUpdate u))) 0x0D _ refl
  opcodes_kept (OfUpdate UpdateCancel) = keeps_two (request_octets (OfUpdate UpdateCancel)) 0x0E _ refl
  opcodes_kept (OfUpdate UpdateApply) = keeps_two (request_octets (OfUpdate UpdateApply)) 0x0F _ refl
  opcodes_kept (OfBlob TransferGet) = keeps_two (request_octets (OfBlob TransferGet)) 0x00 _ refl
  opcodes_kept (OfBlob (TransferStart transfer p)) = keeps_two (request_octets (OfBlob (TransferStart transfer p))) 0x01 _ refl
  opcodes_kept (OfBlob (TransferCancel transfer)) = keeps_two (request_octets (OfBlob (TransferCancel transfer))) 0x02 _ refl
  opcodes_kept (OfBlob (BlockStart block size)) = keeps_two (request_octets (OfBlob (BlockStart block size))) 0x04 _ refl
  opcodes_kept (OfBlob BlockGet) = keeps_two (request_octets (OfBlob BlockGet)) 0x05 _ refl
  opcodes_kept (OfBlob BlobInformationGet) = keeps_two (request_octets (OfBlob BlobInformationGet)) 0x06 _ refl
  opcodes_kept (OfBlob (ChunkTransfer chunk part)) = keeps_one (request_octets (OfBlob (ChunkTransfer chunk part))) _ refl

  pub no_answers : RequestsAreNoAnswers
  no_answers request = none_in request (message_at rows (request_octets request)) (opcodes_kept request)
