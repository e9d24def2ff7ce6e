-- The messages that a BLOB Transfer Server takes and those that it answers, and how each stands on the wire (MshMBT, BLOB
-- Transfer messages).
use Rattle.std.specs.Prelude.{ℕ, ◌==◌, Bool, List, [], ◌∷◌, ◌++◌, Option, Some, None, if◌then◌else◌}
use Rattle.mu_model_wire.specs.Limits.{most_octets}
pub use Rattle.mu_model_wire.specs.Limits.{most_chunk}
use Rattle.mu_model_wire.specs.ReportFields.{format_of, bits_shown, list_shown}
use Rattle.mu_model_wire.specs.Fields.{Shown, number, octets as shown_octets, perhaps, Message}
use Rattle.mu_model_wire.specs.Names.{mode, id, size, log, mtu, status, phase, blocks, chunk, octets, missing, format, block, chunk_size, bits, min_log, max_log, max_chunks, max_chunk_size, max_size, push, pull}
use Rattle.mu_model_wire.specs.Reading.{value_of}
use Rattle.mu_model_wire.specs.Reports.{bit_field, shown_numbers}
use Rattle.mu_model_wire.specs.declared.reports.Report.{Report}
pub use Rattle.mu_model_node.specs.declared.Parameters.{Parameters}
use Rattle.mu_model_wire.specs.declared.reports.Report.TheVariants.{All, Nothing, Bits, List as Listed}

pub data BlobRequest : Type 0 where
  BlobInformationGet : BlobRequest
  TransferGet : BlobRequest
  TransferStart : (id : ℕ) → Parameters → BlobRequest
  TransferCancel : (id : ℕ) → BlobRequest
  BlockStart : (block chunk_size : ℕ) → BlobRequest
  BlockGet : BlobRequest
  ChunkTransfer : (chunk : ℕ) (octets : List ℕ) → BlobRequest

pub data BlobReply : Type 0 where
  -- what a server with such banks can take
  BlobInformationStatus : (capacity : ℕ) → BlobReply
  -- the BLOB ID is there unless the phase is 0, the parameters unless it is 0 or 1; then also the set of the missing blocks
  TransferStatus : (status mode phase : ℕ) (id : Option ℕ) (parameters : Option Parameters) (missing : List Bool) → BlobReply
  BlockStatus : (status block chunk_size : ℕ) → Report → BlobReply
  PartialBlockReport : (chunks : List ℕ) → BlobReply

-- ---- limits (this profile)

-- the least and the greatest Block Size Log
abbrev pub least_log : ℕ
least_log = 12

abbrev pub most_log : ℕ
most_log = 14

-- chunks of a block, and octets of a chunk
abbrev pub most_chunks : ℕ
most_chunks = 2048

abbrev pub least_chunk : ℕ
least_chunk = 8

-- octets of a message
abbrev pub own_mtu : ℕ
own_mtu = most_octets

-- ---- on the wire

-- the octets that are shown under a name
abbrev pub octets_of : ℕ → List Shown → List ℕ
octets_of name [] = []
octets_of name (shown_octets n os ∷ shown) = if n == name then os else octets_of name shown
octets_of name (number n v ∷ shown) = octets_of name shown

abbrev pub parameters_of : List Shown → Parameters
parameters_of fields = record { mode = value_of mode fields; size = value_of size fields; log = value_of log fields; mtu = value_of mtu fields }

-- a message as a server takes it; none where it takes no such message
abbrev pub blob_request_of : Message → Option BlobRequest
blob_request_of m =
    if m.opcode == 0x8300 then Some TransferGet
    else if m.opcode == 0x8301 then Some (TransferStart (value_of id m.fields) (parameters_of m.fields))
    else if m.opcode == 0x8302 then Some (TransferCancel (value_of id m.fields))
    else if m.opcode == 0x8304 then Some (BlockStart (value_of block m.fields) (value_of chunk_size m.fields))
    else if m.opcode == 0x8305 then Some BlockGet
    else if m.opcode == 0x8306 then Some BlobInformationGet
    else if m.opcode == 0x66 then Some (ChunkTransfer (value_of chunk m.fields) (octets_of octets m.fields))
    else None

-- what is shown from the parameters on
abbrev pub transfer_shown : Option Parameters → List Bool → List Shown
transfer_shown None absent = []
transfer_shown (Some p) absent = number size p.size ∷ number log p.log ∷ number mtu p.mtu ∷ shown_octets blocks (bit_field absent) ∷ []

abbrev pub blob_message_of : BlobReply → Message
blob_message_of (BlobInformationStatus capacity) = record {
  opcode = 0x8307;
  fields =
      number min_log least_log ∷ number max_log most_log ∷ number max_chunks most_chunks ∷ number max_chunk_size most_chunk
      ∷ number max_size capacity ∷ number mtu own_mtu ∷ number push 1 ∷ number pull 1 ∷ [];
  entries = [];
}
blob_message_of (TransferStatus result means stage transfer parameters absent) = record {
  opcode = 0x8303;
  fields = number status result ∷ number mode means ∷ number phase stage ∷ perhaps (number id) transfer ++ transfer_shown parameters absent;
  entries = [];
}
blob_message_of (BlockStatus result n octets report) = record {
  opcode = 0x67;
  fields = number status result ∷ number format (format_of report) ∷ number block n ∷ number chunk_size octets ∷ bits_shown report;
  entries = list_shown report;
}
blob_message_of (PartialBlockReport chunks) = record { opcode = 0x68; fields = []; entries = shown_numbers missing chunks }
