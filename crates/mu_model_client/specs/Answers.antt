-- What a client reads of the status and report messages of its receivers (MshDFU, Firmware Update messages; MshMBT, BLOB
-- Transfer messages).
use Rattle.std.specs.Prelude.{ℕ, zero, suc, ◌==◌, nat_le, Bool, true, List, [], map, Option, Some, None, Result, Ok, Err, if◌then◌else◌}
use Rattle.mu_model_wire.specs.Fields.{Shown, Message}
use Rattle.mu_model_wire.specs.Names.{id, mtu, status, phase, blocks, missing, format, block, chunk_size, bits, min_log, max_log, max_chunks, max_chunk_size, max_size, push, pull, first, count, index, ttl, base}
use Rattle.mu_model_wire.specs.Reading.{value_of, message_at}
use Rattle.mu_model_wire.specs.Reports.{bit_field}
use Rattle.mu_model_wire.specs.Table.{rows}
use Rattle.mu_model_wire.specs.declared.Refusal.{Refusal}
use Rattle.mu_model_wire.specs.declared.reports.Report.{Report}
use Rattle.mu_model_wire.specs.declared.reports.Report.TheVariants.{All, Nothing, Bits, List as Listed}
use Rattle.mu_model_node.specs.declared.Parameters.{Parameters}
use Rattle.mu_model_node.specs.BlobMessages.{octets_of, parameters_of, BlobReply, BlobInformationStatus, TransferStatus, BlockStatus, PartialBlockReport, least_log, most_log, most_chunks, most_chunk, own_mtu}
use Rattle.mu_model_node.specs.UpdateMessages.{ShownJob, UpdateReply, InformationStatus, MetadataStatus, UpdateStatus}
use Rattle.mu_model_node.specs.NodeMessages.{Reply, ByUpdate, ByBlob}

-- what a server can take (MshMBT, BLOB Information Status)
pub record Limits : Type 0 where
  pub least_log : ℕ
  pub most_log : ℕ
  -- chunks of a block
  pub most_chunks : ℕ
  -- octets of a chunk, of a BLOB and of a message
  pub most_chunk : ℕ
  pub most_size : ℕ
  pub mtu : ℕ
  -- whether it takes these modes
  pub push : Bool
  pub pull : Bool

pub data BlobAnswer : Type 0 where
  InformationIs : Limits → BlobAnswer
  -- the BLOB ID is there unless the phase is 0, the parameters unless it is 0 or 1; then also the bit field of the missing blocks
  TransferIs : (status phase : ℕ) (id : Option ℕ) (parameters : Option Parameters) (blocks : List ℕ) → BlobAnswer
  BlockIs : (status block chunk_size : ℕ) → Report → BlobAnswer
  PartIs : (chunks : List ℕ) → BlobAnswer

pub data Answer : Type 0 where
  FromUpdate : UpdateReply → Answer
  FromBlob : BlobAnswer → Answer

-- ---- what a node's reply says to a client

abbrev pub own_limits : ℕ → Limits
own_limits capacity = record {
  least_log = least_log;
  most_log = most_log;
  most_chunks = most_chunks;
  most_chunk = most_chunk;
  most_size = capacity;
  mtu = own_mtu;
  push = true;
  pull = true;
}

abbrev pub field_of : Option Parameters → List Bool → List ℕ
field_of None absent = []
field_of (Some p) absent = bit_field absent

abbrev pub blob_heard : BlobReply → BlobAnswer
blob_heard (BlobInformationStatus capacity) = InformationIs (own_limits capacity)
blob_heard (TransferStatus result means stage transfer parameters absent) = TransferIs result stage transfer parameters (field_of parameters absent)
blob_heard (BlockStatus result n octets report) = BlockIs result n octets report
blob_heard (PartialBlockReport chunks) = PartIs chunks

abbrev pub heard : Reply → Answer
heard (ByUpdate reply) = FromUpdate reply
heard (ByBlob reply) = FromBlob (blob_heard reply)

-- ---- on the wire

-- the numbers that entries show under a name, and the octets
abbrev pub numbers_of : ℕ → List (List Shown) → List ℕ
numbers_of name entries = map (value_of name) entries

abbrev pub octets_in : ℕ → List (List Shown) → List (List ℕ)
octets_in name entries = map (octets_of name) entries

abbrev pub limits_of : List Shown → Limits
limits_of fields = record {
  least_log = value_of min_log fields;
  most_log = value_of max_log fields;
  most_chunks = value_of max_chunks fields;
  most_chunk = value_of max_chunk_size fields;
  most_size = value_of max_size fields;
  mtu = value_of mtu fields;
  push = value_of push fields == 1;
  pull = value_of pull fields == 1;
}

-- what is there from a phase on
abbrev pub from_phase : {A : Type 0} → ℕ → ℕ → A → Option A
from_phase least at value = if nat_le least at then Some value else None

abbrev pub transfer_of : List Shown → BlobAnswer
transfer_of fields =
    TransferIs (value_of status fields) (value_of phase fields) (from_phase 1 (value_of phase fields) (value_of id fields)) (from_phase 2 (value_of phase fields) (parameters_of fields)) (octets_of blocks fields)

-- a report by its format (MshMBT, Block Status)
abbrev pub report_in : Message → ℕ → Report
report_in m zero = All
report_in m (suc zero) = Nothing
report_in m (suc (suc zero)) = Bits (record { items = octets_of bits m.fields })
report_in m _ = Listed (record { items = numbers_of missing m.entries })

abbrev pub block_of_message : Message → BlobAnswer
block_of_message m =
    BlockIs (value_of status m.fields) (value_of block m.fields) (value_of chunk_size m.fields) (report_in m (value_of format m.fields))

abbrev pub shown_job : List Shown → ShownJob
shown_job fields = record { ttl = value_of ttl fields; base = value_of base fields; id = value_of id fields; index = value_of index fields }

-- a message as a client takes it; none where it takes no such message
abbrev pub answer_of : Message → Option Answer
answer_of m =
    if m.opcode == 0x8309 then Some (FromUpdate (InformationStatus (value_of count m.fields) (value_of first m.fields) (octets_in id m.entries)))
    else if m.opcode == 0x830B then Some (FromUpdate (MetadataStatus (value_of status m.fields) (value_of index m.fields)))
    else if m.opcode == 0x8310 then Some (FromUpdate (UpdateStatus (value_of status m.fields) (value_of phase m.fields) (from_phase 1 (value_of phase m.fields) (shown_job m.fields))))
    else if m.opcode == 0x8307 then Some (FromBlob (InformationIs (limits_of m.fields)))
    else if m.opcode == 0x8303 then Some (FromBlob (transfer_of m.fields))
    else if m.opcode == 0x67 then Some (FromBlob (block_of_message m))
    else if m.opcode == 0x68 then Some (FromBlob (PartIs (numbers_of missing m.entries)))
    else None

abbrev pub answer_in : Result Message Refusal → Option Answer
answer_in (Ok m) = answer_of m
answer_in (Err e) = None

-- what the octets of a payload say to a client
abbrev pub answer_at : List ℕ → Option Answer
answer_at payload = answer_in (message_at rows payload)
