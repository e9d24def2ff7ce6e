-- A message in memory as a plain message: what its fields show, without where lent octets lie.
use Rattle.std.specs.Prelude.{ℕ, List, [], ◌∷◌, ◌++◌}
use Rattle.mu_model_wire.specs.ReportFields.{format_of, bits_shown, list_shown}
use Rattle.mu_model_wire.specs.Fields.{Shown, number, perhaps, Message}
use Rattle.mu_model_wire.specs.Fields.{octets as shown_octets}
use Rattle.mu_model_wire.specs.Names.{mode, id, size, log, mtu, status, phase, blocks, chunk, octets, missing, format, block, chunk_size, bits, min_log, max_log, max_chunks, max_chunk_size, max_size, push, pull}
use Rattle.mu_model_wire.specs.Reports.{shown_numbers}
use Rattle.mu_model_wire.specs.declared.reports.Report.{Report}
use Rattle.mu_model_wire.specs.declared.reports.Report.TheVariants.{All, Nothing, Bits, List as Listed}
use Rattle.mu_blobmsg.specs.declared.message.BlobMsg.{BlobMsg}
use Rattle.mu_blobmsg.specs.declared.message.BlobMsg.TheVariants.{TransferGet, TransferStart, TransferCancel, TransferStatus, BlockStart, BlockGet, BlobInformationGet, BlobInformationStatus, ChunkTransfer, BlockStatus, PartialBlockReport}

abbrev pub view : BlobMsg → Message
view TransferGet = record { opcode = 0x8300; fields = []; entries = [] }
view (TransferStart m i s l t) = record { opcode = 0x8301; fields = number mode m ∷ number id i ∷ number size s ∷ number log l ∷ number mtu t ∷ []; entries = [] }
view (TransferCancel i) = record { opcode = 0x8302; fields = number id i ∷ []; entries = [] }
view (TransferStatus s m p i z l t b) = record {
  opcode = 0x8303;
  fields = number status s ∷ number mode m ∷ number phase p ∷ perhaps (number id) i ++ perhaps (number size) z ++ perhaps (number log) l ++ perhaps (number mtu) t ++ perhaps (λ o. shown_octets blocks o.now) b;
  entries = [];
}
view (BlockStart b c) = record { opcode = 0x8304; fields = number block b ∷ number chunk_size c ∷ []; entries = [] }
view BlockGet = record { opcode = 0x8305; fields = []; entries = [] }
view BlobInformationGet = record { opcode = 0x8306; fields = []; entries = [] }
view (BlobInformationStatus n x c z s t p q) = record {
  opcode = 0x8307;
  fields = number min_log n ∷ number max_log x ∷ number max_chunks c ∷ number max_chunk_size z ∷ number max_size s ∷ number mtu t ∷ number push p ∷ number pull q ∷ [];
  entries = [];
}
view (ChunkTransfer c o) = record { opcode = 0x66; fields = number chunk c ∷ shown_octets octets o.now ∷ []; entries = [] }
view (BlockStatus s b c r) = record {
  opcode = 0x67;
  fields = number status s ∷ number format (format_of r) ∷ number block b ∷ number chunk_size c ∷ bits_shown r;
  entries = list_shown r;
}
view (PartialBlockReport ns) = record { opcode = 0x68; fields = []; entries = shown_numbers missing ns.items }
