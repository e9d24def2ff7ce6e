-- The rows of the BLOB Transfer model's messages (MshMBT, BLOB Transfer messages; ranges are this profile's).
use Rattle.std.specs.Prelude.{List, [], ◌∷◌}
use Rattle.mu_model_wire.specs.Fields.{part, rfu, any, Fields, end, rest, ◌▹◌, when, unless, Row, u16, u32, u64, u8_in, u16_from, u32_from, octet, list}
use Rattle.mu_model_wire.specs.Names.{mode, id, size, log, mtu, status, phase, blocks, chunk, octets, missing, format, block, chunk_size, bits, min_log, max_log, max_chunks, max_chunk_size, max_size, push, pull}

abbrev pub transfer_get : Fields
transfer_get = end

abbrev pub transfer_start : Fields
transfer_start = octet (rfu 6 ∷ part mode 2 1 2 ∷ []) ▹ u64 id ▹ u32_from size 1 ▹ u8_in log 6 32 ▹ u16_from mtu 20 ▹ end

abbrev pub transfer_cancel : Fields
transfer_cancel = u64 id ▹ end

abbrev pub transfer_status : Fields
transfer_status =
    octet (part status 4 0 10 ∷ rfu 2 ∷ part mode 2 0 2 ∷ []) ▹ u8_in phase 0 5
    ▹ unless phase (0 ∷ []) (u64 id
    ▹ unless phase (0 ∷ 1 ∷ []) (u32_from size 1 ▹ u8_in log 6 32 ▹ u16_from mtu 20 ▹ rest blocks 0 361))

abbrev pub block_start : Fields
block_start = u16 block ▹ u16 chunk_size ▹ end

abbrev pub block_get : Fields
block_get = end

abbrev pub blob_information_get : Fields
blob_information_get = end

abbrev pub blob_information_status : Fields
blob_information_status =
    u8_in min_log 6 32 ▹ u8_in max_log 6 32 ▹ u16 max_chunks ▹ u16 max_chunk_size ▹ u32 max_size ▹ u16 mtu
    ▹ octet (any push 1 ∷ any pull 1 ∷ rfu 6 ∷ []) ▹ end

abbrev pub chunk_transfer : Fields
chunk_transfer = u16 chunk ▹ rest octets 1 377

abbrev pub block_status : Fields
block_status =
    octet (part status 4 0 10 ∷ rfu 2 ∷ any format 2 ∷ []) ▹ u16 block ▹ u16 chunk_size
    ▹ when format (2 ∷ []) (rest bits 0 374) (when format (3 ∷ []) (list missing) end)

abbrev pub partial_block_report : Fields
partial_block_report = list missing

abbrev pub blob_rows : List Row
blob_rows =
    record { opcode = 0x8300; fields = transfer_get }
    ∷ record { opcode = 0x8301; fields = transfer_start }
    ∷ record { opcode = 0x8302; fields = transfer_cancel }
    ∷ record { opcode = 0x8303; fields = transfer_status }
    ∷ record { opcode = 0x8304; fields = block_start }
    ∷ record { opcode = 0x8305; fields = block_get }
    ∷ record { opcode = 0x8306; fields = blob_information_get }
    ∷ record { opcode = 0x8307; fields = blob_information_status }
    ∷ record { opcode = 0x66; fields = chunk_transfer }
    ∷ record { opcode = 0x67; fields = block_status }
    ∷ record { opcode = 0x68; fields = partial_block_report }
    ∷ []
