-- The rows of the Firmware Update model's messages (MshDFU, Firmware Update messages; ranges are this profile's).
use Rattle.std.specs.Prelude.{List, [], ◌∷◌}
use Rattle.mu_model_wire.specs.Fields.{part, rfu, any, Field, counted, Fields, end, rest, repeated, ◌▹◌, unless, Row, u8, u16, u64, octet}
use Rattle.mu_model_wire.specs.Names.{first, limit, count, id, uri, entries, index, metadata, status, additional, phase, ttl, base}

abbrev pub information_get : Fields
information_get = u8 first ▹ u8 limit ▹ end

-- an entry: the lengths of the identifier and of the URI stand before them
abbrev pub entry_fields : List Field
entry_fields = counted id 2 108 ∷ counted uri 0 255 ∷ []

abbrev pub information_status : Fields
information_status = u8 count ▹ u8 first ▹ repeated entries 0 entry_fields

abbrev pub metadata_check : Fields
metadata_check = u8 index ▹ rest metadata 0 255

abbrev pub metadata_status : Fields
metadata_status = octet (any status 3 ∷ any additional 5 ∷ []) ▹ u8 index ▹ end

abbrev pub update_get : Fields
update_get = end

abbrev pub update_start : Fields
update_start = u8 ttl ▹ u16 base ▹ u64 id ▹ u8 index ▹ rest metadata 0 255

abbrev pub update_cancel : Fields
update_cancel = end

abbrev pub update_apply : Fields
update_apply = end

abbrev pub update_status : Fields
update_status =
    octet (any status 3 ∷ rfu 2 ∷ part phase 3 0 6 ∷ [])
    ▹ unless phase (0 ∷ []) (u8 ttl ▹ octet (any additional 5 ∷ rfu 3 ∷ []) ▹ u16 base ▹ u64 id ▹ u8 index ▹ end)

abbrev pub update_rows : List Row
update_rows =
    record { opcode = 0x8308; fields = information_get }
    ∷ record { opcode = 0x8309; fields = information_status }
    ∷ record { opcode = 0x830A; fields = metadata_check }
    ∷ record { opcode = 0x830B; fields = metadata_status }
    ∷ record { opcode = 0x830C; fields = update_get }
    ∷ record { opcode = 0x830D; fields = update_start }
    ∷ record { opcode = 0x830E; fields = update_cancel }
    ∷ record { opcode = 0x830F; fields = update_apply }
    ∷ record { opcode = 0x8310; fields = update_status }
    ∷ []
