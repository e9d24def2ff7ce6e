-- The rows of the Firmware Distribution model's messages (MshDFU, Firmware Distribution messages; ranges are this profile's).
use Rattle.std.specs.Prelude.{List, [], ◌∷◌}
use Rattle.mu_model_wire.specs.Fields.{Part, part, rfu, any, Field, split, counted, whole, Fields, end, rest, repeated, ◌▹◌, where_left, unless, Row, u8, u16, u32, u64, u8_in, u16_in, u16_zero_or, u32_from, octet}
use Rattle.mu_model_wire.specs.Names.{address, index, entries, status, count, first, limit, phase, update_status, transfer_status, progress, receivers, images, max_size, space, remaining, oob, schemes, appkey, ttl, base, mode, policy, image, label, group, id, size, metadata, fwid, uri, kind}

abbrev pub receiver_fields : List Field
receiver_fields = u16_in address 0x0001 0x7FFF ∷ u8 index ∷ []

abbrev pub receivers_add : Fields
receivers_add = repeated entries 1 receiver_fields

abbrev pub receivers_delete_all : Fields
receivers_delete_all = end

abbrev pub receivers_status : Fields
receivers_status = u8_in status 0 13 ▹ u16 count ▹ end

abbrev pub receivers_get : Fields
receivers_get = u16 first ▹ u16 limit ▹ end

-- a receiver's row: five octets as one number of 40 bits; progress is half of the per cent
abbrev pub row_parts : List Part
row_parts =
    part address 15 0x0001 0x7FFF ∷ part phase 4 0 10 ∷ any update_status 3 ∷ part transfer_status 4 0 10
    ∷ part progress 6 0 50 ∷ any index 8 ∷ []

abbrev pub row_fields : List Field
row_fields = split 5 row_parts ∷ []

abbrev pub receivers_list : Fields
receivers_list = u16 count ▹ u16 first ▹ repeated entries 0 row_fields

abbrev pub capabilities_get : Fields
capabilities_get = end

abbrev pub capabilities_status : Fields
capabilities_status =
    u16 receivers ▹ u16 images ▹ u32 max_size ▹ u32 space ▹ u32 remaining ▹ u8_in oob 0 1 ▹ rest schemes 0 361

abbrev pub distribution_get : Fields
distribution_get = end

abbrev pub distribution_start : Fields
distribution_start =
    u16_in appkey 0 4095 ▹ u8 ttl ▹ u16 base ▹ octet (part mode 2 1 2 ∷ any policy 1 ∷ rfu 5 ∷ []) ▹ u16 image
    ▹ where_left 16 label (whole label 16 ▹ end) (u16_zero_or group 0xC000 0xFFFF ▹ end)

abbrev pub distribution_suspend : Fields
distribution_suspend = end

abbrev pub distribution_cancel : Fields
distribution_cancel = end

abbrev pub distribution_apply : Fields
distribution_apply = end

abbrev pub distribution_status : Fields
distribution_status =
    u8_in status 0 13 ▹ u8_in phase 0 7
    ▹ unless phase (0 ∷ []) (u16_zero_or group 0x8000 0xFFFF ▹ u16_in appkey 0 4095 ▹ u8 ttl ▹ u16 base
    ▹ octet (part mode 2 1 2 ∷ any policy 1 ∷ rfu 5 ∷ []) ▹ u16 image ▹ end)

abbrev pub upload_get : Fields
upload_get = end

abbrev pub upload_start : Fields
upload_start = u8 ttl ▹ u16 base ▹ u64 id ▹ u32_from size 1 ▹ counted metadata 0 255 ▹ rest fwid 2 108

abbrev pub upload_start_oob : Fields
upload_start_oob = counted uri 0 255 ▹ rest fwid 2 108

abbrev pub upload_cancel : Fields
upload_cancel = end

abbrev pub upload_status : Fields
upload_status =
    u8_in status 0 13 ▹ u8_in phase 0 3
    ▹ unless phase (0 ∷ []) (octet (part progress 7 0 100 ∷ any kind 1 ∷ []) ▹ rest fwid 2 108)

abbrev pub firmware_get : Fields
firmware_get = rest fwid 2 108

abbrev pub firmware_get_by_index : Fields
firmware_get_by_index = u16 index ▹ end

abbrev pub firmware_delete : Fields
firmware_delete = rest fwid 2 108

abbrev pub firmware_delete_all : Fields
firmware_delete_all = end

-- nothing, or an identifier
abbrev pub firmware_status : Fields
firmware_status = u8_in status 0 13 ▹ u16 count ▹ u16 index ▹ where_left 1 fwid (rest fwid 2 108) end

abbrev pub distribution_rows : List Row
distribution_rows =
    record { opcode = 0x8311; fields = receivers_add }
    ∷ record { opcode = 0x8312; fields = receivers_delete_all }
    ∷ record { opcode = 0x8313; fields = receivers_status }
    ∷ record { opcode = 0x8314; fields = receivers_get }
    ∷ record { opcode = 0x8315; fields = receivers_list }
    ∷ record { opcode = 0x8316; fields = capabilities_get }
    ∷ record { opcode = 0x8317; fields = capabilities_status }
    ∷ record { opcode = 0x8318; fields = distribution_get }
    ∷ record { opcode = 0x8319; fields = distribution_start }
    ∷ record { opcode = 0x831A; fields = distribution_suspend }
    ∷ record { opcode = 0x831B; fields = distribution_cancel }
    ∷ record { opcode = 0x831C; fields = distribution_apply }
    ∷ record { opcode = 0x831D; fields = distribution_status }
    ∷ record { opcode = 0x831E; fields = upload_get }
    ∷ record { opcode = 0x831F; fields = upload_start }
    ∷ record { opcode = 0x8320; fields = upload_start_oob }
    ∷ record { opcode = 0x8321; fields = upload_cancel }
    ∷ record { opcode = 0x8322; fields = upload_status }
    ∷ record { opcode = 0x8323; fields = firmware_get }
    ∷ record { opcode = 0x8324; fields = firmware_get_by_index }
    ∷ record { opcode = 0x8325; fields = firmware_delete }
    ∷ record { opcode = 0x8326; fields = firmware_delete_all }
    ∷ record { opcode = 0x8327; fields = firmware_status }
    ∷ []
