-- Uploads and stored images.
use Rattle.std.specs.Prelude.{List, [], ◌∷◌}
use Rattle.mu_model_distributor_rows.specs.Scenes.{passes_by, update_get, receivers_delete_all, capabilities_get, distribution_start, upload_get, upload_start, upload_cancel, firmware_get, firmware_get_by_index, firmware_delete, firmware_delete_all, transfer_start, transfer_get, block_start, chunk, other_chunk, block_get, transfer_cancel, receivers_status, no_upload, upload_status, firmware_status, id_at, capabilities_status, Turn, quiet, asks, boots, passes, block_status, comes}

-- an upload is verified and stored as the last image
abbrev pub uploaded : List Turn
uploaded =
    asks (upload_start 3 5 7) (upload_status 0 1 0 3) (4 ∷ 0 ∷ 1 ∷ []) ((10 ∷ 0 ∷ 0 ∷ 0 ∷ []) ∷ (10 ∷ 0 ∷ 0 ∷ 0 ∷ []) ∷ [])
    ∷ asks transfer_start (0x83 ∷ 3 ∷ 0x40 ∷ 2 ∷ 7 ∷ 0 ∷ 0 ∷ 0 ∷ 0 ∷ 0 ∷ 9 ∷ 0 ∷ 3 ∷ 0 ∷ 0 ∷ 0 ∷ 0xc ∷ 0x7c ∷ 1 ∷ 1 ∷ []) (5 ∷ 0 ∷ 1 ∷ []) ((10 ∷ 0 ∷ 0 ∷ 0 ∷ []) ∷ (10 ∷ 0 ∷ 0 ∷ 0 ∷ []) ∷ [])
    ∷ asks block_start (block_status 0) (5 ∷ 0 ∷ 1 ∷ []) ((10 ∷ 0 ∷ 0 ∷ 0 ∷ []) ∷ (10 ∷ 0 ∷ 0 ∷ 0 ∷ []) ∷ [])
    ∷ asks block_get (block_status 0) (5 ∷ 0 ∷ 1 ∷ []) ((10 ∷ 0 ∷ 0 ∷ 0 ∷ []) ∷ (10 ∷ 0 ∷ 0 ∷ 0 ∷ []) ∷ [])
    ∷ quiet (comes 9 chunk) (5 ∷ 0 ∷ 1 ∷ []) ((10 ∷ 0 ∷ 0 ∷ 0 ∷ []) ∷ (10 ∷ 0 ∷ 0 ∷ 0 ∷ []) ∷ [])
    ∷ asks upload_get (upload_status 0 1 100 3) (5 ∷ 0 ∷ 1 ∷ []) ((10 ∷ 0 ∷ 0 ∷ 0 ∷ []) ∷ (10 ∷ 0 ∷ 0 ∷ 0 ∷ []) ∷ [])
    ∷ quiet (passes 0) (6 ∷ 0 ∷ 3 ∷ []) ((10 ∷ 0 ∷ 0 ∷ 0 ∷ []) ∷ (10 ∷ 0 ∷ 0 ∷ 0 ∷ []) ∷ [])
    ∷ asks (firmware_get_by_index 1) (firmware_status 0 2 1 (id_at 3)) (6 ∷ 0 ∷ 3 ∷ []) ((10 ∷ 0 ∷ 0 ∷ 0 ∷ []) ∷ (10 ∷ 0 ∷ 0 ∷ 0 ∷ []) ∷ [])
    ∷ asks capabilities_get (capabilities_status 2) (6 ∷ 0 ∷ 3 ∷ []) ((10 ∷ 0 ∷ 0 ∷ 0 ∷ []) ∷ (10 ∷ 0 ∷ 0 ∷ 0 ∷ []) ∷ [])
    ∷ asks (distribution_start 0 5 0 5 1 0xc0) (0x83 ∷ 0x1d ∷ 0 ∷ 1 ∷ 0 ∷ 0xc0 ∷ 0 ∷ 0 ∷ 5 ∷ 0 ∷ 0 ∷ 5 ∷ 1 ∷ 0 ∷ []) (7 ∷ 1 ∷ 3 ∷ []) ((10 ∷ 0 ∷ 0 ∷ 0 ∷ []) ∷ (10 ∷ 0 ∷ 0 ∷ 0 ∷ []) ∷ [])
    ∷ asks upload_get (upload_status 0 3 100 3) (7 ∷ 1 ∷ 3 ∷ []) ((10 ∷ 0 ∷ 0 ∷ 0 ∷ []) ∷ (10 ∷ 0 ∷ 0 ∷ 0 ∷ []) ∷ [])
    ∷ []

-- another image than offered is dropped
abbrev pub unfit : List Turn
unfit =
    asks (upload_start 3 5 7) (upload_status 0 1 0 3) (4 ∷ 0 ∷ 1 ∷ []) ((10 ∷ 0 ∷ 0 ∷ 0 ∷ []) ∷ (10 ∷ 0 ∷ 0 ∷ 0 ∷ []) ∷ [])
    ∷ asks transfer_start (0x83 ∷ 3 ∷ 0x40 ∷ 2 ∷ 7 ∷ 0 ∷ 0 ∷ 0 ∷ 0 ∷ 0 ∷ 9 ∷ 0 ∷ 3 ∷ 0 ∷ 0 ∷ 0 ∷ 0xc ∷ 0x7c ∷ 1 ∷ 1 ∷ []) (5 ∷ 0 ∷ 1 ∷ []) ((10 ∷ 0 ∷ 0 ∷ 0 ∷ []) ∷ (10 ∷ 0 ∷ 0 ∷ 0 ∷ []) ∷ [])
    ∷ asks block_start (block_status 0) (5 ∷ 0 ∷ 1 ∷ []) ((10 ∷ 0 ∷ 0 ∷ 0 ∷ []) ∷ (10 ∷ 0 ∷ 0 ∷ 0 ∷ []) ∷ [])
    ∷ quiet (comes 9 other_chunk) (5 ∷ 0 ∷ 1 ∷ []) ((10 ∷ 0 ∷ 0 ∷ 0 ∷ []) ∷ (10 ∷ 0 ∷ 0 ∷ 0 ∷ []) ∷ [])
    ∷ quiet (passes 0) (6 ∷ 0 ∷ 2 ∷ []) ((10 ∷ 0 ∷ 0 ∷ 0 ∷ []) ∷ (10 ∷ 0 ∷ 0 ∷ 0 ∷ []) ∷ [])
    ∷ asks upload_get (upload_status 0 2 0 3) (6 ∷ 0 ∷ 2 ∷ []) ((10 ∷ 0 ∷ 0 ∷ 0 ∷ []) ∷ (10 ∷ 0 ∷ 0 ∷ 0 ∷ []) ∷ [])
    ∷ asks capabilities_get (capabilities_status 3) (6 ∷ 0 ∷ 2 ∷ []) ((10 ∷ 0 ∷ 0 ∷ 0 ∷ []) ∷ (10 ∷ 0 ∷ 0 ∷ 0 ∷ []) ∷ [])
    ∷ asks (upload_start 3 5 7) (upload_status 0 1 0 3) (7 ∷ 0 ∷ 1 ∷ []) ((10 ∷ 0 ∷ 0 ∷ 0 ∷ []) ∷ (10 ∷ 0 ∷ 0 ∷ 0 ∷ []) ∷ [])
    ∷ asks upload_cancel (no_upload 0) (8 ∷ 0 ∷ 0 ∷ []) ((10 ∷ 0 ∷ 0 ∷ 0 ∷ []) ∷ (10 ∷ 0 ∷ 0 ∷ 0 ∷ []) ∷ [])
    ∷ asks upload_cancel (no_upload 0) (8 ∷ 0 ∷ 0 ∷ []) ((10 ∷ 0 ∷ 0 ∷ 0 ∷ []) ∷ (10 ∷ 0 ∷ 0 ∷ 0 ∷ []) ∷ [])
    ∷ []

-- ten seconds without a word break it; an equal start takes it up again
abbrev pub broken_by_time : List Turn
broken_by_time =
    asks (upload_start 3 5 7) (upload_status 0 1 0 3) (4 ∷ 0 ∷ 1 ∷ []) ((10 ∷ 0 ∷ 0 ∷ 0 ∷ []) ∷ (10 ∷ 0 ∷ 0 ∷ 0 ∷ []) ∷ [])
    ∷ asks transfer_start (0x83 ∷ 3 ∷ 0x40 ∷ 2 ∷ 7 ∷ 0 ∷ 0 ∷ 0 ∷ 0 ∷ 0 ∷ 9 ∷ 0 ∷ 3 ∷ 0 ∷ 0 ∷ 0 ∷ 0xc ∷ 0x7c ∷ 1 ∷ 1 ∷ []) (5 ∷ 0 ∷ 1 ∷ []) ((10 ∷ 0 ∷ 0 ∷ 0 ∷ []) ∷ (10 ∷ 0 ∷ 0 ∷ 0 ∷ []) ∷ [])
    ∷ asks block_start (block_status 0) (5 ∷ 0 ∷ 1 ∷ []) ((10 ∷ 0 ∷ 0 ∷ 0 ∷ []) ∷ (10 ∷ 0 ∷ 0 ∷ 0 ∷ []) ∷ [])
    ∷ quiet (passes 9999) (5 ∷ 0 ∷ 1 ∷ []) ((10 ∷ 0 ∷ 0 ∷ 0 ∷ []) ∷ (10 ∷ 0 ∷ 0 ∷ 0 ∷ []) ∷ [])
    ∷ quiet (passes 10000) (6 ∷ 0 ∷ 2 ∷ []) ((10 ∷ 0 ∷ 0 ∷ 0 ∷ []) ∷ (10 ∷ 0 ∷ 0 ∷ 0 ∷ []) ∷ [])
    ∷ asks upload_get (upload_status 0 2 0 3) (6 ∷ 0 ∷ 2 ∷ []) ((10 ∷ 0 ∷ 0 ∷ 0 ∷ []) ∷ (10 ∷ 0 ∷ 0 ∷ 0 ∷ []) ∷ [])
    ∷ asks (upload_start 3 5 7) (upload_status 0 1 0 3) (7 ∷ 0 ∷ 1 ∷ []) ((10 ∷ 0 ∷ 0 ∷ 0 ∷ []) ∷ (10 ∷ 0 ∷ 0 ∷ 0 ∷ []) ∷ [])
    ∷ asks transfer_get (0x83 ∷ 3 ∷ 0x40 ∷ 5 ∷ 7 ∷ 0 ∷ 0 ∷ 0 ∷ 0 ∷ 0 ∷ 9 ∷ 0 ∷ 3 ∷ 0 ∷ 0 ∷ 0 ∷ 0xc ∷ 0x7c ∷ 1 ∷ 1 ∷ []) (7 ∷ 0 ∷ 1 ∷ []) ((10 ∷ 0 ∷ 0 ∷ 0 ∷ []) ∷ (10 ∷ 0 ∷ 0 ∷ 0 ∷ []) ∷ [])
    ∷ asks transfer_start (0x83 ∷ 3 ∷ 0x40 ∷ 2 ∷ 7 ∷ 0 ∷ 0 ∷ 0 ∷ 0 ∷ 0 ∷ 9 ∷ 0 ∷ 3 ∷ 0 ∷ 0 ∷ 0 ∷ 0xc ∷ 0x7c ∷ 1 ∷ 1 ∷ []) (7 ∷ 0 ∷ 1 ∷ []) ((10 ∷ 0 ∷ 0 ∷ 0 ∷ []) ∷ (10 ∷ 0 ∷ 0 ∷ 0 ∷ []) ∷ [])
    ∷ asks block_start (block_status 0) (7 ∷ 0 ∷ 1 ∷ []) ((10 ∷ 0 ∷ 0 ∷ 0 ∷ []) ∷ (10 ∷ 0 ∷ 0 ∷ 0 ∷ []) ∷ [])
    ∷ quiet (comes 9 chunk) (7 ∷ 0 ∷ 1 ∷ []) ((10 ∷ 0 ∷ 0 ∷ 0 ∷ []) ∷ (10 ∷ 0 ∷ 0 ∷ 0 ∷ []) ∷ [])
    ∷ quiet (passes 10000) (8 ∷ 0 ∷ 3 ∷ []) ((10 ∷ 0 ∷ 0 ∷ 0 ∷ []) ∷ (10 ∷ 0 ∷ 0 ∷ 0 ∷ []) ∷ [])
    ∷ []

-- after a boot the run says so at once, and the record with the next commit
abbrev pub broken_by_cut : List Turn
broken_by_cut =
    asks (upload_start 3 5 7) (upload_status 0 1 0 3) (4 ∷ 0 ∷ 1 ∷ []) ((10 ∷ 0 ∷ 0 ∷ 0 ∷ []) ∷ (10 ∷ 0 ∷ 0 ∷ 0 ∷ []) ∷ [])
    ∷ asks transfer_start (0x83 ∷ 3 ∷ 0x40 ∷ 2 ∷ 7 ∷ 0 ∷ 0 ∷ 0 ∷ 0 ∷ 0 ∷ 9 ∷ 0 ∷ 3 ∷ 0 ∷ 0 ∷ 0 ∷ 0xc ∷ 0x7c ∷ 1 ∷ 1 ∷ []) (5 ∷ 0 ∷ 1 ∷ []) ((10 ∷ 0 ∷ 0 ∷ 0 ∷ []) ∷ (10 ∷ 0 ∷ 0 ∷ 0 ∷ []) ∷ [])
    ∷ quiet boots (5 ∷ 0 ∷ 2 ∷ []) ((10 ∷ 0 ∷ 0 ∷ 0 ∷ []) ∷ (10 ∷ 0 ∷ 0 ∷ 0 ∷ []) ∷ [])
    ∷ asks upload_get (upload_status 0 2 0 3) (5 ∷ 0 ∷ 2 ∷ []) ((10 ∷ 0 ∷ 0 ∷ 0 ∷ []) ∷ (10 ∷ 0 ∷ 0 ∷ 0 ∷ []) ∷ [])
    ∷ asks receivers_delete_all (receivers_status 0 0) (6 ∷ 0 ∷ 2 ∷ []) ([])
    ∷ asks (upload_start 3 5 7) (upload_status 0 1 0 3) (7 ∷ 0 ∷ 1 ∷ []) ([])
    ∷ asks transfer_start (0x83 ∷ 3 ∷ 0x40 ∷ 2 ∷ 7 ∷ 0 ∷ 0 ∷ 0 ∷ 0 ∷ 0 ∷ 9 ∷ 0 ∷ 3 ∷ 0 ∷ 0 ∷ 0 ∷ 0xc ∷ 0x7c ∷ 1 ∷ 1 ∷ []) (7 ∷ 0 ∷ 1 ∷ []) ([])
    ∷ asks block_start (block_status 0) (7 ∷ 0 ∷ 1 ∷ []) ([])
    ∷ quiet (comes 9 chunk) (7 ∷ 0 ∷ 1 ∷ []) ([])
    ∷ quiet boots (7 ∷ 0 ∷ 1 ∷ []) ([])
    ∷ quiet (passes 0) (8 ∷ 0 ∷ 3 ∷ []) ([])
    ∷ []

-- a resume of an upload that the record has as active makes no commit
abbrev pub lagging : List Turn
lagging =
    asks (upload_start 3 5 7) (upload_status 0 1 0 3) (4 ∷ 0 ∷ 1 ∷ []) ((10 ∷ 0 ∷ 0 ∷ 0 ∷ []) ∷ (10 ∷ 0 ∷ 0 ∷ 0 ∷ []) ∷ [])
    ∷ asks transfer_start (0x83 ∷ 3 ∷ 0x40 ∷ 2 ∷ 7 ∷ 0 ∷ 0 ∷ 0 ∷ 0 ∷ 0 ∷ 9 ∷ 0 ∷ 3 ∷ 0 ∷ 0 ∷ 0 ∷ 0xc ∷ 0x7c ∷ 1 ∷ 1 ∷ []) (5 ∷ 0 ∷ 1 ∷ []) ((10 ∷ 0 ∷ 0 ∷ 0 ∷ []) ∷ (10 ∷ 0 ∷ 0 ∷ 0 ∷ []) ∷ [])
    ∷ quiet boots (5 ∷ 0 ∷ 2 ∷ []) ((10 ∷ 0 ∷ 0 ∷ 0 ∷ []) ∷ (10 ∷ 0 ∷ 0 ∷ 0 ∷ []) ∷ [])
    ∷ asks (upload_start 3 5 7) (upload_status 0 1 0 3) (5 ∷ 0 ∷ 1 ∷ []) ((10 ∷ 0 ∷ 0 ∷ 0 ∷ []) ∷ (10 ∷ 0 ∷ 0 ∷ 0 ∷ []) ∷ [])
    ∷ asks transfer_start (0x83 ∷ 3 ∷ 0x40 ∷ 2 ∷ 7 ∷ 0 ∷ 0 ∷ 0 ∷ 0 ∷ 0 ∷ 9 ∷ 0 ∷ 3 ∷ 0 ∷ 0 ∷ 0 ∷ 0xc ∷ 0x7c ∷ 1 ∷ 1 ∷ []) (5 ∷ 0 ∷ 1 ∷ []) ((10 ∷ 0 ∷ 0 ∷ 0 ∷ []) ∷ (10 ∷ 0 ∷ 0 ∷ 0 ∷ []) ∷ [])
    ∷ []

-- a Transfer Cancel breaks it in the next time event
abbrev pub canceled_transfer : List Turn
canceled_transfer =
    asks (upload_start 3 5 7) (upload_status 0 1 0 3) (4 ∷ 0 ∷ 1 ∷ []) ((10 ∷ 0 ∷ 0 ∷ 0 ∷ []) ∷ (10 ∷ 0 ∷ 0 ∷ 0 ∷ []) ∷ [])
    ∷ asks transfer_start (0x83 ∷ 3 ∷ 0x40 ∷ 2 ∷ 7 ∷ 0 ∷ 0 ∷ 0 ∷ 0 ∷ 0 ∷ 9 ∷ 0 ∷ 3 ∷ 0 ∷ 0 ∷ 0 ∷ 0xc ∷ 0x7c ∷ 1 ∷ 1 ∷ []) (5 ∷ 0 ∷ 1 ∷ []) ((10 ∷ 0 ∷ 0 ∷ 0 ∷ []) ∷ (10 ∷ 0 ∷ 0 ∷ 0 ∷ []) ∷ [])
    ∷ asks transfer_cancel (0x83 ∷ 3 ∷ 0 ∷ 0 ∷ []) (6 ∷ 0 ∷ 1 ∷ []) ((10 ∷ 0 ∷ 0 ∷ 0 ∷ []) ∷ (10 ∷ 0 ∷ 0 ∷ 0 ∷ []) ∷ [])
    ∷ asks upload_get (upload_status 0 1 0 3) (6 ∷ 0 ∷ 1 ∷ []) ((10 ∷ 0 ∷ 0 ∷ 0 ∷ []) ∷ (10 ∷ 0 ∷ 0 ∷ 0 ∷ []) ∷ [])
    ∷ quiet (passes 0) (7 ∷ 0 ∷ 2 ∷ []) ((10 ∷ 0 ∷ 0 ∷ 0 ∷ []) ∷ (10 ∷ 0 ∷ 0 ∷ 0 ∷ []) ∷ [])
    ∷ asks upload_get (upload_status 0 2 0 3) (7 ∷ 0 ∷ 2 ∷ []) ((10 ∷ 0 ∷ 0 ∷ 0 ∷ []) ∷ (10 ∷ 0 ∷ 0 ∷ 0 ∷ []) ∷ [])
    ∷ asks (upload_start 3 5 8) (upload_status 0 1 0 3) (8 ∷ 0 ∷ 1 ∷ []) ((10 ∷ 0 ∷ 0 ∷ 0 ∷ []) ∷ (10 ∷ 0 ∷ 0 ∷ 0 ∷ []) ∷ [])
    ∷ asks upload_cancel (no_upload 0) (9 ∷ 0 ∷ 0 ∷ []) ((10 ∷ 0 ∷ 0 ∷ 0 ∷ []) ∷ (10 ∷ 0 ∷ 0 ∷ 0 ∷ []) ∷ [])
    ∷ []

-- images close up when one is deleted
abbrev pub deleted : List Turn
deleted =
    asks (firmware_delete 2) (firmware_status 0 2 0xffff (id_at 2)) (6 ∷ 0 ∷ 0 ∷ []) ((10 ∷ 0 ∷ 0 ∷ 0 ∷ []) ∷ (10 ∷ 0 ∷ 0 ∷ 0 ∷ []) ∷ [])
    ∷ asks (firmware_get_by_index 0) (firmware_status 0 2 0 (id_at 3)) (6 ∷ 0 ∷ 0 ∷ []) ((10 ∷ 0 ∷ 0 ∷ 0 ∷ []) ∷ (10 ∷ 0 ∷ 0 ∷ 0 ∷ []) ∷ [])
    ∷ asks (firmware_get 4) (firmware_status 0 2 1 (id_at 4)) (6 ∷ 0 ∷ 0 ∷ []) ((10 ∷ 0 ∷ 0 ∷ 0 ∷ []) ∷ (10 ∷ 0 ∷ 0 ∷ 0 ∷ []) ∷ [])
    ∷ asks capabilities_get (capabilities_status 2) (6 ∷ 0 ∷ 0 ∷ []) ((10 ∷ 0 ∷ 0 ∷ 0 ∷ []) ∷ (10 ∷ 0 ∷ 0 ∷ 0 ∷ []) ∷ [])
    ∷ asks (firmware_delete 2) (firmware_status 4 2 0xffff (id_at 2)) (6 ∷ 0 ∷ 0 ∷ []) ((10 ∷ 0 ∷ 0 ∷ 0 ∷ []) ∷ (10 ∷ 0 ∷ 0 ∷ 0 ∷ []) ∷ [])
    ∷ asks firmware_delete_all (firmware_status 0 0 0xffff []) (7 ∷ 0 ∷ 0 ∷ []) ((10 ∷ 0 ∷ 0 ∷ 0 ∷ []) ∷ (10 ∷ 0 ∷ 0 ∷ 0 ∷ []) ∷ [])
    ∷ asks firmware_delete_all (firmware_status 0 0 0xffff []) (7 ∷ 0 ∷ 0 ∷ []) ((10 ∷ 0 ∷ 0 ∷ 0 ∷ []) ∷ (10 ∷ 0 ∷ 0 ∷ 0 ∷ []) ∷ [])
    ∷ []

-- an upload whose transfer wasn't started waits for ten seconds
abbrev pub unstarted : List Turn
unstarted =
    asks (upload_start 3 5 7) (upload_status 0 1 0 3) (4 ∷ 0 ∷ 1 ∷ []) ((10 ∷ 0 ∷ 0 ∷ 0 ∷ []) ∷ (10 ∷ 0 ∷ 0 ∷ 0 ∷ []) ∷ [])
    ∷ quiet (passes 0) (4 ∷ 0 ∷ 1 ∷ []) ((10 ∷ 0 ∷ 0 ∷ 0 ∷ []) ∷ (10 ∷ 0 ∷ 0 ∷ 0 ∷ []) ∷ [])
    ∷ quiet (passes 9999) (4 ∷ 0 ∷ 1 ∷ []) ((10 ∷ 0 ∷ 0 ∷ 0 ∷ []) ∷ (10 ∷ 0 ∷ 0 ∷ 0 ∷ []) ∷ [])
    ∷ asks upload_get (upload_status 0 1 0 3) (4 ∷ 0 ∷ 1 ∷ []) ((10 ∷ 0 ∷ 0 ∷ 0 ∷ []) ∷ (10 ∷ 0 ∷ 0 ∷ 0 ∷ []) ∷ [])
    ∷ quiet (passes 10000) (5 ∷ 0 ∷ 2 ∷ []) ((10 ∷ 0 ∷ 0 ∷ 0 ∷ []) ∷ (10 ∷ 0 ∷ 0 ∷ 0 ∷ []) ∷ [])
    ∷ []

-- a packet to another gives its moment, and so does one that isn't handled
abbrev pub moment_of_another : List Turn
moment_of_another =
    asks (upload_start 3 5 7) (upload_status 0 1 0 3) (4 ∷ 0 ∷ 1 ∷ []) ((10 ∷ 0 ∷ 0 ∷ 0 ∷ []) ∷ (10 ∷ 0 ∷ 0 ∷ 0 ∷ []) ∷ [])
    ∷ quiet (passes_by 2 upload_get 9999) (4 ∷ 0 ∷ 1 ∷ []) ((10 ∷ 0 ∷ 0 ∷ 0 ∷ []) ∷ (10 ∷ 0 ∷ 0 ∷ 0 ∷ []) ∷ [])
    ∷ quiet (passes 0) (4 ∷ 0 ∷ 1 ∷ []) ((10 ∷ 0 ∷ 0 ∷ 0 ∷ []) ∷ (10 ∷ 0 ∷ 0 ∷ 0 ∷ []) ∷ [])
    ∷ quiet (passes_by 2 upload_get 10000) (4 ∷ 0 ∷ 1 ∷ []) ((10 ∷ 0 ∷ 0 ∷ 0 ∷ []) ∷ (10 ∷ 0 ∷ 0 ∷ 0 ∷ []) ∷ [])
    ∷ quiet (passes 0) (5 ∷ 0 ∷ 2 ∷ []) ((10 ∷ 0 ∷ 0 ∷ 0 ∷ []) ∷ (10 ∷ 0 ∷ 0 ∷ 0 ∷ []) ∷ [])
    ∷ []

abbrev pub moment_of_unread : List Turn
moment_of_unread =
    asks (upload_start 3 5 7) (upload_status 0 1 0 3) (4 ∷ 0 ∷ 1 ∷ []) ((10 ∷ 0 ∷ 0 ∷ 0 ∷ []) ∷ (10 ∷ 0 ∷ 0 ∷ 0 ∷ []) ∷ [])
    ∷ quiet (passes_by 1 update_get 10000) (4 ∷ 0 ∷ 1 ∷ []) ((10 ∷ 0 ∷ 0 ∷ 0 ∷ []) ∷ (10 ∷ 0 ∷ 0 ∷ 0 ∷ []) ∷ [])
    ∷ quiet (passes 0) (5 ∷ 0 ∷ 2 ∷ []) ((10 ∷ 0 ∷ 0 ∷ 0 ∷ []) ∷ (10 ∷ 0 ∷ 0 ∷ 0 ∷ []) ∷ [])
    ∷ []
