-- What each answer does in each step up to the block.
use Rattle.std.specs.Prelude.{List, [], ◌∷◌, Some, None}
use Rattle.mu_model_client.specs.declared.Dropped.TheVariants.{Status}
use Rattle.mu_model_client_rows.specs.Scenes.{update_start, update_get, blob_information_get, transfer_start, block_start, chunk, metadata_status, update_status, no_job_status, limits, Row, row}

-- each Metadata Status, another index, and messages of other steps
abbrev pub in_check : List Row
in_check =
    row (metadata_status 0) (10 ∷ 0 ∷ 0 ∷ 0 ∷ []) None ((2, update_start) ∷ [])
    ∷ row (metadata_status 1) (10 ∷ 1 ∷ 0 ∷ 0 ∷ []) (Some (Status 1 1)) []
    ∷ row (metadata_status 7) (10 ∷ 7 ∷ 0 ∷ 0 ∷ []) (Some (Status 1 7)) []
    ∷ row (0x83 ∷ 0xb ∷ 0 ∷ 1 ∷ []) (10 ∷ 0 ∷ 0 ∷ 0 ∷ []) None []
    ∷ row (0x83 ∷ 0xb ∷ 5 ∷ 1 ∷ []) (10 ∷ 0 ∷ 0 ∷ 0 ∷ []) None []
    ∷ row (no_job_status 2) (10 ∷ 0 ∷ 0 ∷ 0 ∷ []) None []
    ∷ row (update_status 0x40 7) (2 ∷ 0 ∷ 0 ∷ 0 ∷ []) None []
    ∷ row (0x67 ∷ 4 ∷ 0 ∷ 0 ∷ 0xc8 ∷ 0 ∷ []) (10 ∷ 0 ∷ 0 ∷ 0 ∷ []) None []
    ∷ []

-- each Update Status: a status drops whatever ID it has, or none
abbrev pub in_start : List Row
in_start =
    row (no_job_status 0) (10 ∷ 0 ∷ 0 ∷ 0 ∷ []) None []
    ∷ row (update_status 0x20 7) (1 ∷ 0 ∷ 0 ∷ 0 ∷ []) None []
    ∷ row (update_status 0x20 8) (10 ∷ 0 ∷ 0 ∷ 0 ∷ []) None []
    ∷ row (update_status 0x40 7) (2 ∷ 0 ∷ 0 ∷ 0 ∷ []) None ((2, blob_information_get) ∷ [])
    ∷ row (update_status 0x40 8) (10 ∷ 0 ∷ 0 ∷ 0 ∷ []) None []
    ∷ row (update_status 0x60 7) (3 ∷ 0 ∷ 0 ∷ 0 ∷ []) None ((2, blob_information_get) ∷ [])
    ∷ row (update_status 0x60 8) (10 ∷ 0 ∷ 0 ∷ 0 ∷ []) None []
    ∷ row (update_status 0x80 7) (4 ∷ 0 ∷ 0 ∷ 0 ∷ []) None ((2, blob_information_get) ∷ [])
    ∷ row (update_status 0x80 8) (10 ∷ 0 ∷ 0 ∷ 0 ∷ []) None []
    ∷ row (update_status 0xa0 7) (5 ∷ 0 ∷ 0 ∷ 0 ∷ []) None []
    ∷ row (update_status 0xa0 8) (10 ∷ 0 ∷ 0 ∷ 0 ∷ []) None []
    ∷ row (update_status 0xc0 7) (6 ∷ 0 ∷ 0 ∷ 0 ∷ []) None ((2, blob_information_get) ∷ [])
    ∷ row (update_status 0xc0 8) (10 ∷ 0 ∷ 0 ∷ 0 ∷ []) None []
    ∷ row (no_job_status 2) (10 ∷ 2 ∷ 0 ∷ 0 ∷ []) (Some (Status 2 2)) []
    ∷ row (update_status 0x22 7) (1 ∷ 2 ∷ 0 ∷ 0 ∷ []) (Some (Status 2 2)) []
    ∷ row (update_status 0x22 8) (10 ∷ 2 ∷ 0 ∷ 0 ∷ []) (Some (Status 2 2)) []
    ∷ row (update_status 0x42 7) (2 ∷ 2 ∷ 0 ∷ 0 ∷ []) (Some (Status 2 2)) []
    ∷ row (update_status 0x42 8) (10 ∷ 2 ∷ 0 ∷ 0 ∷ []) (Some (Status 2 2)) []
    ∷ row (update_status 0x62 7) (3 ∷ 2 ∷ 0 ∷ 0 ∷ []) (Some (Status 2 2)) []
    ∷ row (update_status 0x62 8) (10 ∷ 2 ∷ 0 ∷ 0 ∷ []) (Some (Status 2 2)) []
    ∷ row (update_status 0x82 7) (4 ∷ 2 ∷ 0 ∷ 0 ∷ []) (Some (Status 2 2)) []
    ∷ row (update_status 0x82 8) (10 ∷ 2 ∷ 0 ∷ 0 ∷ []) (Some (Status 2 2)) []
    ∷ row (update_status 0xa2 7) (5 ∷ 2 ∷ 0 ∷ 0 ∷ []) (Some (Status 2 2)) []
    ∷ row (update_status 0xa2 8) (10 ∷ 2 ∷ 0 ∷ 0 ∷ []) (Some (Status 2 2)) []
    ∷ row (update_status 0xc2 7) (6 ∷ 2 ∷ 0 ∷ 0 ∷ []) (Some (Status 2 2)) []
    ∷ row (update_status 0xc2 8) (10 ∷ 2 ∷ 0 ∷ 0 ∷ []) (Some (Status 2 2)) []
    ∷ row (metadata_status 0) (10 ∷ 0 ∷ 0 ∷ 0 ∷ []) None []
    ∷ row (metadata_status 5) (10 ∷ 0 ∷ 0 ∷ 0 ∷ []) None []
    ∷ []

-- each limit just met, and passed
abbrev pub in_information : List Row
in_information =
    row (limits 12 14 2048 376 3 380 3) (2 ∷ 0 ∷ 0 ∷ 0 ∷ []) None ((2, transfer_start) ∷ [])
    ∷ row (limits 12 14 2048 376 2 380 3) (2 ∷ 0 ∷ 7 ∷ 0 ∷ []) (Some (Status 3 7)) []
    ∷ row (limits 12 12 2048 376 4096 380 3) (2 ∷ 0 ∷ 0 ∷ 0 ∷ []) None ((2, transfer_start) ∷ [])
    ∷ row (limits 13 14 2048 376 4096 380 3) (2 ∷ 0 ∷ 2 ∷ 0 ∷ []) (Some (Status 3 2)) []
    ∷ row (limits 6 11 2048 376 4096 380 3) (2 ∷ 0 ∷ 2 ∷ 0 ∷ []) (Some (Status 3 2)) []
    ∷ row (limits 12 14 2048 200 4096 380 3) (2 ∷ 0 ∷ 0 ∷ 0 ∷ []) None ((2, transfer_start) ∷ [])
    ∷ row (limits 12 14 2048 199 4096 380 3) (2 ∷ 0 ∷ 3 ∷ 0 ∷ []) (Some (Status 3 3)) []
    ∷ row (limits 12 14 2048 376 4096 204 3) (2 ∷ 0 ∷ 0 ∷ 0 ∷ []) None ((2, transfer_start) ∷ [])
    ∷ row (limits 12 14 2048 376 4096 203 3) (2 ∷ 0 ∷ 3 ∷ 0 ∷ []) (Some (Status 3 3)) []
    ∷ row (limits 12 14 2048 376 4096 20 3) (2 ∷ 0 ∷ 3 ∷ 0 ∷ []) (Some (Status 3 3)) []
    ∷ row (limits 12 14 21 376 4096 380 3) (2 ∷ 0 ∷ 0 ∷ 0 ∷ []) None ((2, transfer_start) ∷ [])
    ∷ row (limits 12 14 20 376 4096 380 3) (2 ∷ 0 ∷ 3 ∷ 0 ∷ []) (Some (Status 3 3)) []
    ∷ row (limits 12 14 2048 376 4096 380 1) (2 ∷ 0 ∷ 0 ∷ 0 ∷ []) None ((2, transfer_start) ∷ [])
    ∷ row (limits 12 14 2048 376 4096 380 2) (2 ∷ 0 ∷ 8 ∷ 0 ∷ []) (Some (Status 3 8)) []
    ∷ row (limits 12 14 2048 376 4096 380 0) (2 ∷ 0 ∷ 8 ∷ 0 ∷ []) (Some (Status 3 8)) []
    ∷ row (limits 13 14 2048 376 2 380 3) (2 ∷ 0 ∷ 7 ∷ 0 ∷ []) (Some (Status 3 7)) []
    ∷ row (limits 13 14 2048 199 4096 380 3) (2 ∷ 0 ∷ 2 ∷ 0 ∷ []) (Some (Status 3 2)) []
    ∷ row (limits 12 14 2048 199 4096 380 2) (2 ∷ 0 ∷ 3 ∷ 0 ∷ []) (Some (Status 3 3)) []
    ∷ row (limits 13 14 2048 9 2 380 0) (2 ∷ 0 ∷ 7 ∷ 0 ∷ []) (Some (Status 3 7)) []
    ∷ row (0x67 ∷ 4 ∷ 0 ∷ 0 ∷ 0xc8 ∷ 0 ∷ []) (2 ∷ 0 ∷ 0 ∷ 0 ∷ []) None []
    ∷ row (no_job_status 2) (2 ∷ 0 ∷ 0 ∷ 0 ∷ []) None []
    ∷ []

-- each Transfer Status
abbrev pub in_transfer : List Row
in_transfer =
    row (0x83 ∷ 3 ∷ 0x40 ∷ 2 ∷ 7 ∷ 0 ∷ 0 ∷ 0 ∷ 0 ∷ 0 ∷ 1 ∷ 0 ∷ 3 ∷ 0 ∷ 0 ∷ 0 ∷ 0xc ∷ 0x7c ∷ 1 ∷ 1 ∷ []) (2 ∷ 0 ∷ 0 ∷ 0 ∷ []) None ((2, block_start) ∷ [])
    ∷ row (0x83 ∷ 3 ∷ 0x40 ∷ 2 ∷ 7 ∷ 0 ∷ 0 ∷ 0 ∷ 0 ∷ 0 ∷ 1 ∷ 0 ∷ 3 ∷ 0 ∷ 0 ∷ 0 ∷ 0xc ∷ 0x7c ∷ 1 ∷ 0 ∷ []) (2 ∷ 0 ∷ 0 ∷ 100 ∷ []) None ((2, update_get) ∷ [])
    ∷ row (0x83 ∷ 3 ∷ 0x40 ∷ 2 ∷ 7 ∷ 0 ∷ 0 ∷ 0 ∷ 0 ∷ 0 ∷ 1 ∷ 0 ∷ 3 ∷ 0 ∷ 0 ∷ 0 ∷ 0xc ∷ 0x7c ∷ 1 ∷ 2 ∷ []) (2 ∷ 0 ∷ 0 ∷ 0 ∷ []) None []
    ∷ row (0x83 ∷ 3 ∷ 0x40 ∷ 2 ∷ 7 ∷ 0 ∷ 0 ∷ 0 ∷ 0 ∷ 0 ∷ 1 ∷ 0 ∷ 3 ∷ 0 ∷ 0 ∷ 0 ∷ 0xc ∷ 0x7c ∷ 1 ∷ 3 ∷ []) (2 ∷ 0 ∷ 0 ∷ 0 ∷ []) None []
    ∷ row (0x83 ∷ 3 ∷ 0x40 ∷ 2 ∷ 7 ∷ 0 ∷ 0 ∷ 0 ∷ 0 ∷ 0 ∷ 1 ∷ 0 ∷ 3 ∷ 0 ∷ 0 ∷ 0 ∷ 0xc ∷ 0x7c ∷ 1 ∷ []) (2 ∷ 0 ∷ 0 ∷ 0 ∷ []) None []
    ∷ row (0x83 ∷ 3 ∷ 0x40 ∷ 2 ∷ 7 ∷ 0 ∷ 0 ∷ 0 ∷ 0 ∷ 0 ∷ 1 ∷ 0 ∷ 3 ∷ 0 ∷ 0 ∷ 0 ∷ 0xc ∷ 0x7c ∷ 1 ∷ 1 ∷ 0 ∷ []) (2 ∷ 0 ∷ 0 ∷ 0 ∷ []) None []
    ∷ row (0x83 ∷ 3 ∷ 0x40 ∷ 3 ∷ 7 ∷ 0 ∷ 0 ∷ 0 ∷ 0 ∷ 0 ∷ 1 ∷ 0 ∷ 3 ∷ 0 ∷ 0 ∷ 0 ∷ 0xc ∷ 0x7c ∷ 1 ∷ 1 ∷ []) (2 ∷ 0 ∷ 0 ∷ 0 ∷ []) None ((2, block_start) ∷ [])
    ∷ row (0x83 ∷ 3 ∷ 0x40 ∷ 4 ∷ 7 ∷ 0 ∷ 0 ∷ 0 ∷ 0 ∷ 0 ∷ 1 ∷ 0 ∷ 3 ∷ 0 ∷ 0 ∷ 0 ∷ 0xc ∷ 0x7c ∷ 1 ∷ 1 ∷ []) (2 ∷ 0 ∷ 0 ∷ 100 ∷ []) None ((2, update_get) ∷ [])
    ∷ row (0x83 ∷ 3 ∷ 0x40 ∷ 4 ∷ 7 ∷ 0 ∷ 0 ∷ 0 ∷ 0 ∷ 0 ∷ 1 ∷ 0 ∷ 3 ∷ 0 ∷ 0 ∷ 0 ∷ 0xc ∷ 0x7c ∷ 1 ∷ 0 ∷ []) (2 ∷ 0 ∷ 0 ∷ 100 ∷ []) None ((2, update_get) ∷ [])
    ∷ row (0x83 ∷ 3 ∷ 0x40 ∷ 5 ∷ 7 ∷ 0 ∷ 0 ∷ 0 ∷ 0 ∷ 0 ∷ 1 ∷ 0 ∷ 3 ∷ 0 ∷ 0 ∷ 0 ∷ 0xc ∷ 0x7c ∷ 1 ∷ 1 ∷ []) (2 ∷ 0 ∷ 0 ∷ 0 ∷ []) None []
    ∷ row (0x83 ∷ 3 ∷ 0x40 ∷ 1 ∷ 7 ∷ 0 ∷ 0 ∷ 0 ∷ 0 ∷ 0 ∷ 1 ∷ 0 ∷ []) (2 ∷ 0 ∷ 0 ∷ 0 ∷ []) None []
    ∷ row (0x83 ∷ 3 ∷ 0 ∷ 0 ∷ []) (2 ∷ 0 ∷ 0 ∷ 0 ∷ []) None []
    ∷ row (0x83 ∷ 3 ∷ 0x40 ∷ 2 ∷ 8 ∷ 0 ∷ 0 ∷ 0 ∷ 0 ∷ 0 ∷ 1 ∷ 0 ∷ 3 ∷ 0 ∷ 0 ∷ 0 ∷ 0xc ∷ 0x7c ∷ 1 ∷ 1 ∷ []) (2 ∷ 0 ∷ 0 ∷ 0 ∷ []) None []
    ∷ row (0x83 ∷ 3 ∷ 0x40 ∷ 2 ∷ 7 ∷ 0 ∷ 0 ∷ 0 ∷ 0 ∷ 0 ∷ 1 ∷ 0 ∷ 4 ∷ 0 ∷ 0 ∷ 0 ∷ 0xc ∷ 0x7c ∷ 1 ∷ 1 ∷ []) (2 ∷ 0 ∷ 0 ∷ 0 ∷ []) None []
    ∷ row (0x83 ∷ 3 ∷ 0x40 ∷ 2 ∷ 7 ∷ 0 ∷ 0 ∷ 0 ∷ 0 ∷ 0 ∷ 1 ∷ 0 ∷ 3 ∷ 0 ∷ 0 ∷ 0 ∷ 0xd ∷ 0x7c ∷ 1 ∷ 1 ∷ []) (2 ∷ 0 ∷ 0 ∷ 0 ∷ []) None []
    ∷ row (0x83 ∷ 3 ∷ 0x80 ∷ 2 ∷ 7 ∷ 0 ∷ 0 ∷ 0 ∷ 0 ∷ 0 ∷ 1 ∷ 0 ∷ 3 ∷ 0 ∷ 0 ∷ 0 ∷ 0xc ∷ 0x7c ∷ 1 ∷ 1 ∷ []) (2 ∷ 0 ∷ 0 ∷ 0 ∷ []) None ((2, block_start) ∷ [])
    ∷ row (0x83 ∷ 3 ∷ 4 ∷ 0 ∷ []) (2 ∷ 0 ∷ 4 ∷ 0 ∷ []) (Some (Status 4 4)) []
    ∷ row (0x83 ∷ 3 ∷ 0x44 ∷ 2 ∷ 7 ∷ 0 ∷ 0 ∷ 0 ∷ 0 ∷ 0 ∷ 1 ∷ 0 ∷ 3 ∷ 0 ∷ 0 ∷ 0 ∷ 0xc ∷ 0x7c ∷ 1 ∷ 1 ∷ []) (2 ∷ 0 ∷ 4 ∷ 0 ∷ []) (Some (Status 4 4)) []
    ∷ row (0x83 ∷ 3 ∷ 0x46 ∷ 2 ∷ 8 ∷ 0 ∷ 0 ∷ 0 ∷ 0 ∷ 0 ∷ 1 ∷ 0 ∷ 3 ∷ 0 ∷ 0 ∷ 0 ∷ 0xc ∷ 0x7c ∷ 1 ∷ 1 ∷ []) (2 ∷ 0 ∷ 6 ∷ 0 ∷ []) (Some (Status 4 6)) []
    ∷ row (0x83 ∷ 3 ∷ 0x46 ∷ 1 ∷ 8 ∷ 0 ∷ 0 ∷ 0 ∷ 0 ∷ 0 ∷ 1 ∷ 0 ∷ []) (2 ∷ 0 ∷ 6 ∷ 0 ∷ []) (Some (Status 4 6)) []
    ∷ row (0x83 ∷ 3 ∷ 0x40 ∷ 4 ∷ 8 ∷ 0 ∷ 0 ∷ 0 ∷ 0 ∷ 0 ∷ 1 ∷ 0 ∷ 3 ∷ 0 ∷ 0 ∷ 0 ∷ 0xc ∷ 0x7c ∷ 1 ∷ 1 ∷ []) (2 ∷ 0 ∷ 0 ∷ 0 ∷ []) None []
    ∷ row (0x67 ∷ 4 ∷ 0 ∷ 0 ∷ 0xc8 ∷ 0 ∷ []) (2 ∷ 0 ∷ 0 ∷ 0 ∷ []) None []
    ∷ row (no_job_status 2) (2 ∷ 0 ∷ 0 ∷ 0 ∷ []) None []
    ∷ []

-- each Block Status
abbrev pub in_block : List Row
in_block =
    row (0x67 ∷ 0 ∷ 0 ∷ 0 ∷ 0xc8 ∷ 0 ∷ []) (2 ∷ 0 ∷ 0 ∷ 0 ∷ []) None ((2, chunk) ∷ [])
    ∷ row (0x67 ∷ 0x40 ∷ 0 ∷ 0 ∷ 0xc8 ∷ 0 ∷ []) (2 ∷ 0 ∷ 0 ∷ 100 ∷ []) None ((2, update_get) ∷ [])
    ∷ row (0x67 ∷ 0x80 ∷ 0 ∷ 0 ∷ 0xc8 ∷ 0 ∷ 1 ∷ []) (2 ∷ 0 ∷ 0 ∷ 0 ∷ []) None ((2, chunk) ∷ [])
    ∷ row (0x67 ∷ 0x80 ∷ 0 ∷ 0 ∷ 0xc8 ∷ 0 ∷ 0 ∷ []) (2 ∷ 0 ∷ 0 ∷ 100 ∷ []) None ((2, update_get) ∷ [])
    ∷ row (0x67 ∷ 0x80 ∷ 0 ∷ 0 ∷ 0xc8 ∷ 0 ∷ 2 ∷ []) (2 ∷ 0 ∷ 0 ∷ 0 ∷ []) None []
    ∷ row (0x67 ∷ 0x80 ∷ 0 ∷ 0 ∷ 0xc8 ∷ 0 ∷ 1 ∷ 0 ∷ []) (2 ∷ 0 ∷ 0 ∷ 0 ∷ []) None []
    ∷ row (0x67 ∷ 0xc0 ∷ 0 ∷ 0 ∷ 0xc8 ∷ 0 ∷ 0 ∷ []) (2 ∷ 0 ∷ 0 ∷ 0 ∷ []) None ((2, chunk) ∷ [])
    ∷ row (0x67 ∷ 0xc0 ∷ 0 ∷ 0 ∷ 0xc8 ∷ 0 ∷ 0 ∷ 0 ∷ []) (2 ∷ 0 ∷ 0 ∷ 0 ∷ []) None ((2, chunk) ∷ [])
    ∷ row (0x67 ∷ 0xc0 ∷ 0 ∷ 0 ∷ 0xc8 ∷ 0 ∷ 1 ∷ []) (2 ∷ 0 ∷ 0 ∷ 0 ∷ []) None []
    ∷ row (0x67 ∷ 0xc0 ∷ 0 ∷ 0 ∷ 0xc8 ∷ 0 ∷ []) (2 ∷ 0 ∷ 0 ∷ 100 ∷ []) None ((2, update_get) ∷ [])
    ∷ row (0x67 ∷ 0x40 ∷ 1 ∷ 0 ∷ 0xc8 ∷ 0 ∷ []) (2 ∷ 0 ∷ 0 ∷ 0 ∷ []) None []
    ∷ row (0x67 ∷ 0x40 ∷ 0 ∷ 0 ∷ 0xc9 ∷ 0 ∷ []) (2 ∷ 0 ∷ 0 ∷ 0 ∷ []) None []
    ∷ row (0x67 ∷ 4 ∷ 0 ∷ 0 ∷ 0xc8 ∷ 0 ∷ []) (2 ∷ 0 ∷ 4 ∷ 0 ∷ []) (Some (Status 5 4)) []
    ∷ row (0x67 ∷ 0x44 ∷ 1 ∷ 0 ∷ 0 ∷ 0 ∷ []) (2 ∷ 0 ∷ 4 ∷ 0 ∷ []) (Some (Status 5 4)) []
    ∷ row (0x67 ∷ 0x41 ∷ 9 ∷ 0 ∷ 0xc8 ∷ 0 ∷ []) (2 ∷ 0 ∷ 1 ∷ 0 ∷ []) (Some (Status 5 1)) []
    ∷ row (0x68 ∷ []) (2 ∷ 0 ∷ 0 ∷ 0 ∷ []) None []
    ∷ row (0x68 ∷ 0 ∷ []) (2 ∷ 0 ∷ 0 ∷ 0 ∷ []) None []
    ∷ row (0x83 ∷ 3 ∷ 4 ∷ 0 ∷ []) (2 ∷ 0 ∷ 0 ∷ 0 ∷ []) None []
    ∷ row (no_job_status 2) (2 ∷ 0 ∷ 0 ∷ 0 ∷ []) None []
    ∷ []
