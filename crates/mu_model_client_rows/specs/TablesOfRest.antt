-- What each answer does in the later steps.
use Rattle.std.specs.Prelude.{List, [], ◌∷◌, Some, None}
use Rattle.mu_model_client.specs.declared.Dropped.TheVariants.{Status, Phase}
use Rattle.mu_model_client_rows.specs.Scenes.{update_get, update_apply, information_get, chunk, metadata_status, update_status, no_job_status, shown_image, Row, row}

-- each Block Status to Block Get
abbrev pub in_get : List Row
in_get =
    row (0x67 ∷ 0 ∷ 0 ∷ 0 ∷ 0xc8 ∷ 0 ∷ []) (2 ∷ 0 ∷ 0 ∷ 0 ∷ []) None ((2, chunk) ∷ [])
    ∷ row (0x67 ∷ 0x40 ∷ 0 ∷ 0 ∷ 0xc8 ∷ 0 ∷ []) (2 ∷ 0 ∷ 0 ∷ 100 ∷ []) None ((2, update_get) ∷ [])
    ∷ row (0x67 ∷ 0x80 ∷ 0 ∷ 0 ∷ 0xc8 ∷ 0 ∷ 1 ∷ []) (2 ∷ 0 ∷ 0 ∷ 0 ∷ []) None ((2, chunk) ∷ [])
    ∷ row (0x67 ∷ 0x80 ∷ 0 ∷ 0 ∷ 0xc8 ∷ 0 ∷ 0 ∷ []) (2 ∷ 0 ∷ 0 ∷ 100 ∷ []) None ((2, update_get) ∷ [])
    ∷ row (0x67 ∷ 0x80 ∷ 0 ∷ 0 ∷ 0xc8 ∷ 0 ∷ 2 ∷ []) (2 ∷ 0 ∷ 0 ∷ 0 ∷ []) None []
    ∷ row (0x67 ∷ 0x80 ∷ 0 ∷ 0 ∷ 0xc8 ∷ 0 ∷ 1 ∷ 0 ∷ []) (2 ∷ 0 ∷ 0 ∷ 0 ∷ []) None []
    ∷ row (0x67 ∷ 0xc0 ∷ 0 ∷ 0 ∷ 0xc8 ∷ 0 ∷ 0 ∷ []) (2 ∷ 0 ∷ 0 ∷ 0 ∷ []) None ((2, chunk) ∷ [])
    ∷ row (0x67 ∷ 0xc0 ∷ 0 ∷ 0 ∷ 0xc8 ∷ 0 ∷ 0 ∷ 0 ∷ []) (2 ∷ 0 ∷ 0 ∷ 0 ∷ []) None ((2, chunk) ∷ [])
    ∷ row (0x67 ∷ 0xc0 ∷ 0 ∷ 0 ∷ 0xc8 ∷ 0 ∷ 1 ∷ []) (2 ∷ 0 ∷ 0 ∷ 0 ∷ []) None []
    ∷ row (0x67 ∷ 0xc0 ∷ 0 ∷ 0 ∷ 0xc8 ∷ 0 ∷ []) (2 ∷ 0 ∷ 0 ∷ 100 ∷ []) None ((2, update_get) ∷ [])
    ∷ row (0x67 ∷ 0x40 ∷ 1 ∷ 0 ∷ 0xc8 ∷ 0 ∷ []) (2 ∷ 0 ∷ 0 ∷ 0 ∷ []) None []
    ∷ row (0x67 ∷ 0x40 ∷ 0 ∷ 0 ∷ 0xc9 ∷ 0 ∷ []) (2 ∷ 0 ∷ 0 ∷ 0 ∷ []) None []
    ∷ row (0x67 ∷ 4 ∷ 0 ∷ 0 ∷ 0xc8 ∷ 0 ∷ []) (2 ∷ 0 ∷ 4 ∷ 0 ∷ []) (Some (Status 7 4)) []
    ∷ row (0x67 ∷ 0x44 ∷ 1 ∷ 0 ∷ 0 ∷ 0 ∷ []) (2 ∷ 0 ∷ 4 ∷ 0 ∷ []) (Some (Status 7 4)) []
    ∷ row (0x67 ∷ 0x41 ∷ 9 ∷ 0 ∷ 0xc8 ∷ 0 ∷ []) (2 ∷ 0 ∷ 1 ∷ 0 ∷ []) (Some (Status 7 1)) []
    ∷ row (0x68 ∷ []) (2 ∷ 0 ∷ 0 ∷ 0 ∷ []) None []
    ∷ row (0x68 ∷ 0 ∷ []) (2 ∷ 0 ∷ 0 ∷ 0 ∷ []) None []
    ∷ row (0x83 ∷ 3 ∷ 4 ∷ 0 ∷ []) (2 ∷ 0 ∷ 0 ∷ 0 ∷ []) None []
    ∷ row (no_job_status 2) (2 ∷ 0 ∷ 0 ∷ 0 ∷ []) None []
    ∷ []

-- each report, in pull
abbrev pub in_pull : List Row
in_pull =
    row (0x67 ∷ 0 ∷ 0 ∷ 0 ∷ 0xc8 ∷ 0 ∷ []) (2 ∷ 0 ∷ 0 ∷ 0 ∷ []) None ((2, chunk) ∷ [])
    ∷ row (0x67 ∷ 0x40 ∷ 0 ∷ 0 ∷ 0xc8 ∷ 0 ∷ []) (2 ∷ 0 ∷ 0 ∷ 100 ∷ []) None ((2, update_get) ∷ [])
    ∷ row (0x67 ∷ 0x80 ∷ 0 ∷ 0 ∷ 0xc8 ∷ 0 ∷ 1 ∷ []) (2 ∷ 0 ∷ 0 ∷ 0 ∷ []) None ((2, chunk) ∷ [])
    ∷ row (0x67 ∷ 0x80 ∷ 0 ∷ 0 ∷ 0xc8 ∷ 0 ∷ 0 ∷ []) (2 ∷ 0 ∷ 0 ∷ 100 ∷ []) None ((2, update_get) ∷ [])
    ∷ row (0x67 ∷ 0x80 ∷ 0 ∷ 0 ∷ 0xc8 ∷ 0 ∷ 2 ∷ []) (2 ∷ 0 ∷ 0 ∷ 0 ∷ []) None []
    ∷ row (0x67 ∷ 0x80 ∷ 0 ∷ 0 ∷ 0xc8 ∷ 0 ∷ 1 ∷ 0 ∷ []) (2 ∷ 0 ∷ 0 ∷ 0 ∷ []) None []
    ∷ row (0x67 ∷ 0xc0 ∷ 0 ∷ 0 ∷ 0xc8 ∷ 0 ∷ 0 ∷ []) (2 ∷ 0 ∷ 0 ∷ 0 ∷ []) None ((2, chunk) ∷ [])
    ∷ row (0x67 ∷ 0xc0 ∷ 0 ∷ 0 ∷ 0xc8 ∷ 0 ∷ 0 ∷ 0 ∷ []) (2 ∷ 0 ∷ 0 ∷ 0 ∷ []) None ((2, chunk) ∷ [])
    ∷ row (0x67 ∷ 0xc0 ∷ 0 ∷ 0 ∷ 0xc8 ∷ 0 ∷ 1 ∷ []) (2 ∷ 0 ∷ 0 ∷ 0 ∷ []) None []
    ∷ row (0x67 ∷ 0xc0 ∷ 0 ∷ 0 ∷ 0xc8 ∷ 0 ∷ []) (2 ∷ 0 ∷ 0 ∷ 100 ∷ []) None ((2, update_get) ∷ [])
    ∷ row (0x67 ∷ 0x40 ∷ 1 ∷ 0 ∷ 0xc8 ∷ 0 ∷ []) (2 ∷ 0 ∷ 0 ∷ 0 ∷ []) None []
    ∷ row (0x67 ∷ 0x40 ∷ 0 ∷ 0 ∷ 0xc9 ∷ 0 ∷ []) (2 ∷ 0 ∷ 0 ∷ 0 ∷ []) None []
    ∷ row (0x67 ∷ 4 ∷ 0 ∷ 0 ∷ 0xc8 ∷ 0 ∷ []) (2 ∷ 0 ∷ 4 ∷ 0 ∷ []) (Some (Status 6 4)) []
    ∷ row (0x67 ∷ 0x44 ∷ 1 ∷ 0 ∷ 0 ∷ 0 ∷ []) (2 ∷ 0 ∷ 4 ∷ 0 ∷ []) (Some (Status 6 4)) []
    ∷ row (0x67 ∷ 0x41 ∷ 9 ∷ 0 ∷ 0xc8 ∷ 0 ∷ []) (2 ∷ 0 ∷ 1 ∷ 0 ∷ []) (Some (Status 6 1)) []
    ∷ row (0x68 ∷ []) (2 ∷ 0 ∷ 0 ∷ 100 ∷ []) None ((2, update_get) ∷ [])
    ∷ row (0x68 ∷ 0 ∷ []) (2 ∷ 0 ∷ 0 ∷ 0 ∷ []) None ((2, chunk) ∷ [])
    ∷ row (0x83 ∷ 3 ∷ 4 ∷ 0 ∷ []) (2 ∷ 0 ∷ 0 ∷ 0 ∷ []) None []
    ∷ row (no_job_status 2) (2 ∷ 0 ∷ 0 ∷ 0 ∷ []) None []
    ∷ row (0x68 ∷ 1 ∷ []) (2 ∷ 0 ∷ 0 ∷ 0 ∷ []) None []
    ∷ row (0x68 ∷ 0 ∷ 0 ∷ []) (2 ∷ 0 ∷ 0 ∷ 0 ∷ []) None ((2, chunk) ∷ [])
    ∷ row (0x68 ∷ 0 ∷ 1 ∷ []) (2 ∷ 0 ∷ 0 ∷ 0 ∷ []) None []
    ∷ []

-- each Update Status: its status isn't looked at, its ID is
abbrev pub in_verify : List Row
in_verify =
    row (no_job_status 0) (2 ∷ 0 ∷ 0 ∷ 100 ∷ []) None []
    ∷ row (update_status 0x20 7) (1 ∷ 0 ∷ 0 ∷ 100 ∷ []) (Some (Phase 1)) []
    ∷ row (update_status 0x20 8) (2 ∷ 0 ∷ 0 ∷ 100 ∷ []) None []
    ∷ row (update_status 0x40 7) (2 ∷ 0 ∷ 0 ∷ 100 ∷ []) None []
    ∷ row (update_status 0x40 8) (2 ∷ 0 ∷ 0 ∷ 100 ∷ []) None []
    ∷ row (update_status 0x60 7) (3 ∷ 0 ∷ 0 ∷ 100 ∷ []) None []
    ∷ row (update_status 0x60 8) (2 ∷ 0 ∷ 0 ∷ 100 ∷ []) None []
    ∷ row (update_status 0x80 7) (4 ∷ 0 ∷ 0 ∷ 100 ∷ []) None ((2, update_apply) ∷ [])
    ∷ row (update_status 0x80 8) (2 ∷ 0 ∷ 0 ∷ 100 ∷ []) None []
    ∷ row (update_status 0xa0 7) (5 ∷ 0 ∷ 0 ∷ 100 ∷ []) (Some (Phase 5)) []
    ∷ row (update_status 0xa0 8) (2 ∷ 0 ∷ 0 ∷ 100 ∷ []) None []
    ∷ row (update_status 0xc0 7) (6 ∷ 0 ∷ 0 ∷ 100 ∷ []) None ((2, update_apply) ∷ [])
    ∷ row (update_status 0xc0 8) (2 ∷ 0 ∷ 0 ∷ 100 ∷ []) None []
    ∷ row (no_job_status 2) (2 ∷ 0 ∷ 0 ∷ 100 ∷ []) None []
    ∷ row (update_status 0x22 7) (1 ∷ 0 ∷ 0 ∷ 100 ∷ []) (Some (Phase 1)) []
    ∷ row (update_status 0x22 8) (2 ∷ 0 ∷ 0 ∷ 100 ∷ []) None []
    ∷ row (update_status 0x42 7) (2 ∷ 0 ∷ 0 ∷ 100 ∷ []) None []
    ∷ row (update_status 0x42 8) (2 ∷ 0 ∷ 0 ∷ 100 ∷ []) None []
    ∷ row (update_status 0x62 7) (3 ∷ 0 ∷ 0 ∷ 100 ∷ []) None []
    ∷ row (update_status 0x62 8) (2 ∷ 0 ∷ 0 ∷ 100 ∷ []) None []
    ∷ row (update_status 0x82 7) (4 ∷ 0 ∷ 0 ∷ 100 ∷ []) None ((2, update_apply) ∷ [])
    ∷ row (update_status 0x82 8) (2 ∷ 0 ∷ 0 ∷ 100 ∷ []) None []
    ∷ row (update_status 0xa2 7) (5 ∷ 0 ∷ 0 ∷ 100 ∷ []) (Some (Phase 5)) []
    ∷ row (update_status 0xa2 8) (2 ∷ 0 ∷ 0 ∷ 100 ∷ []) None []
    ∷ row (update_status 0xc2 7) (6 ∷ 0 ∷ 0 ∷ 100 ∷ []) None ((2, update_apply) ∷ [])
    ∷ row (update_status 0xc2 8) (2 ∷ 0 ∷ 0 ∷ 100 ∷ []) None []
    ∷ row shown_image (8 ∷ 0 ∷ 0 ∷ 100 ∷ []) None []
    ∷ row (metadata_status 5) (2 ∷ 0 ∷ 0 ∷ 100 ∷ []) None []
    ∷ []

-- each Update Status: status and phase count with the transfer's ID alone
abbrev pub in_apply : List Row
in_apply =
    row (no_job_status 0) (4 ∷ 0 ∷ 0 ∷ 100 ∷ []) None []
    ∷ row (update_status 0x20 7) (4 ∷ 0 ∷ 0 ∷ 100 ∷ []) None []
    ∷ row (update_status 0x20 8) (4 ∷ 0 ∷ 0 ∷ 100 ∷ []) None []
    ∷ row (update_status 0x40 7) (4 ∷ 0 ∷ 0 ∷ 100 ∷ []) None []
    ∷ row (update_status 0x40 8) (4 ∷ 0 ∷ 0 ∷ 100 ∷ []) None []
    ∷ row (update_status 0x60 7) (4 ∷ 0 ∷ 0 ∷ 100 ∷ []) None []
    ∷ row (update_status 0x60 8) (4 ∷ 0 ∷ 0 ∷ 100 ∷ []) None []
    ∷ row (update_status 0x80 7) (4 ∷ 0 ∷ 0 ∷ 100 ∷ []) None []
    ∷ row (update_status 0x80 8) (4 ∷ 0 ∷ 0 ∷ 100 ∷ []) None []
    ∷ row (update_status 0xa0 7) (5 ∷ 0 ∷ 0 ∷ 100 ∷ []) None []
    ∷ row (update_status 0xa0 8) (4 ∷ 0 ∷ 0 ∷ 100 ∷ []) None []
    ∷ row (update_status 0xc0 7) (6 ∷ 0 ∷ 0 ∷ 100 ∷ []) None ((2, information_get) ∷ [])
    ∷ row (update_status 0xc0 8) (4 ∷ 0 ∷ 0 ∷ 100 ∷ []) None []
    ∷ row (no_job_status 2) (4 ∷ 0 ∷ 0 ∷ 100 ∷ []) None []
    ∷ row (update_status 0x22 7) (4 ∷ 2 ∷ 0 ∷ 100 ∷ []) (Some (Status 9 2)) []
    ∷ row (update_status 0x22 8) (4 ∷ 0 ∷ 0 ∷ 100 ∷ []) None []
    ∷ row (update_status 0x42 7) (4 ∷ 2 ∷ 0 ∷ 100 ∷ []) (Some (Status 9 2)) []
    ∷ row (update_status 0x42 8) (4 ∷ 0 ∷ 0 ∷ 100 ∷ []) None []
    ∷ row (update_status 0x62 7) (4 ∷ 2 ∷ 0 ∷ 100 ∷ []) (Some (Status 9 2)) []
    ∷ row (update_status 0x62 8) (4 ∷ 0 ∷ 0 ∷ 100 ∷ []) None []
    ∷ row (update_status 0x82 7) (4 ∷ 2 ∷ 0 ∷ 100 ∷ []) (Some (Status 9 2)) []
    ∷ row (update_status 0x82 8) (4 ∷ 0 ∷ 0 ∷ 100 ∷ []) None []
    ∷ row (update_status 0xa2 7) (5 ∷ 2 ∷ 0 ∷ 100 ∷ []) (Some (Status 9 2)) []
    ∷ row (update_status 0xa2 8) (4 ∷ 0 ∷ 0 ∷ 100 ∷ []) None []
    ∷ row (update_status 0xc2 7) (6 ∷ 2 ∷ 0 ∷ 100 ∷ []) (Some (Status 9 2)) []
    ∷ row (update_status 0xc2 8) (4 ∷ 0 ∷ 0 ∷ 100 ∷ []) None []
    ∷ row shown_image (8 ∷ 0 ∷ 0 ∷ 100 ∷ []) None []
    ∷ row (metadata_status 5) (4 ∷ 0 ∷ 0 ∷ 100 ∷ []) None []
    ∷ []

-- each Update Status, and Information Statuses
abbrev pub in_confirm : List Row
in_confirm =
    row (no_job_status 0) (6 ∷ 0 ∷ 0 ∷ 100 ∷ []) None []
    ∷ row (update_status 0x20 7) (6 ∷ 0 ∷ 0 ∷ 100 ∷ []) None []
    ∷ row (update_status 0x20 8) (6 ∷ 0 ∷ 0 ∷ 100 ∷ []) None []
    ∷ row (update_status 0x40 7) (6 ∷ 0 ∷ 0 ∷ 100 ∷ []) None []
    ∷ row (update_status 0x40 8) (6 ∷ 0 ∷ 0 ∷ 100 ∷ []) None []
    ∷ row (update_status 0x60 7) (6 ∷ 0 ∷ 0 ∷ 100 ∷ []) None []
    ∷ row (update_status 0x60 8) (6 ∷ 0 ∷ 0 ∷ 100 ∷ []) None []
    ∷ row (update_status 0x80 7) (6 ∷ 0 ∷ 0 ∷ 100 ∷ []) None []
    ∷ row (update_status 0x80 8) (6 ∷ 0 ∷ 0 ∷ 100 ∷ []) None []
    ∷ row (update_status 0xa0 7) (6 ∷ 0 ∷ 0 ∷ 100 ∷ []) None []
    ∷ row (update_status 0xa0 8) (6 ∷ 0 ∷ 0 ∷ 100 ∷ []) None []
    ∷ row (update_status 0xc0 7) (6 ∷ 0 ∷ 0 ∷ 100 ∷ []) None []
    ∷ row (update_status 0xc0 8) (6 ∷ 0 ∷ 0 ∷ 100 ∷ []) None []
    ∷ row (no_job_status 2) (6 ∷ 0 ∷ 0 ∷ 100 ∷ []) None []
    ∷ row (update_status 0x22 7) (6 ∷ 0 ∷ 0 ∷ 100 ∷ []) None []
    ∷ row (update_status 0x22 8) (6 ∷ 0 ∷ 0 ∷ 100 ∷ []) None []
    ∷ row (update_status 0x42 7) (6 ∷ 0 ∷ 0 ∷ 100 ∷ []) None []
    ∷ row (update_status 0x42 8) (6 ∷ 0 ∷ 0 ∷ 100 ∷ []) None []
    ∷ row (update_status 0x62 7) (6 ∷ 0 ∷ 0 ∷ 100 ∷ []) None []
    ∷ row (update_status 0x62 8) (6 ∷ 0 ∷ 0 ∷ 100 ∷ []) None []
    ∷ row (update_status 0x82 7) (6 ∷ 0 ∷ 0 ∷ 100 ∷ []) None []
    ∷ row (update_status 0x82 8) (6 ∷ 0 ∷ 0 ∷ 100 ∷ []) None []
    ∷ row (update_status 0xa2 7) (6 ∷ 0 ∷ 0 ∷ 100 ∷ []) None []
    ∷ row (update_status 0xa2 8) (6 ∷ 0 ∷ 0 ∷ 100 ∷ []) None []
    ∷ row (update_status 0xc2 7) (6 ∷ 0 ∷ 0 ∷ 100 ∷ []) None []
    ∷ row (update_status 0xc2 8) (6 ∷ 0 ∷ 0 ∷ 100 ∷ []) None []
    ∷ row shown_image (8 ∷ 0 ∷ 0 ∷ 100 ∷ []) None []
    ∷ row (0x83 ∷ 9 ∷ 1 ∷ 1 ∷ 0x26 ∷ 0xff ∷ 0xff ∷ 2 ∷ 0 ∷ 0 ∷ 0 ∷ 0xba ∷ 0x78 ∷ 0x16 ∷ 0xbf ∷ 0x8f ∷ 1 ∷ 0xcf ∷ 0xea ∷ 0x41 ∷ 0x41 ∷ 0x40 ∷ 0xde ∷ 0x5d ∷ 0xae ∷ 0x22 ∷ 0x23 ∷ 0xb0 ∷ 3 ∷ 0x61 ∷ 0xa3 ∷ 0x96 ∷ 0x17 ∷ 0x7a ∷ 0x9c ∷ 0xb4 ∷ 0x10 ∷ 0xff ∷ 0x61 ∷ 0xf2 ∷ 0 ∷ 0x15 ∷ 0xad ∷ 0 ∷ []) (6 ∷ 0 ∷ 0 ∷ 100 ∷ []) None []
    ∷ row (0x83 ∷ 9 ∷ 1 ∷ 0 ∷ []) (6 ∷ 0 ∷ 0 ∷ 100 ∷ []) None []
    ∷ row (0x83 ∷ 9 ∷ 1 ∷ 0 ∷ 0x26 ∷ 0xff ∷ 0xff ∷ 3 ∷ 0 ∷ 0 ∷ 0 ∷ 0xba ∷ 0x78 ∷ 0x16 ∷ 0xbf ∷ 0x8f ∷ 1 ∷ 0xcf ∷ 0xea ∷ 0x41 ∷ 0x41 ∷ 0x40 ∷ 0xde ∷ 0x5d ∷ 0xae ∷ 0x22 ∷ 0x23 ∷ 0xb0 ∷ 3 ∷ 0x61 ∷ 0xa3 ∷ 0x96 ∷ 0x17 ∷ 0x7a ∷ 0x9c ∷ 0xb4 ∷ 0x10 ∷ 0xff ∷ 0x61 ∷ 0xf2 ∷ 0 ∷ 0x15 ∷ 0xad ∷ 0 ∷ []) (6 ∷ 0 ∷ 0 ∷ 100 ∷ []) None []
    ∷ row (0x83 ∷ 9 ∷ 1 ∷ 0 ∷ 0x26 ∷ 0xff ∷ 0xff ∷ 3 ∷ 0 ∷ 0 ∷ 0 ∷ 0xba ∷ 0x78 ∷ 0x16 ∷ 0xbf ∷ 0x8f ∷ 1 ∷ 0xcf ∷ 0xea ∷ 0x41 ∷ 0x41 ∷ 0x40 ∷ 0xde ∷ 0x5d ∷ 0xae ∷ 0x22 ∷ 0x23 ∷ 0xb0 ∷ 3 ∷ 0x61 ∷ 0xa3 ∷ 0x96 ∷ 0x17 ∷ 0x7a ∷ 0x9c ∷ 0xb4 ∷ 0x10 ∷ 0xff ∷ 0x61 ∷ 0xf2 ∷ 0 ∷ 0x15 ∷ 0xad ∷ 0 ∷ 0x26 ∷ 0xff ∷ 0xff ∷ 2 ∷ 0 ∷ 0 ∷ 0 ∷ 0xba ∷ 0x78 ∷ 0x16 ∷ 0xbf ∷ 0x8f ∷ 1 ∷ 0xcf ∷ 0xea ∷ 0x41 ∷ 0x41 ∷ 0x40 ∷ 0xde ∷ 0x5d ∷ 0xae ∷ 0x22 ∷ 0x23 ∷ 0xb0 ∷ 3 ∷ 0x61 ∷ 0xa3 ∷ 0x96 ∷ 0x17 ∷ 0x7a ∷ 0x9c ∷ 0xb4 ∷ 0x10 ∷ 0xff ∷ 0x61 ∷ 0xf2 ∷ 0 ∷ 0x15 ∷ 0xad ∷ 0 ∷ []) (6 ∷ 0 ∷ 0 ∷ 100 ∷ []) None []
    ∷ row (0x83 ∷ 9 ∷ 1 ∷ 0 ∷ 0x26 ∷ 0xff ∷ 0xff ∷ 2 ∷ 0 ∷ 0 ∷ 0 ∷ 0xba ∷ 0x78 ∷ 0x16 ∷ 0xbf ∷ 0x8f ∷ 1 ∷ 0xcf ∷ 0xea ∷ 0x41 ∷ 0x41 ∷ 0x40 ∷ 0xde ∷ 0x5d ∷ 0xae ∷ 0x22 ∷ 0x23 ∷ 0xb0 ∷ 3 ∷ 0x61 ∷ 0xa3 ∷ 0x96 ∷ 0x17 ∷ 0x7a ∷ 0x9c ∷ 0xb4 ∷ 0x10 ∷ 0xff ∷ 0x61 ∷ 0xf2 ∷ 0 ∷ 0x15 ∷ 0xad ∷ 0 ∷ 0x26 ∷ 0xff ∷ 0xff ∷ 3 ∷ 0 ∷ 0 ∷ 0 ∷ 0xba ∷ 0x78 ∷ 0x16 ∷ 0xbf ∷ 0x8f ∷ 1 ∷ 0xcf ∷ 0xea ∷ 0x41 ∷ 0x41 ∷ 0x40 ∷ 0xde ∷ 0x5d ∷ 0xae ∷ 0x22 ∷ 0x23 ∷ 0xb0 ∷ 3 ∷ 0x61 ∷ 0xa3 ∷ 0x96 ∷ 0x17 ∷ 0x7a ∷ 0x9c ∷ 0xb4 ∷ 0x10 ∷ 0xff ∷ 0x61 ∷ 0xf2 ∷ 0 ∷ 0x15 ∷ 0xad ∷ 0 ∷ []) (8 ∷ 0 ∷ 0 ∷ 100 ∷ []) None []
    ∷ row (0x83 ∷ 9 ∷ 1 ∷ 0 ∷ 0x26 ∷ 0xfe ∷ 0xff ∷ 2 ∷ 0 ∷ 0 ∷ 0 ∷ 0xba ∷ 0x78 ∷ 0x16 ∷ 0xbf ∷ 0x8f ∷ 1 ∷ 0xcf ∷ 0xea ∷ 0x41 ∷ 0x41 ∷ 0x40 ∷ 0xde ∷ 0x5d ∷ 0xae ∷ 0x22 ∷ 0x23 ∷ 0xb0 ∷ 3 ∷ 0x61 ∷ 0xa3 ∷ 0x96 ∷ 0x17 ∷ 0x7a ∷ 0x9c ∷ 0xb4 ∷ 0x10 ∷ 0xff ∷ 0x61 ∷ 0xf2 ∷ 0 ∷ 0x15 ∷ 0xad ∷ 0 ∷ []) (6 ∷ 0 ∷ 0 ∷ 100 ∷ []) None []
    ∷ row (0x83 ∷ 9 ∷ 1 ∷ 0 ∷ 6 ∷ 0xff ∷ 0xff ∷ 2 ∷ 0 ∷ 0 ∷ 0 ∷ 0 ∷ []) (6 ∷ 0 ∷ 0 ∷ 100 ∷ []) None []
    ∷ []

-- each Update Status while it cancels
abbrev pub in_cancel : List Row
in_cancel =
    row (no_job_status 0) (7 ∷ 0 ∷ 0 ∷ 0 ∷ []) None []
    ∷ row (update_status 0x20 7) (7 ∷ 0 ∷ 0 ∷ 0 ∷ []) None []
    ∷ row (update_status 0x20 8) (7 ∷ 0 ∷ 0 ∷ 0 ∷ []) None []
    ∷ row (update_status 0x40 7) (7 ∷ 0 ∷ 0 ∷ 0 ∷ []) None []
    ∷ row (update_status 0x40 8) (7 ∷ 0 ∷ 0 ∷ 0 ∷ []) None []
    ∷ row (update_status 0x60 7) (7 ∷ 0 ∷ 0 ∷ 0 ∷ []) None []
    ∷ row (update_status 0x60 8) (7 ∷ 0 ∷ 0 ∷ 0 ∷ []) None []
    ∷ row (update_status 0x80 7) (7 ∷ 0 ∷ 0 ∷ 0 ∷ []) None []
    ∷ row (update_status 0x80 8) (7 ∷ 0 ∷ 0 ∷ 0 ∷ []) None []
    ∷ row (update_status 0xa0 7) (7 ∷ 0 ∷ 0 ∷ 0 ∷ []) None []
    ∷ row (update_status 0xa0 8) (7 ∷ 0 ∷ 0 ∷ 0 ∷ []) None []
    ∷ row (update_status 0xc0 7) (7 ∷ 0 ∷ 0 ∷ 0 ∷ []) None []
    ∷ row (update_status 0xc0 8) (7 ∷ 0 ∷ 0 ∷ 0 ∷ []) None []
    ∷ row (no_job_status 2) (7 ∷ 0 ∷ 0 ∷ 0 ∷ []) None []
    ∷ row (update_status 0x22 7) (7 ∷ 0 ∷ 0 ∷ 0 ∷ []) None []
    ∷ row (update_status 0x22 8) (7 ∷ 0 ∷ 0 ∷ 0 ∷ []) None []
    ∷ row (update_status 0x42 7) (7 ∷ 0 ∷ 0 ∷ 0 ∷ []) None []
    ∷ row (update_status 0x42 8) (7 ∷ 0 ∷ 0 ∷ 0 ∷ []) None []
    ∷ row (update_status 0x62 7) (7 ∷ 0 ∷ 0 ∷ 0 ∷ []) None []
    ∷ row (update_status 0x62 8) (7 ∷ 0 ∷ 0 ∷ 0 ∷ []) None []
    ∷ row (update_status 0x82 7) (7 ∷ 0 ∷ 0 ∷ 0 ∷ []) None []
    ∷ row (update_status 0x82 8) (7 ∷ 0 ∷ 0 ∷ 0 ∷ []) None []
    ∷ row (update_status 0xa2 7) (7 ∷ 0 ∷ 0 ∷ 0 ∷ []) None []
    ∷ row (update_status 0xa2 8) (7 ∷ 0 ∷ 0 ∷ 0 ∷ []) None []
    ∷ row (update_status 0xc2 7) (7 ∷ 0 ∷ 0 ∷ 0 ∷ []) None []
    ∷ row (update_status 0xc2 8) (7 ∷ 0 ∷ 0 ∷ 0 ∷ []) None []
    ∷ row shown_image (7 ∷ 0 ∷ 0 ∷ 0 ∷ []) None []
    ∷ row (metadata_status 5) (7 ∷ 0 ∷ 0 ∷ 0 ∷ []) None []
    ∷ row (0x67 ∷ 4 ∷ 0 ∷ 0 ∷ 0xc8 ∷ 0 ∷ []) (7 ∷ 0 ∷ 0 ∷ 0 ∷ []) None []
    ∷ []
