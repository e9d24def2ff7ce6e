-- Distributions to two receivers.
use Rattle.std.specs.Prelude.{List, [], ◌∷◌}
use Rattle.mu_model_distributor_rows.specs.Scenes.{no_job_status, receivers_get, distribution_get, distribution_start, distribution_suspend, distribution_cancel, distribution_apply, block_start, chunk, block_get, blob_information_get, update_status, metadata_status, no_distribution, distribution_status, Turn, quiet, asks, boots, passes, sends, metadata_check, transfer_of, update_get, update_apply, update_cancel, information_get, metadata_refused, limits, transfer_told, transfer_refused, block_status, shown_image, comes, update_start}

-- one receiver verifies the image and applies it, the other fails to verify it; the next distribution begins without their progress
abbrev pub one_fails : List Turn
one_fails =
    asks (distribution_start 0 5 0 5 0 0xc0) (distribution_status 0 1) (4 ∷ 1 ∷ 0 ∷ []) ((10 ∷ 0 ∷ 0 ∷ 0 ∷ []) ∷ (10 ∷ 0 ∷ 0 ∷ 0 ∷ []) ∷ [])
    ∷ sends (passes 0) ((2, metadata_check) ∷ (3, metadata_check) ∷ []) (4 ∷ 1 ∷ 0 ∷ []) ((10 ∷ 0 ∷ 0 ∷ 0 ∷ []) ∷ (10 ∷ 0 ∷ 0 ∷ 0 ∷ []) ∷ [])
    ∷ quiet (comes 2 metadata_status) (4 ∷ 1 ∷ 0 ∷ []) ((10 ∷ 0 ∷ 0 ∷ 0 ∷ []) ∷ (10 ∷ 0 ∷ 0 ∷ 0 ∷ []) ∷ [])
    ∷ quiet (comes 3 metadata_status) (4 ∷ 1 ∷ 0 ∷ []) ((10 ∷ 0 ∷ 0 ∷ 0 ∷ []) ∷ (10 ∷ 0 ∷ 0 ∷ 0 ∷ []) ∷ [])
    ∷ sends (passes 0) ((2, update_start 1) ∷ (3, update_start 1) ∷ []) (4 ∷ 1 ∷ 0 ∷ []) ((10 ∷ 0 ∷ 0 ∷ 0 ∷ []) ∷ (10 ∷ 0 ∷ 0 ∷ 0 ∷ []) ∷ [])
    ∷ quiet (comes 2 (update_status 0x40 1)) (5 ∷ 1 ∷ 0 ∷ []) ((2 ∷ 0 ∷ 0 ∷ 0 ∷ []) ∷ (10 ∷ 0 ∷ 0 ∷ 0 ∷ []) ∷ [])
    ∷ quiet (comes 3 (update_status 0x40 1)) (6 ∷ 1 ∷ 0 ∷ []) ((2 ∷ 0 ∷ 0 ∷ 0 ∷ []) ∷ (2 ∷ 0 ∷ 0 ∷ 0 ∷ []) ∷ [])
    ∷ sends (passes 0) ((2, blob_information_get) ∷ (3, blob_information_get) ∷ []) (6 ∷ 1 ∷ 0 ∷ []) ((2 ∷ 0 ∷ 0 ∷ 0 ∷ []) ∷ (2 ∷ 0 ∷ 0 ∷ 0 ∷ []) ∷ [])
    ∷ quiet (comes 2 limits) (6 ∷ 1 ∷ 0 ∷ []) ((2 ∷ 0 ∷ 0 ∷ 0 ∷ []) ∷ (2 ∷ 0 ∷ 0 ∷ 0 ∷ []) ∷ [])
    ∷ quiet (comes 3 limits) (6 ∷ 1 ∷ 0 ∷ []) ((2 ∷ 0 ∷ 0 ∷ 0 ∷ []) ∷ (2 ∷ 0 ∷ 0 ∷ 0 ∷ []) ∷ [])
    ∷ sends (passes 0) ((2, transfer_of 1) ∷ (3, transfer_of 1) ∷ []) (6 ∷ 1 ∷ 0 ∷ []) ((2 ∷ 0 ∷ 0 ∷ 0 ∷ []) ∷ (2 ∷ 0 ∷ 0 ∷ 0 ∷ []) ∷ [])
    ∷ quiet (comes 2 (transfer_told 2 1 1)) (6 ∷ 1 ∷ 0 ∷ []) ((2 ∷ 0 ∷ 0 ∷ 0 ∷ []) ∷ (2 ∷ 0 ∷ 0 ∷ 0 ∷ []) ∷ [])
    ∷ quiet (comes 3 (transfer_told 2 1 1)) (6 ∷ 1 ∷ 0 ∷ []) ((2 ∷ 0 ∷ 0 ∷ 0 ∷ []) ∷ (2 ∷ 0 ∷ 0 ∷ 0 ∷ []) ∷ [])
    ∷ sends (passes 0) ((2, block_start) ∷ (3, block_start) ∷ []) (6 ∷ 1 ∷ 0 ∷ []) ((2 ∷ 0 ∷ 0 ∷ 0 ∷ []) ∷ (2 ∷ 0 ∷ 0 ∷ 0 ∷ []) ∷ [])
    ∷ quiet (comes 2 (block_status 0)) (6 ∷ 1 ∷ 0 ∷ []) ((2 ∷ 0 ∷ 0 ∷ 0 ∷ []) ∷ (2 ∷ 0 ∷ 0 ∷ 0 ∷ []) ∷ [])
    ∷ quiet (comes 3 (block_status 0)) (6 ∷ 1 ∷ 0 ∷ []) ((2 ∷ 0 ∷ 0 ∷ 0 ∷ []) ∷ (2 ∷ 0 ∷ 0 ∷ 0 ∷ []) ∷ [])
    ∷ sends (passes 0) ((0xc000, chunk) ∷ []) (6 ∷ 1 ∷ 0 ∷ []) ((2 ∷ 0 ∷ 0 ∷ 0 ∷ []) ∷ (2 ∷ 0 ∷ 0 ∷ 0 ∷ []) ∷ [])
    ∷ sends (passes 0) ((2, block_get) ∷ (3, block_get) ∷ []) (6 ∷ 1 ∷ 0 ∷ []) ((2 ∷ 0 ∷ 0 ∷ 0 ∷ []) ∷ (2 ∷ 0 ∷ 0 ∷ 0 ∷ []) ∷ [])
    ∷ quiet (comes 2 (block_status 0x40)) (6 ∷ 1 ∷ 0 ∷ []) ((2 ∷ 0 ∷ 0 ∷ 100 ∷ []) ∷ (2 ∷ 0 ∷ 0 ∷ 0 ∷ []) ∷ [])
    ∷ quiet (comes 3 (block_status 0x40)) (6 ∷ 1 ∷ 0 ∷ []) ((2 ∷ 0 ∷ 0 ∷ 100 ∷ []) ∷ (2 ∷ 0 ∷ 0 ∷ 100 ∷ []) ∷ [])
    ∷ sends (passes 0) ((2, update_get) ∷ (3, update_get) ∷ []) (6 ∷ 1 ∷ 0 ∷ []) ((2 ∷ 0 ∷ 0 ∷ 100 ∷ []) ∷ (2 ∷ 0 ∷ 0 ∷ 100 ∷ []) ∷ [])
    ∷ quiet (comes 2 (update_status 0x80 1)) (7 ∷ 1 ∷ 0 ∷ []) ((4 ∷ 0 ∷ 0 ∷ 100 ∷ []) ∷ (2 ∷ 0 ∷ 0 ∷ 100 ∷ []) ∷ [])
    ∷ quiet (comes 3 (update_status 0xa0 1)) (8 ∷ 1 ∷ 0 ∷ []) ((4 ∷ 0 ∷ 0 ∷ 100 ∷ []) ∷ (5 ∷ 0 ∷ 0 ∷ 100 ∷ []) ∷ [])
    ∷ sends (passes 0) ((2, update_apply) ∷ []) (9 ∷ 3 ∷ 0 ∷ []) ((4 ∷ 0 ∷ 0 ∷ 100 ∷ []) ∷ (5 ∷ 0 ∷ 0 ∷ 100 ∷ []) ∷ [])
    ∷ quiet (comes 2 (update_status 0xc0 1)) (10 ∷ 3 ∷ 0 ∷ []) ((6 ∷ 0 ∷ 0 ∷ 100 ∷ []) ∷ (5 ∷ 0 ∷ 0 ∷ 100 ∷ []) ∷ [])
    ∷ sends (passes 0) ((2, information_get) ∷ []) (10 ∷ 3 ∷ 0 ∷ []) ((6 ∷ 0 ∷ 0 ∷ 100 ∷ []) ∷ (5 ∷ 0 ∷ 0 ∷ 100 ∷ []) ∷ [])
    ∷ quiet (comes 2 shown_image) (11 ∷ 3 ∷ 0 ∷ []) ((8 ∷ 0 ∷ 0 ∷ 100 ∷ []) ∷ (5 ∷ 0 ∷ 0 ∷ 100 ∷ []) ∷ [])
    ∷ quiet (passes 0) (12 ∷ 4 ∷ 0 ∷ []) ((8 ∷ 0 ∷ 0 ∷ 100 ∷ []) ∷ (5 ∷ 0 ∷ 0 ∷ 100 ∷ []) ∷ [])
    ∷ quiet (passes 0) (12 ∷ 4 ∷ 0 ∷ []) ((8 ∷ 0 ∷ 0 ∷ 100 ∷ []) ∷ (5 ∷ 0 ∷ 0 ∷ 100 ∷ []) ∷ [])
    ∷ asks (receivers_get 0 9) (0x83 ∷ 0x15 ∷ 2 ∷ 0 ∷ 0 ∷ 0 ∷ 2 ∷ 0 ∷ 4 ∷ 0xc8 ∷ 0 ∷ 3 ∷ 0x80 ∷ 2 ∷ 0xc8 ∷ 0 ∷ []) (12 ∷ 4 ∷ 0 ∷ []) ((8 ∷ 0 ∷ 0 ∷ 100 ∷ []) ∷ (5 ∷ 0 ∷ 0 ∷ 100 ∷ []) ∷ [])
    ∷ asks (distribution_start 0 5 0 5 0 0xc0) (distribution_status 0 1) (13 ∷ 1 ∷ 0 ∷ []) ((10 ∷ 0 ∷ 0 ∷ 0 ∷ []) ∷ (10 ∷ 0 ∷ 0 ∷ 0 ∷ []) ∷ [])
    ∷ asks (receivers_get 0 9) (0x83 ∷ 0x15 ∷ 2 ∷ 0 ∷ 0 ∷ 0 ∷ 2 ∷ 0 ∷ 5 ∷ 0 ∷ 0 ∷ 3 ∷ 0 ∷ 5 ∷ 0 ∷ 0 ∷ []) (13 ∷ 1 ∷ 0 ∷ []) ((10 ∷ 0 ∷ 0 ∷ 0 ∷ []) ∷ (10 ∷ 0 ∷ 0 ∷ 0 ∷ []) ∷ [])
    ∷ []

-- no row is verified: the distribution has failed, and nothing is sent; the next one begins with rows that have no statuses
abbrev pub both_fail : List Turn
both_fail =
    asks (distribution_start 0 5 0 5 0 0xc0) (distribution_status 0 1) (4 ∷ 1 ∷ 0 ∷ []) ((10 ∷ 0 ∷ 0 ∷ 0 ∷ []) ∷ (10 ∷ 0 ∷ 0 ∷ 0 ∷ []) ∷ [])
    ∷ sends (passes 0) ((2, metadata_check) ∷ (3, metadata_check) ∷ []) (4 ∷ 1 ∷ 0 ∷ []) ((10 ∷ 0 ∷ 0 ∷ 0 ∷ []) ∷ (10 ∷ 0 ∷ 0 ∷ 0 ∷ []) ∷ [])
    ∷ quiet (comes 2 metadata_status) (4 ∷ 1 ∷ 0 ∷ []) ((10 ∷ 0 ∷ 0 ∷ 0 ∷ []) ∷ (10 ∷ 0 ∷ 0 ∷ 0 ∷ []) ∷ [])
    ∷ quiet (comes 3 (metadata_refused 5)) (5 ∷ 1 ∷ 0 ∷ []) ((10 ∷ 0 ∷ 0 ∷ 0 ∷ []) ∷ (10 ∷ 5 ∷ 0 ∷ 0 ∷ []) ∷ [])
    ∷ sends (passes 0) ((2, update_start 1) ∷ []) (5 ∷ 1 ∷ 0 ∷ []) ((10 ∷ 0 ∷ 0 ∷ 0 ∷ []) ∷ (10 ∷ 5 ∷ 0 ∷ 0 ∷ []) ∷ [])
    ∷ quiet (comes 2 (no_job_status 3)) (6 ∷ 1 ∷ 0 ∷ []) ((10 ∷ 3 ∷ 0 ∷ 0 ∷ []) ∷ (10 ∷ 5 ∷ 0 ∷ 0 ∷ []) ∷ [])
    ∷ quiet (passes 0) (7 ∷ 5 ∷ 0 ∷ []) ((10 ∷ 3 ∷ 0 ∷ 0 ∷ []) ∷ (10 ∷ 5 ∷ 0 ∷ 0 ∷ []) ∷ [])
    ∷ quiet (passes 0) (7 ∷ 5 ∷ 0 ∷ []) ((10 ∷ 3 ∷ 0 ∷ 0 ∷ []) ∷ (10 ∷ 5 ∷ 0 ∷ 0 ∷ []) ∷ [])
    ∷ asks (receivers_get 0 9) (0x83 ∷ 0x15 ∷ 2 ∷ 0 ∷ 0 ∷ 0 ∷ 2 ∷ 0 ∷ 0x1d ∷ 0 ∷ 0 ∷ 3 ∷ 0 ∷ 0x2d ∷ 0 ∷ 0 ∷ []) (7 ∷ 5 ∷ 0 ∷ []) ((10 ∷ 3 ∷ 0 ∷ 0 ∷ []) ∷ (10 ∷ 5 ∷ 0 ∷ 0 ∷ []) ∷ [])
    ∷ asks (distribution_start 0 5 0 5 0 0xc0) (distribution_status 0 1) (8 ∷ 1 ∷ 0 ∷ []) ((10 ∷ 0 ∷ 0 ∷ 0 ∷ []) ∷ (10 ∷ 0 ∷ 0 ∷ 0 ∷ []) ∷ [])
    ∷ asks (receivers_get 0 9) (0x83 ∷ 0x15 ∷ 2 ∷ 0 ∷ 0 ∷ 0 ∷ 2 ∷ 0 ∷ 5 ∷ 0 ∷ 0 ∷ 3 ∷ 0 ∷ 5 ∷ 0 ∷ 0 ∷ []) (8 ∷ 1 ∷ 0 ∷ []) ((10 ∷ 0 ∷ 0 ∷ 0 ∷ []) ∷ (10 ∷ 0 ∷ 0 ∷ 0 ∷ []) ∷ [])
    ∷ sends (passes 0) ((2, metadata_check) ∷ (3, metadata_check) ∷ []) (8 ∷ 1 ∷ 0 ∷ []) ((10 ∷ 0 ∷ 0 ∷ 0 ∷ []) ∷ (10 ∷ 0 ∷ 0 ∷ 0 ∷ []) ∷ [])
    ∷ quiet (comes 2 metadata_status) (8 ∷ 1 ∷ 0 ∷ []) ((10 ∷ 0 ∷ 0 ∷ 0 ∷ []) ∷ (10 ∷ 0 ∷ 0 ∷ 0 ∷ []) ∷ [])
    ∷ quiet (comes 3 metadata_status) (8 ∷ 1 ∷ 0 ∷ []) ((10 ∷ 0 ∷ 0 ∷ 0 ∷ []) ∷ (10 ∷ 0 ∷ 0 ∷ 0 ∷ []) ∷ [])
    ∷ sends (passes 0) ((2, update_start 2) ∷ (3, update_start 2) ∷ []) (8 ∷ 1 ∷ 0 ∷ []) ((10 ∷ 0 ∷ 0 ∷ 0 ∷ []) ∷ (10 ∷ 0 ∷ 0 ∷ 0 ∷ []) ∷ [])
    ∷ []

-- both refuse the transfer: their transfer statuses stand until the next one begins
abbrev pub transfers_refused : List Turn
transfers_refused =
    asks (distribution_start 0 5 0 5 0 0xc0) (distribution_status 0 1) (4 ∷ 1 ∷ 0 ∷ []) ((10 ∷ 0 ∷ 0 ∷ 0 ∷ []) ∷ (10 ∷ 0 ∷ 0 ∷ 0 ∷ []) ∷ [])
    ∷ sends (passes 0) ((2, metadata_check) ∷ (3, metadata_check) ∷ []) (4 ∷ 1 ∷ 0 ∷ []) ((10 ∷ 0 ∷ 0 ∷ 0 ∷ []) ∷ (10 ∷ 0 ∷ 0 ∷ 0 ∷ []) ∷ [])
    ∷ quiet (comes 2 metadata_status) (4 ∷ 1 ∷ 0 ∷ []) ((10 ∷ 0 ∷ 0 ∷ 0 ∷ []) ∷ (10 ∷ 0 ∷ 0 ∷ 0 ∷ []) ∷ [])
    ∷ quiet (comes 3 metadata_status) (4 ∷ 1 ∷ 0 ∷ []) ((10 ∷ 0 ∷ 0 ∷ 0 ∷ []) ∷ (10 ∷ 0 ∷ 0 ∷ 0 ∷ []) ∷ [])
    ∷ sends (passes 0) ((2, update_start 1) ∷ (3, update_start 1) ∷ []) (4 ∷ 1 ∷ 0 ∷ []) ((10 ∷ 0 ∷ 0 ∷ 0 ∷ []) ∷ (10 ∷ 0 ∷ 0 ∷ 0 ∷ []) ∷ [])
    ∷ quiet (comes 2 (update_status 0x40 1)) (5 ∷ 1 ∷ 0 ∷ []) ((2 ∷ 0 ∷ 0 ∷ 0 ∷ []) ∷ (10 ∷ 0 ∷ 0 ∷ 0 ∷ []) ∷ [])
    ∷ quiet (comes 3 (update_status 0x40 1)) (6 ∷ 1 ∷ 0 ∷ []) ((2 ∷ 0 ∷ 0 ∷ 0 ∷ []) ∷ (2 ∷ 0 ∷ 0 ∷ 0 ∷ []) ∷ [])
    ∷ sends (passes 0) ((2, blob_information_get) ∷ (3, blob_information_get) ∷ []) (6 ∷ 1 ∷ 0 ∷ []) ((2 ∷ 0 ∷ 0 ∷ 0 ∷ []) ∷ (2 ∷ 0 ∷ 0 ∷ 0 ∷ []) ∷ [])
    ∷ quiet (comes 2 limits) (6 ∷ 1 ∷ 0 ∷ []) ((2 ∷ 0 ∷ 0 ∷ 0 ∷ []) ∷ (2 ∷ 0 ∷ 0 ∷ 0 ∷ []) ∷ [])
    ∷ quiet (comes 3 limits) (6 ∷ 1 ∷ 0 ∷ []) ((2 ∷ 0 ∷ 0 ∷ 0 ∷ []) ∷ (2 ∷ 0 ∷ 0 ∷ 0 ∷ []) ∷ [])
    ∷ sends (passes 0) ((2, transfer_of 1) ∷ (3, transfer_of 1) ∷ []) (6 ∷ 1 ∷ 0 ∷ []) ((2 ∷ 0 ∷ 0 ∷ 0 ∷ []) ∷ (2 ∷ 0 ∷ 0 ∷ 0 ∷ []) ∷ [])
    ∷ quiet (comes 2 (transfer_refused 5)) (7 ∷ 1 ∷ 0 ∷ []) ((2 ∷ 0 ∷ 5 ∷ 0 ∷ []) ∷ (2 ∷ 0 ∷ 0 ∷ 0 ∷ []) ∷ [])
    ∷ quiet (comes 3 (transfer_refused 7)) (8 ∷ 1 ∷ 0 ∷ []) ((2 ∷ 0 ∷ 5 ∷ 0 ∷ []) ∷ (2 ∷ 0 ∷ 7 ∷ 0 ∷ []) ∷ [])
    ∷ quiet (passes 0) (9 ∷ 5 ∷ 0 ∷ []) ((2 ∷ 0 ∷ 5 ∷ 0 ∷ []) ∷ (2 ∷ 0 ∷ 7 ∷ 0 ∷ []) ∷ [])
    ∷ asks (receivers_get 0 9) (0x83 ∷ 0x15 ∷ 2 ∷ 0 ∷ 0 ∷ 0 ∷ 2 ∷ 0 ∷ 0x41 ∷ 1 ∷ 0 ∷ 3 ∷ 0 ∷ 0xc1 ∷ 1 ∷ 0 ∷ []) (9 ∷ 5 ∷ 0 ∷ []) ((2 ∷ 0 ∷ 5 ∷ 0 ∷ []) ∷ (2 ∷ 0 ∷ 7 ∷ 0 ∷ []) ∷ [])
    ∷ asks (distribution_start 0 5 0 5 0 0xc0) (distribution_status 0 1) (10 ∷ 1 ∷ 0 ∷ []) ((10 ∷ 0 ∷ 0 ∷ 0 ∷ []) ∷ (10 ∷ 0 ∷ 0 ∷ 0 ∷ []) ∷ [])
    ∷ asks (receivers_get 0 9) (0x83 ∷ 0x15 ∷ 2 ∷ 0 ∷ 0 ∷ 0 ∷ 2 ∷ 0 ∷ 5 ∷ 0 ∷ 0 ∷ 3 ∷ 0 ∷ 5 ∷ 0 ∷ 0 ∷ []) (10 ∷ 1 ∷ 0 ∷ []) ((10 ∷ 0 ∷ 0 ∷ 0 ∷ []) ∷ (10 ∷ 0 ∷ 0 ∷ 0 ∷ []) ∷ [])
    ∷ []

-- under Verify Only it rests, and applies once it is asked to
abbrev pub verify_only : List Turn
verify_only =
    asks (distribution_start 0 5 0 1 0 0xc0) (0x83 ∷ 0x1d ∷ 0 ∷ 1 ∷ 0 ∷ 0xc0 ∷ 0 ∷ 0 ∷ 5 ∷ 0 ∷ 0 ∷ 1 ∷ 0 ∷ 0 ∷ []) (4 ∷ 1 ∷ 0 ∷ []) ((10 ∷ 0 ∷ 0 ∷ 0 ∷ []) ∷ (10 ∷ 0 ∷ 0 ∷ 0 ∷ []) ∷ [])
    ∷ sends (passes 0) ((2, metadata_check) ∷ (3, metadata_check) ∷ []) (4 ∷ 1 ∷ 0 ∷ []) ((10 ∷ 0 ∷ 0 ∷ 0 ∷ []) ∷ (10 ∷ 0 ∷ 0 ∷ 0 ∷ []) ∷ [])
    ∷ quiet (comes 2 metadata_status) (4 ∷ 1 ∷ 0 ∷ []) ((10 ∷ 0 ∷ 0 ∷ 0 ∷ []) ∷ (10 ∷ 0 ∷ 0 ∷ 0 ∷ []) ∷ [])
    ∷ quiet (comes 3 metadata_status) (4 ∷ 1 ∷ 0 ∷ []) ((10 ∷ 0 ∷ 0 ∷ 0 ∷ []) ∷ (10 ∷ 0 ∷ 0 ∷ 0 ∷ []) ∷ [])
    ∷ sends (passes 0) ((2, update_start 1) ∷ (3, update_start 1) ∷ []) (4 ∷ 1 ∷ 0 ∷ []) ((10 ∷ 0 ∷ 0 ∷ 0 ∷ []) ∷ (10 ∷ 0 ∷ 0 ∷ 0 ∷ []) ∷ [])
    ∷ quiet (comes 2 (update_status 0x40 1)) (5 ∷ 1 ∷ 0 ∷ []) ((2 ∷ 0 ∷ 0 ∷ 0 ∷ []) ∷ (10 ∷ 0 ∷ 0 ∷ 0 ∷ []) ∷ [])
    ∷ quiet (comes 3 (update_status 0x40 1)) (6 ∷ 1 ∷ 0 ∷ []) ((2 ∷ 0 ∷ 0 ∷ 0 ∷ []) ∷ (2 ∷ 0 ∷ 0 ∷ 0 ∷ []) ∷ [])
    ∷ sends (passes 0) ((2, blob_information_get) ∷ (3, blob_information_get) ∷ []) (6 ∷ 1 ∷ 0 ∷ []) ((2 ∷ 0 ∷ 0 ∷ 0 ∷ []) ∷ (2 ∷ 0 ∷ 0 ∷ 0 ∷ []) ∷ [])
    ∷ quiet (comes 2 limits) (6 ∷ 1 ∷ 0 ∷ []) ((2 ∷ 0 ∷ 0 ∷ 0 ∷ []) ∷ (2 ∷ 0 ∷ 0 ∷ 0 ∷ []) ∷ [])
    ∷ quiet (comes 3 limits) (6 ∷ 1 ∷ 0 ∷ []) ((2 ∷ 0 ∷ 0 ∷ 0 ∷ []) ∷ (2 ∷ 0 ∷ 0 ∷ 0 ∷ []) ∷ [])
    ∷ sends (passes 0) ((2, transfer_of 1) ∷ (3, transfer_of 1) ∷ []) (6 ∷ 1 ∷ 0 ∷ []) ((2 ∷ 0 ∷ 0 ∷ 0 ∷ []) ∷ (2 ∷ 0 ∷ 0 ∷ 0 ∷ []) ∷ [])
    ∷ quiet (comes 2 (transfer_told 2 1 1)) (6 ∷ 1 ∷ 0 ∷ []) ((2 ∷ 0 ∷ 0 ∷ 0 ∷ []) ∷ (2 ∷ 0 ∷ 0 ∷ 0 ∷ []) ∷ [])
    ∷ quiet (comes 3 (transfer_told 2 1 1)) (6 ∷ 1 ∷ 0 ∷ []) ((2 ∷ 0 ∷ 0 ∷ 0 ∷ []) ∷ (2 ∷ 0 ∷ 0 ∷ 0 ∷ []) ∷ [])
    ∷ sends (passes 0) ((2, block_start) ∷ (3, block_start) ∷ []) (6 ∷ 1 ∷ 0 ∷ []) ((2 ∷ 0 ∷ 0 ∷ 0 ∷ []) ∷ (2 ∷ 0 ∷ 0 ∷ 0 ∷ []) ∷ [])
    ∷ quiet (comes 2 (block_status 0)) (6 ∷ 1 ∷ 0 ∷ []) ((2 ∷ 0 ∷ 0 ∷ 0 ∷ []) ∷ (2 ∷ 0 ∷ 0 ∷ 0 ∷ []) ∷ [])
    ∷ quiet (comes 3 (block_status 0)) (6 ∷ 1 ∷ 0 ∷ []) ((2 ∷ 0 ∷ 0 ∷ 0 ∷ []) ∷ (2 ∷ 0 ∷ 0 ∷ 0 ∷ []) ∷ [])
    ∷ sends (passes 0) ((0xc000, chunk) ∷ []) (6 ∷ 1 ∷ 0 ∷ []) ((2 ∷ 0 ∷ 0 ∷ 0 ∷ []) ∷ (2 ∷ 0 ∷ 0 ∷ 0 ∷ []) ∷ [])
    ∷ sends (passes 0) ((2, block_get) ∷ (3, block_get) ∷ []) (6 ∷ 1 ∷ 0 ∷ []) ((2 ∷ 0 ∷ 0 ∷ 0 ∷ []) ∷ (2 ∷ 0 ∷ 0 ∷ 0 ∷ []) ∷ [])
    ∷ quiet (comes 2 (block_status 0x40)) (6 ∷ 1 ∷ 0 ∷ []) ((2 ∷ 0 ∷ 0 ∷ 100 ∷ []) ∷ (2 ∷ 0 ∷ 0 ∷ 0 ∷ []) ∷ [])
    ∷ quiet (comes 3 (block_status 0x40)) (6 ∷ 1 ∷ 0 ∷ []) ((2 ∷ 0 ∷ 0 ∷ 100 ∷ []) ∷ (2 ∷ 0 ∷ 0 ∷ 100 ∷ []) ∷ [])
    ∷ sends (passes 0) ((2, update_get) ∷ (3, update_get) ∷ []) (6 ∷ 1 ∷ 0 ∷ []) ((2 ∷ 0 ∷ 0 ∷ 100 ∷ []) ∷ (2 ∷ 0 ∷ 0 ∷ 100 ∷ []) ∷ [])
    ∷ quiet (comes 2 (update_status 0x80 1)) (7 ∷ 1 ∷ 0 ∷ []) ((4 ∷ 0 ∷ 0 ∷ 100 ∷ []) ∷ (2 ∷ 0 ∷ 0 ∷ 100 ∷ []) ∷ [])
    ∷ quiet (comes 3 (update_status 0x80 1)) (8 ∷ 1 ∷ 0 ∷ []) ((4 ∷ 0 ∷ 0 ∷ 100 ∷ []) ∷ (4 ∷ 0 ∷ 0 ∷ 100 ∷ []) ∷ [])
    ∷ quiet (passes 0) (9 ∷ 2 ∷ 0 ∷ []) ((4 ∷ 0 ∷ 0 ∷ 100 ∷ []) ∷ (4 ∷ 0 ∷ 0 ∷ 100 ∷ []) ∷ [])
    ∷ quiet (passes 0) (9 ∷ 2 ∷ 0 ∷ []) ((4 ∷ 0 ∷ 0 ∷ 100 ∷ []) ∷ (4 ∷ 0 ∷ 0 ∷ 100 ∷ []) ∷ [])
    ∷ asks distribution_apply (0x83 ∷ 0x1d ∷ 0 ∷ 3 ∷ 0 ∷ 0xc0 ∷ 0 ∷ 0 ∷ 5 ∷ 0 ∷ 0 ∷ 1 ∷ 0 ∷ 0 ∷ []) (10 ∷ 3 ∷ 0 ∷ []) ((4 ∷ 0 ∷ 0 ∷ 100 ∷ []) ∷ (4 ∷ 0 ∷ 0 ∷ 100 ∷ []) ∷ [])
    ∷ sends (passes 0) ((2, update_apply) ∷ (3, update_apply) ∷ []) (10 ∷ 3 ∷ 0 ∷ []) ((4 ∷ 0 ∷ 0 ∷ 100 ∷ []) ∷ (4 ∷ 0 ∷ 0 ∷ 100 ∷ []) ∷ [])
    ∷ quiet (comes 2 (update_status 0xc0 1)) (11 ∷ 3 ∷ 0 ∷ []) ((6 ∷ 0 ∷ 0 ∷ 100 ∷ []) ∷ (4 ∷ 0 ∷ 0 ∷ 100 ∷ []) ∷ [])
    ∷ quiet (comes 3 (update_status 0xc0 1)) (12 ∷ 3 ∷ 0 ∷ []) ((6 ∷ 0 ∷ 0 ∷ 100 ∷ []) ∷ (6 ∷ 0 ∷ 0 ∷ 100 ∷ []) ∷ [])
    ∷ sends (passes 0) ((2, information_get) ∷ (3, information_get) ∷ []) (12 ∷ 3 ∷ 0 ∷ []) ((6 ∷ 0 ∷ 0 ∷ 100 ∷ []) ∷ (6 ∷ 0 ∷ 0 ∷ 100 ∷ []) ∷ [])
    ∷ quiet (comes 3 shown_image) (13 ∷ 3 ∷ 0 ∷ []) ((6 ∷ 0 ∷ 0 ∷ 100 ∷ []) ∷ (8 ∷ 0 ∷ 0 ∷ 100 ∷ []) ∷ [])
    ∷ quiet (passes 0) (13 ∷ 3 ∷ 0 ∷ []) ((6 ∷ 0 ∷ 0 ∷ 100 ∷ []) ∷ (8 ∷ 0 ∷ 0 ∷ 100 ∷ []) ∷ [])
    ∷ asks distribution_get (0x83 ∷ 0x1d ∷ 0 ∷ 3 ∷ 0 ∷ 0xc0 ∷ 0 ∷ 0 ∷ 5 ∷ 0 ∷ 0 ∷ 1 ∷ 0 ∷ 0 ∷ []) (13 ∷ 3 ∷ 0 ∷ []) ((6 ∷ 0 ∷ 0 ∷ 100 ∷ []) ∷ (8 ∷ 0 ∷ 0 ∷ 100 ∷ []) ∷ [])
    ∷ sends (passes 4100) ((2, information_get) ∷ []) (13 ∷ 3 ∷ 0 ∷ []) ((6 ∷ 0 ∷ 0 ∷ 100 ∷ []) ∷ (8 ∷ 0 ∷ 0 ∷ 100 ∷ []) ∷ [])
    ∷ sends (passes 8200) ((2, information_get) ∷ []) (13 ∷ 3 ∷ 0 ∷ []) ((6 ∷ 0 ∷ 0 ∷ 100 ∷ []) ∷ (8 ∷ 0 ∷ 0 ∷ 100 ∷ []) ∷ [])
    ∷ sends (passes 12300) ((2, information_get) ∷ []) (13 ∷ 3 ∷ 0 ∷ []) ((6 ∷ 0 ∷ 0 ∷ 100 ∷ []) ∷ (8 ∷ 0 ∷ 0 ∷ 100 ∷ []) ∷ [])
    ∷ sends (passes 16400) ((2, information_get) ∷ []) (13 ∷ 3 ∷ 0 ∷ []) ((6 ∷ 0 ∷ 0 ∷ 100 ∷ []) ∷ (8 ∷ 0 ∷ 0 ∷ 100 ∷ []) ∷ [])
    ∷ quiet (passes 20500) (14 ∷ 4 ∷ 0 ∷ []) ((9 ∷ 0 ∷ 0 ∷ 100 ∷ []) ∷ (8 ∷ 0 ∷ 0 ∷ 100 ∷ []) ∷ [])
    ∷ []

-- nobody confirms
abbrev pub both_silent : List Turn
both_silent =
    asks (distribution_start 0 5 0 5 0 0xc0) (distribution_status 0 1) (4 ∷ 1 ∷ 0 ∷ []) ((10 ∷ 0 ∷ 0 ∷ 0 ∷ []) ∷ (10 ∷ 0 ∷ 0 ∷ 0 ∷ []) ∷ [])
    ∷ sends (passes 0) ((2, metadata_check) ∷ (3, metadata_check) ∷ []) (4 ∷ 1 ∷ 0 ∷ []) ((10 ∷ 0 ∷ 0 ∷ 0 ∷ []) ∷ (10 ∷ 0 ∷ 0 ∷ 0 ∷ []) ∷ [])
    ∷ quiet (comes 2 metadata_status) (4 ∷ 1 ∷ 0 ∷ []) ((10 ∷ 0 ∷ 0 ∷ 0 ∷ []) ∷ (10 ∷ 0 ∷ 0 ∷ 0 ∷ []) ∷ [])
    ∷ quiet (comes 3 metadata_status) (4 ∷ 1 ∷ 0 ∷ []) ((10 ∷ 0 ∷ 0 ∷ 0 ∷ []) ∷ (10 ∷ 0 ∷ 0 ∷ 0 ∷ []) ∷ [])
    ∷ sends (passes 0) ((2, update_start 1) ∷ (3, update_start 1) ∷ []) (4 ∷ 1 ∷ 0 ∷ []) ((10 ∷ 0 ∷ 0 ∷ 0 ∷ []) ∷ (10 ∷ 0 ∷ 0 ∷ 0 ∷ []) ∷ [])
    ∷ quiet (comes 2 (update_status 0x40 1)) (5 ∷ 1 ∷ 0 ∷ []) ((2 ∷ 0 ∷ 0 ∷ 0 ∷ []) ∷ (10 ∷ 0 ∷ 0 ∷ 0 ∷ []) ∷ [])
    ∷ quiet (comes 3 (update_status 0x40 1)) (6 ∷ 1 ∷ 0 ∷ []) ((2 ∷ 0 ∷ 0 ∷ 0 ∷ []) ∷ (2 ∷ 0 ∷ 0 ∷ 0 ∷ []) ∷ [])
    ∷ sends (passes 0) ((2, blob_information_get) ∷ (3, blob_information_get) ∷ []) (6 ∷ 1 ∷ 0 ∷ []) ((2 ∷ 0 ∷ 0 ∷ 0 ∷ []) ∷ (2 ∷ 0 ∷ 0 ∷ 0 ∷ []) ∷ [])
    ∷ quiet (comes 2 limits) (6 ∷ 1 ∷ 0 ∷ []) ((2 ∷ 0 ∷ 0 ∷ 0 ∷ []) ∷ (2 ∷ 0 ∷ 0 ∷ 0 ∷ []) ∷ [])
    ∷ quiet (comes 3 limits) (6 ∷ 1 ∷ 0 ∷ []) ((2 ∷ 0 ∷ 0 ∷ 0 ∷ []) ∷ (2 ∷ 0 ∷ 0 ∷ 0 ∷ []) ∷ [])
    ∷ sends (passes 0) ((2, transfer_of 1) ∷ (3, transfer_of 1) ∷ []) (6 ∷ 1 ∷ 0 ∷ []) ((2 ∷ 0 ∷ 0 ∷ 0 ∷ []) ∷ (2 ∷ 0 ∷ 0 ∷ 0 ∷ []) ∷ [])
    ∷ quiet (comes 2 (transfer_told 2 1 1)) (6 ∷ 1 ∷ 0 ∷ []) ((2 ∷ 0 ∷ 0 ∷ 0 ∷ []) ∷ (2 ∷ 0 ∷ 0 ∷ 0 ∷ []) ∷ [])
    ∷ quiet (comes 3 (transfer_told 2 1 1)) (6 ∷ 1 ∷ 0 ∷ []) ((2 ∷ 0 ∷ 0 ∷ 0 ∷ []) ∷ (2 ∷ 0 ∷ 0 ∷ 0 ∷ []) ∷ [])
    ∷ sends (passes 0) ((2, block_start) ∷ (3, block_start) ∷ []) (6 ∷ 1 ∷ 0 ∷ []) ((2 ∷ 0 ∷ 0 ∷ 0 ∷ []) ∷ (2 ∷ 0 ∷ 0 ∷ 0 ∷ []) ∷ [])
    ∷ quiet (comes 2 (block_status 0)) (6 ∷ 1 ∷ 0 ∷ []) ((2 ∷ 0 ∷ 0 ∷ 0 ∷ []) ∷ (2 ∷ 0 ∷ 0 ∷ 0 ∷ []) ∷ [])
    ∷ quiet (comes 3 (block_status 0)) (6 ∷ 1 ∷ 0 ∷ []) ((2 ∷ 0 ∷ 0 ∷ 0 ∷ []) ∷ (2 ∷ 0 ∷ 0 ∷ 0 ∷ []) ∷ [])
    ∷ sends (passes 0) ((0xc000, chunk) ∷ []) (6 ∷ 1 ∷ 0 ∷ []) ((2 ∷ 0 ∷ 0 ∷ 0 ∷ []) ∷ (2 ∷ 0 ∷ 0 ∷ 0 ∷ []) ∷ [])
    ∷ sends (passes 0) ((2, block_get) ∷ (3, block_get) ∷ []) (6 ∷ 1 ∷ 0 ∷ []) ((2 ∷ 0 ∷ 0 ∷ 0 ∷ []) ∷ (2 ∷ 0 ∷ 0 ∷ 0 ∷ []) ∷ [])
    ∷ quiet (comes 2 (block_status 0x40)) (6 ∷ 1 ∷ 0 ∷ []) ((2 ∷ 0 ∷ 0 ∷ 100 ∷ []) ∷ (2 ∷ 0 ∷ 0 ∷ 0 ∷ []) ∷ [])
    ∷ quiet (comes 3 (block_status 0x40)) (6 ∷ 1 ∷ 0 ∷ []) ((2 ∷ 0 ∷ 0 ∷ 100 ∷ []) ∷ (2 ∷ 0 ∷ 0 ∷ 100 ∷ []) ∷ [])
    ∷ sends (passes 0) ((2, update_get) ∷ (3, update_get) ∷ []) (6 ∷ 1 ∷ 0 ∷ []) ((2 ∷ 0 ∷ 0 ∷ 100 ∷ []) ∷ (2 ∷ 0 ∷ 0 ∷ 100 ∷ []) ∷ [])
    ∷ quiet (comes 2 (update_status 0x80 1)) (7 ∷ 1 ∷ 0 ∷ []) ((4 ∷ 0 ∷ 0 ∷ 100 ∷ []) ∷ (2 ∷ 0 ∷ 0 ∷ 100 ∷ []) ∷ [])
    ∷ quiet (comes 3 (update_status 0x80 1)) (8 ∷ 1 ∷ 0 ∷ []) ((4 ∷ 0 ∷ 0 ∷ 100 ∷ []) ∷ (4 ∷ 0 ∷ 0 ∷ 100 ∷ []) ∷ [])
    ∷ sends (passes 0) ((2, update_apply) ∷ (3, update_apply) ∷ []) (9 ∷ 3 ∷ 0 ∷ []) ((4 ∷ 0 ∷ 0 ∷ 100 ∷ []) ∷ (4 ∷ 0 ∷ 0 ∷ 100 ∷ []) ∷ [])
    ∷ quiet (comes 2 (update_status 0xc0 1)) (10 ∷ 3 ∷ 0 ∷ []) ((6 ∷ 0 ∷ 0 ∷ 100 ∷ []) ∷ (4 ∷ 0 ∷ 0 ∷ 100 ∷ []) ∷ [])
    ∷ quiet (comes 3 (update_status 0xc0 1)) (11 ∷ 3 ∷ 0 ∷ []) ((6 ∷ 0 ∷ 0 ∷ 100 ∷ []) ∷ (6 ∷ 0 ∷ 0 ∷ 100 ∷ []) ∷ [])
    ∷ sends (passes 0) ((2, information_get) ∷ (3, information_get) ∷ []) (11 ∷ 3 ∷ 0 ∷ []) ((6 ∷ 0 ∷ 0 ∷ 100 ∷ []) ∷ (6 ∷ 0 ∷ 0 ∷ 100 ∷ []) ∷ [])
    ∷ sends (passes 4100) ((2, information_get) ∷ (3, information_get) ∷ []) (11 ∷ 3 ∷ 0 ∷ []) ((6 ∷ 0 ∷ 0 ∷ 100 ∷ []) ∷ (6 ∷ 0 ∷ 0 ∷ 100 ∷ []) ∷ [])
    ∷ sends (passes 8200) ((2, information_get) ∷ (3, information_get) ∷ []) (11 ∷ 3 ∷ 0 ∷ []) ((6 ∷ 0 ∷ 0 ∷ 100 ∷ []) ∷ (6 ∷ 0 ∷ 0 ∷ 100 ∷ []) ∷ [])
    ∷ sends (passes 12300) ((2, information_get) ∷ (3, information_get) ∷ []) (11 ∷ 3 ∷ 0 ∷ []) ((6 ∷ 0 ∷ 0 ∷ 100 ∷ []) ∷ (6 ∷ 0 ∷ 0 ∷ 100 ∷ []) ∷ [])
    ∷ sends (passes 16400) ((2, information_get) ∷ (3, information_get) ∷ []) (11 ∷ 3 ∷ 0 ∷ []) ((6 ∷ 0 ∷ 0 ∷ 100 ∷ []) ∷ (6 ∷ 0 ∷ 0 ∷ 100 ∷ []) ∷ [])
    ∷ quiet (passes 20500) (12 ∷ 5 ∷ 0 ∷ []) ((9 ∷ 0 ∷ 0 ∷ 100 ∷ []) ∷ (9 ∷ 0 ∷ 0 ∷ 100 ∷ []) ∷ [])
    ∷ []

-- a receiver that has verified fails before the other answers: no row is verified then
abbrev pub says_failed_later : List Turn
says_failed_later =
    asks (distribution_start 0 5 0 5 0 0xc0) (distribution_status 0 1) (4 ∷ 1 ∷ 0 ∷ []) ((10 ∷ 0 ∷ 0 ∷ 0 ∷ []) ∷ (10 ∷ 0 ∷ 0 ∷ 0 ∷ []) ∷ [])
    ∷ sends (passes 0) ((2, metadata_check) ∷ (3, metadata_check) ∷ []) (4 ∷ 1 ∷ 0 ∷ []) ((10 ∷ 0 ∷ 0 ∷ 0 ∷ []) ∷ (10 ∷ 0 ∷ 0 ∷ 0 ∷ []) ∷ [])
    ∷ quiet (comes 2 metadata_status) (4 ∷ 1 ∷ 0 ∷ []) ((10 ∷ 0 ∷ 0 ∷ 0 ∷ []) ∷ (10 ∷ 0 ∷ 0 ∷ 0 ∷ []) ∷ [])
    ∷ quiet (comes 3 metadata_status) (4 ∷ 1 ∷ 0 ∷ []) ((10 ∷ 0 ∷ 0 ∷ 0 ∷ []) ∷ (10 ∷ 0 ∷ 0 ∷ 0 ∷ []) ∷ [])
    ∷ sends (passes 0) ((2, update_start 1) ∷ (3, update_start 1) ∷ []) (4 ∷ 1 ∷ 0 ∷ []) ((10 ∷ 0 ∷ 0 ∷ 0 ∷ []) ∷ (10 ∷ 0 ∷ 0 ∷ 0 ∷ []) ∷ [])
    ∷ quiet (comes 2 (update_status 0x40 1)) (5 ∷ 1 ∷ 0 ∷ []) ((2 ∷ 0 ∷ 0 ∷ 0 ∷ []) ∷ (10 ∷ 0 ∷ 0 ∷ 0 ∷ []) ∷ [])
    ∷ quiet (comes 3 (update_status 0x40 1)) (6 ∷ 1 ∷ 0 ∷ []) ((2 ∷ 0 ∷ 0 ∷ 0 ∷ []) ∷ (2 ∷ 0 ∷ 0 ∷ 0 ∷ []) ∷ [])
    ∷ sends (passes 0) ((2, blob_information_get) ∷ (3, blob_information_get) ∷ []) (6 ∷ 1 ∷ 0 ∷ []) ((2 ∷ 0 ∷ 0 ∷ 0 ∷ []) ∷ (2 ∷ 0 ∷ 0 ∷ 0 ∷ []) ∷ [])
    ∷ quiet (comes 2 limits) (6 ∷ 1 ∷ 0 ∷ []) ((2 ∷ 0 ∷ 0 ∷ 0 ∷ []) ∷ (2 ∷ 0 ∷ 0 ∷ 0 ∷ []) ∷ [])
    ∷ quiet (comes 3 limits) (6 ∷ 1 ∷ 0 ∷ []) ((2 ∷ 0 ∷ 0 ∷ 0 ∷ []) ∷ (2 ∷ 0 ∷ 0 ∷ 0 ∷ []) ∷ [])
    ∷ sends (passes 0) ((2, transfer_of 1) ∷ (3, transfer_of 1) ∷ []) (6 ∷ 1 ∷ 0 ∷ []) ((2 ∷ 0 ∷ 0 ∷ 0 ∷ []) ∷ (2 ∷ 0 ∷ 0 ∷ 0 ∷ []) ∷ [])
    ∷ quiet (comes 2 (transfer_told 2 1 1)) (6 ∷ 1 ∷ 0 ∷ []) ((2 ∷ 0 ∷ 0 ∷ 0 ∷ []) ∷ (2 ∷ 0 ∷ 0 ∷ 0 ∷ []) ∷ [])
    ∷ quiet (comes 3 (transfer_told 2 1 1)) (6 ∷ 1 ∷ 0 ∷ []) ((2 ∷ 0 ∷ 0 ∷ 0 ∷ []) ∷ (2 ∷ 0 ∷ 0 ∷ 0 ∷ []) ∷ [])
    ∷ sends (passes 0) ((2, block_start) ∷ (3, block_start) ∷ []) (6 ∷ 1 ∷ 0 ∷ []) ((2 ∷ 0 ∷ 0 ∷ 0 ∷ []) ∷ (2 ∷ 0 ∷ 0 ∷ 0 ∷ []) ∷ [])
    ∷ quiet (comes 2 (block_status 0)) (6 ∷ 1 ∷ 0 ∷ []) ((2 ∷ 0 ∷ 0 ∷ 0 ∷ []) ∷ (2 ∷ 0 ∷ 0 ∷ 0 ∷ []) ∷ [])
    ∷ quiet (comes 3 (block_status 0)) (6 ∷ 1 ∷ 0 ∷ []) ((2 ∷ 0 ∷ 0 ∷ 0 ∷ []) ∷ (2 ∷ 0 ∷ 0 ∷ 0 ∷ []) ∷ [])
    ∷ sends (passes 0) ((0xc000, chunk) ∷ []) (6 ∷ 1 ∷ 0 ∷ []) ((2 ∷ 0 ∷ 0 ∷ 0 ∷ []) ∷ (2 ∷ 0 ∷ 0 ∷ 0 ∷ []) ∷ [])
    ∷ sends (passes 0) ((2, block_get) ∷ (3, block_get) ∷ []) (6 ∷ 1 ∷ 0 ∷ []) ((2 ∷ 0 ∷ 0 ∷ 0 ∷ []) ∷ (2 ∷ 0 ∷ 0 ∷ 0 ∷ []) ∷ [])
    ∷ quiet (comes 2 (block_status 0x40)) (6 ∷ 1 ∷ 0 ∷ []) ((2 ∷ 0 ∷ 0 ∷ 100 ∷ []) ∷ (2 ∷ 0 ∷ 0 ∷ 0 ∷ []) ∷ [])
    ∷ quiet (comes 3 (block_status 0x40)) (6 ∷ 1 ∷ 0 ∷ []) ((2 ∷ 0 ∷ 0 ∷ 100 ∷ []) ∷ (2 ∷ 0 ∷ 0 ∷ 100 ∷ []) ∷ [])
    ∷ sends (passes 0) ((2, update_get) ∷ (3, update_get) ∷ []) (6 ∷ 1 ∷ 0 ∷ []) ((2 ∷ 0 ∷ 0 ∷ 100 ∷ []) ∷ (2 ∷ 0 ∷ 0 ∷ 100 ∷ []) ∷ [])
    ∷ quiet (comes 2 (update_status 0x80 1)) (7 ∷ 1 ∷ 0 ∷ []) ((4 ∷ 0 ∷ 0 ∷ 100 ∷ []) ∷ (2 ∷ 0 ∷ 0 ∷ 100 ∷ []) ∷ [])
    ∷ quiet (comes 2 (update_status 0xa0 1)) (8 ∷ 1 ∷ 0 ∷ []) ((5 ∷ 0 ∷ 0 ∷ 100 ∷ []) ∷ (2 ∷ 0 ∷ 0 ∷ 100 ∷ []) ∷ [])
    ∷ quiet (comes 3 (update_status 0x20 1)) (9 ∷ 1 ∷ 0 ∷ []) ((5 ∷ 0 ∷ 0 ∷ 100 ∷ []) ∷ (1 ∷ 0 ∷ 0 ∷ 100 ∷ []) ∷ [])
    ∷ quiet (passes 0) (10 ∷ 5 ∷ 0 ∷ []) ((5 ∷ 0 ∷ 0 ∷ 100 ∷ []) ∷ (1 ∷ 0 ∷ 0 ∷ 100 ∷ []) ∷ [])
    ∷ quiet (passes 0) (10 ∷ 5 ∷ 0 ∷ []) ((5 ∷ 0 ∷ 0 ∷ 100 ∷ []) ∷ (1 ∷ 0 ∷ 0 ∷ 100 ∷ []) ∷ [])
    ∷ []

-- each receiver is told once it is canceled
abbrev pub canceled : List Turn
canceled =
    asks (distribution_start 0 5 0 5 0 0xc0) (distribution_status 0 1) (4 ∷ 1 ∷ 0 ∷ []) ((10 ∷ 0 ∷ 0 ∷ 0 ∷ []) ∷ (10 ∷ 0 ∷ 0 ∷ 0 ∷ []) ∷ [])
    ∷ sends (passes 0) ((2, metadata_check) ∷ (3, metadata_check) ∷ []) (4 ∷ 1 ∷ 0 ∷ []) ((10 ∷ 0 ∷ 0 ∷ 0 ∷ []) ∷ (10 ∷ 0 ∷ 0 ∷ 0 ∷ []) ∷ [])
    ∷ quiet (comes 2 metadata_status) (4 ∷ 1 ∷ 0 ∷ []) ((10 ∷ 0 ∷ 0 ∷ 0 ∷ []) ∷ (10 ∷ 0 ∷ 0 ∷ 0 ∷ []) ∷ [])
    ∷ asks distribution_cancel (distribution_status 0 6) (5 ∷ 6 ∷ 0 ∷ []) ((7 ∷ 0 ∷ 0 ∷ 0 ∷ []) ∷ (7 ∷ 0 ∷ 0 ∷ 0 ∷ []) ∷ [])
    ∷ sends (passes 0) ((2, update_cancel) ∷ (3, update_cancel) ∷ []) (5 ∷ 6 ∷ 0 ∷ []) ((7 ∷ 0 ∷ 0 ∷ 0 ∷ []) ∷ (7 ∷ 0 ∷ 0 ∷ 0 ∷ []) ∷ [])
    ∷ quiet (comes 2 (update_status 0x40 1)) (5 ∷ 6 ∷ 0 ∷ []) ((7 ∷ 0 ∷ 0 ∷ 0 ∷ []) ∷ (7 ∷ 0 ∷ 0 ∷ 0 ∷ []) ∷ [])
    ∷ quiet (comes 2 (no_job_status 0)) (5 ∷ 6 ∷ 0 ∷ []) ((7 ∷ 0 ∷ 0 ∷ 0 ∷ []) ∷ (7 ∷ 0 ∷ 0 ∷ 0 ∷ []) ∷ [])
    ∷ quiet (passes 0) (5 ∷ 6 ∷ 0 ∷ []) ((7 ∷ 0 ∷ 0 ∷ 0 ∷ []) ∷ (7 ∷ 0 ∷ 0 ∷ 0 ∷ []) ∷ [])
    ∷ quiet (comes 3 (update_status 0x40 8)) (5 ∷ 6 ∷ 0 ∷ []) ((7 ∷ 0 ∷ 0 ∷ 0 ∷ []) ∷ (7 ∷ 0 ∷ 0 ∷ 0 ∷ []) ∷ [])
    ∷ quiet (passes 0) (6 ∷ 0 ∷ 0 ∷ []) ((7 ∷ 0 ∷ 0 ∷ 0 ∷ []) ∷ (7 ∷ 0 ∷ 0 ∷ 0 ∷ []) ∷ [])
    ∷ asks distribution_get (no_distribution 0) (6 ∷ 0 ∷ 0 ∷ []) ((7 ∷ 0 ∷ 0 ∷ 0 ∷ []) ∷ (7 ∷ 0 ∷ 0 ∷ 0 ∷ []) ∷ [])
    ∷ []

-- while it is suspended nothing is sent, and answers count; then it begins again with those that have no status
abbrev pub suspended_in_between : List Turn
suspended_in_between =
    asks (distribution_start 0 5 0 5 0 0xc0) (distribution_status 0 1) (4 ∷ 1 ∷ 0 ∷ []) ((10 ∷ 0 ∷ 0 ∷ 0 ∷ []) ∷ (10 ∷ 0 ∷ 0 ∷ 0 ∷ []) ∷ [])
    ∷ sends (passes 0) ((2, metadata_check) ∷ (3, metadata_check) ∷ []) (4 ∷ 1 ∷ 0 ∷ []) ((10 ∷ 0 ∷ 0 ∷ 0 ∷ []) ∷ (10 ∷ 0 ∷ 0 ∷ 0 ∷ []) ∷ [])
    ∷ asks distribution_suspend (distribution_status 0 7) (5 ∷ 7 ∷ 0 ∷ []) ((10 ∷ 0 ∷ 0 ∷ 0 ∷ []) ∷ (10 ∷ 0 ∷ 0 ∷ 0 ∷ []) ∷ [])
    ∷ quiet (passes 5000) (5 ∷ 7 ∷ 0 ∷ []) ((10 ∷ 0 ∷ 0 ∷ 0 ∷ []) ∷ (10 ∷ 0 ∷ 0 ∷ 0 ∷ []) ∷ [])
    ∷ quiet (comes 3 (metadata_refused 5)) (6 ∷ 7 ∷ 0 ∷ []) ((10 ∷ 0 ∷ 0 ∷ 0 ∷ []) ∷ (10 ∷ 5 ∷ 0 ∷ 0 ∷ []) ∷ [])
    ∷ quiet (comes 2 (update_status 0x40 1)) (7 ∷ 7 ∷ 0 ∷ []) ((2 ∷ 0 ∷ 0 ∷ 0 ∷ []) ∷ (10 ∷ 5 ∷ 0 ∷ 0 ∷ []) ∷ [])
    ∷ asks distribution_suspend (distribution_status 0 7) (7 ∷ 7 ∷ 0 ∷ []) ((2 ∷ 0 ∷ 0 ∷ 0 ∷ []) ∷ (10 ∷ 5 ∷ 0 ∷ 0 ∷ []) ∷ [])
    ∷ asks (distribution_start 0 5 0 5 0 0xc0) (distribution_status 0 1) (8 ∷ 1 ∷ 0 ∷ []) ((2 ∷ 0 ∷ 0 ∷ 0 ∷ []) ∷ (10 ∷ 5 ∷ 0 ∷ 0 ∷ []) ∷ [])
    ∷ sends (passes 5000) ((2, metadata_check) ∷ []) (8 ∷ 1 ∷ 0 ∷ []) ((2 ∷ 0 ∷ 0 ∷ 0 ∷ []) ∷ (10 ∷ 5 ∷ 0 ∷ 0 ∷ []) ∷ [])
    ∷ quiet (comes 2 metadata_status) (8 ∷ 1 ∷ 0 ∷ []) ((2 ∷ 0 ∷ 0 ∷ 0 ∷ []) ∷ (10 ∷ 5 ∷ 0 ∷ 0 ∷ []) ∷ [])
    ∷ sends (passes 5000) ((2, update_start 1) ∷ []) (8 ∷ 1 ∷ 0 ∷ []) ((2 ∷ 0 ∷ 0 ∷ 0 ∷ []) ∷ (10 ∷ 5 ∷ 0 ∷ 0 ∷ []) ∷ [])
    ∷ []

-- after a boot it begins again
abbrev pub cut_in_transfer : List Turn
cut_in_transfer =
    asks (distribution_start 0 5 0 5 0 0xc0) (distribution_status 0 1) (4 ∷ 1 ∷ 0 ∷ []) ((10 ∷ 0 ∷ 0 ∷ 0 ∷ []) ∷ (10 ∷ 0 ∷ 0 ∷ 0 ∷ []) ∷ [])
    ∷ sends (passes 0) ((2, metadata_check) ∷ (3, metadata_check) ∷ []) (4 ∷ 1 ∷ 0 ∷ []) ((10 ∷ 0 ∷ 0 ∷ 0 ∷ []) ∷ (10 ∷ 0 ∷ 0 ∷ 0 ∷ []) ∷ [])
    ∷ quiet (comes 2 metadata_status) (4 ∷ 1 ∷ 0 ∷ []) ((10 ∷ 0 ∷ 0 ∷ 0 ∷ []) ∷ (10 ∷ 0 ∷ 0 ∷ 0 ∷ []) ∷ [])
    ∷ quiet (comes 3 metadata_status) (4 ∷ 1 ∷ 0 ∷ []) ((10 ∷ 0 ∷ 0 ∷ 0 ∷ []) ∷ (10 ∷ 0 ∷ 0 ∷ 0 ∷ []) ∷ [])
    ∷ sends (passes 0) ((2, update_start 1) ∷ (3, update_start 1) ∷ []) (4 ∷ 1 ∷ 0 ∷ []) ((10 ∷ 0 ∷ 0 ∷ 0 ∷ []) ∷ (10 ∷ 0 ∷ 0 ∷ 0 ∷ []) ∷ [])
    ∷ quiet (comes 3 (metadata_refused 5)) (4 ∷ 1 ∷ 0 ∷ []) ((10 ∷ 0 ∷ 0 ∷ 0 ∷ []) ∷ (10 ∷ 0 ∷ 0 ∷ 0 ∷ []) ∷ [])
    ∷ quiet (comes 2 (update_status 0x42 1)) (5 ∷ 1 ∷ 0 ∷ []) ((2 ∷ 2 ∷ 0 ∷ 0 ∷ []) ∷ (10 ∷ 0 ∷ 0 ∷ 0 ∷ []) ∷ [])
    ∷ quiet boots (5 ∷ 1 ∷ 0 ∷ []) ((2 ∷ 2 ∷ 0 ∷ 0 ∷ []) ∷ (10 ∷ 0 ∷ 0 ∷ 0 ∷ []) ∷ [])
    ∷ sends (passes 0) ((3, metadata_check) ∷ []) (5 ∷ 1 ∷ 0 ∷ []) ((2 ∷ 2 ∷ 0 ∷ 0 ∷ []) ∷ (10 ∷ 0 ∷ 0 ∷ 0 ∷ []) ∷ [])
    ∷ []

-- after a boot those that had verified are asked to apply again
abbrev pub cut_in_applying : List Turn
cut_in_applying =
    asks (distribution_start 0 5 0 5 0 0xc0) (distribution_status 0 1) (4 ∷ 1 ∷ 0 ∷ []) ((10 ∷ 0 ∷ 0 ∷ 0 ∷ []) ∷ (10 ∷ 0 ∷ 0 ∷ 0 ∷ []) ∷ [])
    ∷ sends (passes 0) ((2, metadata_check) ∷ (3, metadata_check) ∷ []) (4 ∷ 1 ∷ 0 ∷ []) ((10 ∷ 0 ∷ 0 ∷ 0 ∷ []) ∷ (10 ∷ 0 ∷ 0 ∷ 0 ∷ []) ∷ [])
    ∷ quiet (comes 2 metadata_status) (4 ∷ 1 ∷ 0 ∷ []) ((10 ∷ 0 ∷ 0 ∷ 0 ∷ []) ∷ (10 ∷ 0 ∷ 0 ∷ 0 ∷ []) ∷ [])
    ∷ quiet (comes 3 metadata_status) (4 ∷ 1 ∷ 0 ∷ []) ((10 ∷ 0 ∷ 0 ∷ 0 ∷ []) ∷ (10 ∷ 0 ∷ 0 ∷ 0 ∷ []) ∷ [])
    ∷ sends (passes 0) ((2, update_start 1) ∷ (3, update_start 1) ∷ []) (4 ∷ 1 ∷ 0 ∷ []) ((10 ∷ 0 ∷ 0 ∷ 0 ∷ []) ∷ (10 ∷ 0 ∷ 0 ∷ 0 ∷ []) ∷ [])
    ∷ quiet (comes 2 (update_status 0x40 1)) (5 ∷ 1 ∷ 0 ∷ []) ((2 ∷ 0 ∷ 0 ∷ 0 ∷ []) ∷ (10 ∷ 0 ∷ 0 ∷ 0 ∷ []) ∷ [])
    ∷ quiet (comes 3 (update_status 0x40 1)) (6 ∷ 1 ∷ 0 ∷ []) ((2 ∷ 0 ∷ 0 ∷ 0 ∷ []) ∷ (2 ∷ 0 ∷ 0 ∷ 0 ∷ []) ∷ [])
    ∷ sends (passes 0) ((2, blob_information_get) ∷ (3, blob_information_get) ∷ []) (6 ∷ 1 ∷ 0 ∷ []) ((2 ∷ 0 ∷ 0 ∷ 0 ∷ []) ∷ (2 ∷ 0 ∷ 0 ∷ 0 ∷ []) ∷ [])
    ∷ quiet (comes 2 limits) (6 ∷ 1 ∷ 0 ∷ []) ((2 ∷ 0 ∷ 0 ∷ 0 ∷ []) ∷ (2 ∷ 0 ∷ 0 ∷ 0 ∷ []) ∷ [])
    ∷ quiet (comes 3 limits) (6 ∷ 1 ∷ 0 ∷ []) ((2 ∷ 0 ∷ 0 ∷ 0 ∷ []) ∷ (2 ∷ 0 ∷ 0 ∷ 0 ∷ []) ∷ [])
    ∷ sends (passes 0) ((2, transfer_of 1) ∷ (3, transfer_of 1) ∷ []) (6 ∷ 1 ∷ 0 ∷ []) ((2 ∷ 0 ∷ 0 ∷ 0 ∷ []) ∷ (2 ∷ 0 ∷ 0 ∷ 0 ∷ []) ∷ [])
    ∷ quiet (comes 2 (transfer_told 2 1 1)) (6 ∷ 1 ∷ 0 ∷ []) ((2 ∷ 0 ∷ 0 ∷ 0 ∷ []) ∷ (2 ∷ 0 ∷ 0 ∷ 0 ∷ []) ∷ [])
    ∷ quiet (comes 3 (transfer_told 2 1 1)) (6 ∷ 1 ∷ 0 ∷ []) ((2 ∷ 0 ∷ 0 ∷ 0 ∷ []) ∷ (2 ∷ 0 ∷ 0 ∷ 0 ∷ []) ∷ [])
    ∷ sends (passes 0) ((2, block_start) ∷ (3, block_start) ∷ []) (6 ∷ 1 ∷ 0 ∷ []) ((2 ∷ 0 ∷ 0 ∷ 0 ∷ []) ∷ (2 ∷ 0 ∷ 0 ∷ 0 ∷ []) ∷ [])
    ∷ quiet (comes 2 (block_status 0)) (6 ∷ 1 ∷ 0 ∷ []) ((2 ∷ 0 ∷ 0 ∷ 0 ∷ []) ∷ (2 ∷ 0 ∷ 0 ∷ 0 ∷ []) ∷ [])
    ∷ quiet (comes 3 (block_status 0)) (6 ∷ 1 ∷ 0 ∷ []) ((2 ∷ 0 ∷ 0 ∷ 0 ∷ []) ∷ (2 ∷ 0 ∷ 0 ∷ 0 ∷ []) ∷ [])
    ∷ sends (passes 0) ((0xc000, chunk) ∷ []) (6 ∷ 1 ∷ 0 ∷ []) ((2 ∷ 0 ∷ 0 ∷ 0 ∷ []) ∷ (2 ∷ 0 ∷ 0 ∷ 0 ∷ []) ∷ [])
    ∷ sends (passes 0) ((2, block_get) ∷ (3, block_get) ∷ []) (6 ∷ 1 ∷ 0 ∷ []) ((2 ∷ 0 ∷ 0 ∷ 0 ∷ []) ∷ (2 ∷ 0 ∷ 0 ∷ 0 ∷ []) ∷ [])
    ∷ quiet (comes 2 (block_status 0x40)) (6 ∷ 1 ∷ 0 ∷ []) ((2 ∷ 0 ∷ 0 ∷ 100 ∷ []) ∷ (2 ∷ 0 ∷ 0 ∷ 0 ∷ []) ∷ [])
    ∷ quiet (comes 3 (block_status 0x40)) (6 ∷ 1 ∷ 0 ∷ []) ((2 ∷ 0 ∷ 0 ∷ 100 ∷ []) ∷ (2 ∷ 0 ∷ 0 ∷ 100 ∷ []) ∷ [])
    ∷ sends (passes 0) ((2, update_get) ∷ (3, update_get) ∷ []) (6 ∷ 1 ∷ 0 ∷ []) ((2 ∷ 0 ∷ 0 ∷ 100 ∷ []) ∷ (2 ∷ 0 ∷ 0 ∷ 100 ∷ []) ∷ [])
    ∷ quiet (comes 2 (update_status 0x80 1)) (7 ∷ 1 ∷ 0 ∷ []) ((4 ∷ 0 ∷ 0 ∷ 100 ∷ []) ∷ (2 ∷ 0 ∷ 0 ∷ 100 ∷ []) ∷ [])
    ∷ quiet (comes 3 (update_status 0xa0 1)) (8 ∷ 1 ∷ 0 ∷ []) ((4 ∷ 0 ∷ 0 ∷ 100 ∷ []) ∷ (5 ∷ 0 ∷ 0 ∷ 100 ∷ []) ∷ [])
    ∷ sends (passes 0) ((2, update_apply) ∷ []) (9 ∷ 3 ∷ 0 ∷ []) ((4 ∷ 0 ∷ 0 ∷ 100 ∷ []) ∷ (5 ∷ 0 ∷ 0 ∷ 100 ∷ []) ∷ [])
    ∷ quiet boots (9 ∷ 3 ∷ 0 ∷ []) ((4 ∷ 0 ∷ 0 ∷ 0 ∷ []) ∷ (5 ∷ 0 ∷ 0 ∷ 0 ∷ []) ∷ [])
    ∷ sends (passes 0) ((2, update_apply) ∷ []) (9 ∷ 3 ∷ 0 ∷ []) ((4 ∷ 0 ∷ 0 ∷ 0 ∷ []) ∷ (5 ∷ 0 ∷ 0 ∷ 0 ∷ []) ∷ [])
    ∷ quiet (comes 2 (update_status 0xc0 1)) (10 ∷ 3 ∷ 0 ∷ []) ((6 ∷ 0 ∷ 0 ∷ 0 ∷ []) ∷ (5 ∷ 0 ∷ 0 ∷ 0 ∷ []) ∷ [])
    ∷ sends (passes 0) ((2, information_get) ∷ []) (10 ∷ 3 ∷ 0 ∷ []) ((6 ∷ 0 ∷ 0 ∷ 0 ∷ []) ∷ (5 ∷ 0 ∷ 0 ∷ 0 ∷ []) ∷ [])
    ∷ quiet boots (10 ∷ 3 ∷ 0 ∷ []) ((6 ∷ 0 ∷ 0 ∷ 0 ∷ []) ∷ (5 ∷ 0 ∷ 0 ∷ 0 ∷ []) ∷ [])
    ∷ sends (passes 0) ((2, update_apply) ∷ []) (10 ∷ 3 ∷ 0 ∷ []) ((6 ∷ 0 ∷ 0 ∷ 0 ∷ []) ∷ (5 ∷ 0 ∷ 0 ∷ 0 ∷ []) ∷ [])
    ∷ quiet (comes 2 shown_image) (11 ∷ 3 ∷ 0 ∷ []) ((8 ∷ 0 ∷ 0 ∷ 0 ∷ []) ∷ (5 ∷ 0 ∷ 0 ∷ 0 ∷ []) ∷ [])
    ∷ quiet (passes 0) (11 ∷ 3 ∷ 0 ∷ []) ((8 ∷ 0 ∷ 0 ∷ 0 ∷ []) ∷ (5 ∷ 0 ∷ 0 ∷ 0 ∷ []) ∷ [])
    ∷ quiet (passes 0) (11 ∷ 3 ∷ 0 ∷ []) ((8 ∷ 0 ∷ 0 ∷ 0 ∷ []) ∷ (5 ∷ 0 ∷ 0 ∷ 0 ∷ []) ∷ [])
    ∷ []

-- after a boot those that are canceled are told again
abbrev pub cut_in_canceling : List Turn
cut_in_canceling =
    asks (distribution_start 0 5 0 5 0 0xc0) (distribution_status 0 1) (4 ∷ 1 ∷ 0 ∷ []) ((10 ∷ 0 ∷ 0 ∷ 0 ∷ []) ∷ (10 ∷ 0 ∷ 0 ∷ 0 ∷ []) ∷ [])
    ∷ sends (passes 0) ((2, metadata_check) ∷ (3, metadata_check) ∷ []) (4 ∷ 1 ∷ 0 ∷ []) ((10 ∷ 0 ∷ 0 ∷ 0 ∷ []) ∷ (10 ∷ 0 ∷ 0 ∷ 0 ∷ []) ∷ [])
    ∷ asks distribution_cancel (distribution_status 0 6) (5 ∷ 6 ∷ 0 ∷ []) ((7 ∷ 0 ∷ 0 ∷ 0 ∷ []) ∷ (7 ∷ 0 ∷ 0 ∷ 0 ∷ []) ∷ [])
    ∷ sends (passes 0) ((2, update_cancel) ∷ (3, update_cancel) ∷ []) (5 ∷ 6 ∷ 0 ∷ []) ((7 ∷ 0 ∷ 0 ∷ 0 ∷ []) ∷ (7 ∷ 0 ∷ 0 ∷ 0 ∷ []) ∷ [])
    ∷ quiet (comes 2 (no_job_status 0)) (5 ∷ 6 ∷ 0 ∷ []) ((7 ∷ 0 ∷ 0 ∷ 0 ∷ []) ∷ (7 ∷ 0 ∷ 0 ∷ 0 ∷ []) ∷ [])
    ∷ quiet boots (5 ∷ 6 ∷ 0 ∷ []) ((7 ∷ 0 ∷ 0 ∷ 0 ∷ []) ∷ (7 ∷ 0 ∷ 0 ∷ 0 ∷ []) ∷ [])
    ∷ sends (passes 0) ((2, update_cancel) ∷ (3, update_cancel) ∷ []) (5 ∷ 6 ∷ 0 ∷ []) ((7 ∷ 0 ∷ 0 ∷ 0 ∷ []) ∷ (7 ∷ 0 ∷ 0 ∷ 0 ∷ []) ∷ [])
    ∷ []

-- the only receiver that is left applies the image already: that is verified too
abbrev pub applying_already : List Turn
applying_already =
    asks (distribution_start 0 5 0 5 0 0xc0) (distribution_status 0 1) (4 ∷ 1 ∷ 0 ∷ []) ((10 ∷ 0 ∷ 0 ∷ 0 ∷ []) ∷ (10 ∷ 0 ∷ 0 ∷ 0 ∷ []) ∷ [])
    ∷ sends (passes 0) ((2, metadata_check) ∷ (3, metadata_check) ∷ []) (4 ∷ 1 ∷ 0 ∷ []) ((10 ∷ 0 ∷ 0 ∷ 0 ∷ []) ∷ (10 ∷ 0 ∷ 0 ∷ 0 ∷ []) ∷ [])
    ∷ quiet (comes 2 metadata_status) (4 ∷ 1 ∷ 0 ∷ []) ((10 ∷ 0 ∷ 0 ∷ 0 ∷ []) ∷ (10 ∷ 0 ∷ 0 ∷ 0 ∷ []) ∷ [])
    ∷ quiet (comes 3 (metadata_refused 5)) (5 ∷ 1 ∷ 0 ∷ []) ((10 ∷ 0 ∷ 0 ∷ 0 ∷ []) ∷ (10 ∷ 5 ∷ 0 ∷ 0 ∷ []) ∷ [])
    ∷ sends (passes 0) ((2, update_start 1) ∷ []) (5 ∷ 1 ∷ 0 ∷ []) ((10 ∷ 0 ∷ 0 ∷ 0 ∷ []) ∷ (10 ∷ 5 ∷ 0 ∷ 0 ∷ []) ∷ [])
    ∷ quiet (comes 2 (update_status 0xc0 1)) (6 ∷ 1 ∷ 0 ∷ []) ((6 ∷ 0 ∷ 0 ∷ 0 ∷ []) ∷ (10 ∷ 5 ∷ 0 ∷ 0 ∷ []) ∷ [])
    ∷ sends (passes 0) ((2, blob_information_get) ∷ []) (6 ∷ 1 ∷ 0 ∷ []) ((6 ∷ 0 ∷ 0 ∷ 0 ∷ []) ∷ (10 ∷ 5 ∷ 0 ∷ 0 ∷ []) ∷ [])
    ∷ quiet (comes 2 limits) (6 ∷ 1 ∷ 0 ∷ []) ((6 ∷ 0 ∷ 0 ∷ 0 ∷ []) ∷ (10 ∷ 5 ∷ 0 ∷ 0 ∷ []) ∷ [])
    ∷ sends (passes 0) ((2, transfer_of 1) ∷ []) (6 ∷ 1 ∷ 0 ∷ []) ((6 ∷ 0 ∷ 0 ∷ 0 ∷ []) ∷ (10 ∷ 5 ∷ 0 ∷ 0 ∷ []) ∷ [])
    ∷ quiet (comes 2 (transfer_told 4 1 0)) (6 ∷ 1 ∷ 0 ∷ []) ((6 ∷ 0 ∷ 0 ∷ 100 ∷ []) ∷ (10 ∷ 5 ∷ 0 ∷ 0 ∷ []) ∷ [])
    ∷ sends (passes 0) ((2, update_get) ∷ []) (6 ∷ 1 ∷ 0 ∷ []) ((6 ∷ 0 ∷ 0 ∷ 100 ∷ []) ∷ (10 ∷ 5 ∷ 0 ∷ 0 ∷ []) ∷ [])
    ∷ quiet (comes 2 (update_status 0xc0 1)) (6 ∷ 1 ∷ 0 ∷ []) ((6 ∷ 0 ∷ 0 ∷ 100 ∷ []) ∷ (10 ∷ 5 ∷ 0 ∷ 0 ∷ []) ∷ [])
    ∷ sends (passes 0) ((2, update_apply) ∷ []) (7 ∷ 3 ∷ 0 ∷ []) ((6 ∷ 0 ∷ 0 ∷ 100 ∷ []) ∷ (10 ∷ 5 ∷ 0 ∷ 0 ∷ []) ∷ [])
    ∷ quiet (comes 2 (update_status 0xc0 1)) (7 ∷ 3 ∷ 0 ∷ []) ((6 ∷ 0 ∷ 0 ∷ 100 ∷ []) ∷ (10 ∷ 5 ∷ 0 ∷ 0 ∷ []) ∷ [])
    ∷ sends (passes 0) ((2, information_get) ∷ []) (7 ∷ 3 ∷ 0 ∷ []) ((6 ∷ 0 ∷ 0 ∷ 100 ∷ []) ∷ (10 ∷ 5 ∷ 0 ∷ 0 ∷ []) ∷ [])
    ∷ quiet (comes 2 shown_image) (8 ∷ 3 ∷ 0 ∷ []) ((8 ∷ 0 ∷ 0 ∷ 100 ∷ []) ∷ (10 ∷ 5 ∷ 0 ∷ 0 ∷ []) ∷ [])
    ∷ quiet (passes 0) (9 ∷ 4 ∷ 0 ∷ []) ((8 ∷ 0 ∷ 0 ∷ 100 ∷ []) ∷ (10 ∷ 5 ∷ 0 ∷ 0 ∷ []) ∷ [])
    ∷ []
