-- Pull, and from the verification on.
use Rattle.std.specs.Prelude.{List, [], ◌∷◌, replicate, Some, None}
use Rattle.mu_model_client.specs.declared.Dropped.TheVariants.{Silent, Status, Phase}
use Rattle.mu_model_client.specs.declared.Stage.TheVariants.{Transfer as StageTransfer, Verified as StageVerified, Applying as StageApplying, Canceling as StageCanceling, Ended as StageEnded}
use Rattle.mu_model_client_rows.specs.Scenes.{block_get, update_get, update_apply, update_cancel, information_get, blob_information_get, metadata_status, update_status, no_job_status, limits, check_of, start_of, transfer_of, shown_of, Turn, quiet, sends, Says, Passes, TakesApply, TakesCancel}

-- wanted chunks add up, and are sent once, rising; a number past the block is no report
abbrev pub pull_wanted : List Turn
pull_wanted =
    sends (Passes 0) ((2, check_of 136) ∷ []) ((10 ∷ 0 ∷ 0 ∷ 0 ∷ []) ∷ []) (None ∷ []) StageTransfer
    ∷ quiet (Says 0 2 (metadata_status 0)) ((10 ∷ 0 ∷ 0 ∷ 0 ∷ []) ∷ []) (None ∷ []) StageTransfer
    ∷ sends (Passes 0) ((2, start_of 136) ∷ []) ((10 ∷ 0 ∷ 0 ∷ 0 ∷ []) ∷ []) (None ∷ []) StageTransfer
    ∷ quiet (Says 0 2 (update_status 0x40 7)) ((2 ∷ 0 ∷ 0 ∷ 0 ∷ []) ∷ []) (None ∷ []) StageTransfer
    ∷ sends (Passes 0) ((2, blob_information_get) ∷ []) ((2 ∷ 0 ∷ 0 ∷ 0 ∷ []) ∷ []) (None ∷ []) StageTransfer
    ∷ quiet (Says 0 2 (limits 12 14 2048 376 65535 380 3)) ((2 ∷ 0 ∷ 0 ∷ 0 ∷ []) ∷ []) (None ∷ []) StageTransfer
    ∷ sends (Passes 0) ((2, transfer_of 0x80 136) ∷ []) ((2 ∷ 0 ∷ 0 ∷ 0 ∷ []) ∷ []) (None ∷ []) StageTransfer
    ∷ quiet (Says 0 2 (0x83 ∷ 3 ∷ 0x80 ∷ 2 ∷ 7 ∷ 0 ∷ 0 ∷ 0 ∷ 0 ∷ 0 ∷ 1 ∷ 0 ∷ 0x88 ∷ 0 ∷ 0 ∷ 0 ∷ 0xc ∷ 0x7c ∷ 1 ∷ 1 ∷ [])) ((2 ∷ 0 ∷ 0 ∷ 0 ∷ []) ∷ []) (None ∷ []) StageTransfer
    ∷ sends (Passes 0) ((2, 0x83 ∷ 4 ∷ 0 ∷ 0 ∷ 8 ∷ 0 ∷ []) ∷ []) ((2 ∷ 0 ∷ 0 ∷ 0 ∷ []) ∷ []) (None ∷ []) StageTransfer
    ∷ quiet (Says 0 2 (0x67 ∷ 0 ∷ 0 ∷ 0 ∷ 8 ∷ 0 ∷ [])) ((2 ∷ 0 ∷ 0 ∷ 0 ∷ []) ∷ []) (None ∷ []) StageTransfer
    ∷ quiet (Passes 0) ((2 ∷ 0 ∷ 0 ∷ 0 ∷ []) ∷ []) (None ∷ []) StageTransfer
    ∷ quiet (Says 0 2 (0x68 ∷ 5 ∷ 1 ∷ [])) ((2 ∷ 0 ∷ 0 ∷ 0 ∷ []) ∷ []) (None ∷ []) StageTransfer
    ∷ quiet (Says 0 2 (0x68 ∷ 1 ∷ 9 ∷ [])) ((2 ∷ 0 ∷ 0 ∷ 0 ∷ []) ∷ []) (None ∷ []) StageTransfer
    ∷ sends (Passes 0) ((2, 0x66 ∷ 1 ∷ 0 ∷ 0x61 ∷ 0x61 ∷ 0x61 ∷ 0x61 ∷ 0x61 ∷ 0x61 ∷ 0x61 ∷ 0x61 ∷ []) ∷ (2, 0x66 ∷ 5 ∷ 0 ∷ 0x61 ∷ 0x61 ∷ 0x61 ∷ 0x61 ∷ 0x61 ∷ 0x61 ∷ 0x61 ∷ 0x61 ∷ []) ∷ (2, 0x66 ∷ 9 ∷ 0 ∷ 0x61 ∷ 0x61 ∷ 0x61 ∷ 0x61 ∷ 0x61 ∷ 0x61 ∷ 0x61 ∷ 0x61 ∷ []) ∷ []) ((2 ∷ 0 ∷ 0 ∷ 0 ∷ []) ∷ []) (None ∷ []) StageTransfer
    ∷ quiet (Passes 0) ((2 ∷ 0 ∷ 0 ∷ 0 ∷ []) ∷ []) (None ∷ []) StageTransfer
    ∷ quiet (Says 0 2 (0x68 ∷ 0x11 ∷ [])) ((2 ∷ 0 ∷ 0 ∷ 0 ∷ []) ∷ []) (None ∷ []) StageTransfer
    ∷ quiet (Passes 0) ((2 ∷ 0 ∷ 0 ∷ 0 ∷ []) ∷ []) (None ∷ []) StageTransfer
    ∷ quiet (Says 0 2 (0x67 ∷ 0 ∷ 0 ∷ 0 ∷ 8 ∷ 0 ∷ [])) ((2 ∷ 0 ∷ 0 ∷ 0 ∷ []) ∷ []) (None ∷ []) StageTransfer
    ∷ sends (Passes 0) ((2, 0x66 ∷ 0 ∷ 0 ∷ 0x61 ∷ 0x61 ∷ 0x61 ∷ 0x61 ∷ 0x61 ∷ 0x61 ∷ 0x61 ∷ 0x61 ∷ []) ∷ (2, 0x66 ∷ 1 ∷ 0 ∷ 0x61 ∷ 0x61 ∷ 0x61 ∷ 0x61 ∷ 0x61 ∷ 0x61 ∷ 0x61 ∷ 0x61 ∷ []) ∷ (2, 0x66 ∷ 2 ∷ 0 ∷ 0x61 ∷ 0x61 ∷ 0x61 ∷ 0x61 ∷ 0x61 ∷ 0x61 ∷ 0x61 ∷ 0x61 ∷ []) ∷ (2, 0x66 ∷ 3 ∷ 0 ∷ 0x61 ∷ 0x61 ∷ 0x61 ∷ 0x61 ∷ 0x61 ∷ 0x61 ∷ 0x61 ∷ 0x61 ∷ []) ∷ (2, 0x66 ∷ 4 ∷ 0 ∷ 0x61 ∷ 0x61 ∷ 0x61 ∷ 0x61 ∷ 0x61 ∷ 0x61 ∷ 0x61 ∷ 0x61 ∷ []) ∷ (2, 0x66 ∷ 5 ∷ 0 ∷ 0x61 ∷ 0x61 ∷ 0x61 ∷ 0x61 ∷ 0x61 ∷ 0x61 ∷ 0x61 ∷ 0x61 ∷ []) ∷ (2, 0x66 ∷ 6 ∷ 0 ∷ 0x61 ∷ 0x61 ∷ 0x61 ∷ 0x61 ∷ 0x61 ∷ 0x61 ∷ 0x61 ∷ 0x61 ∷ []) ∷ (2, 0x66 ∷ 7 ∷ 0 ∷ 0x61 ∷ 0x61 ∷ 0x61 ∷ 0x61 ∷ 0x61 ∷ 0x61 ∷ 0x61 ∷ 0x61 ∷ []) ∷ (2, 0x66 ∷ 8 ∷ 0 ∷ 0x61 ∷ 0x61 ∷ 0x61 ∷ 0x61 ∷ 0x61 ∷ 0x61 ∷ 0x61 ∷ 0x61 ∷ []) ∷ (2, 0x66 ∷ 9 ∷ 0 ∷ 0x61 ∷ 0x61 ∷ 0x61 ∷ 0x61 ∷ 0x61 ∷ 0x61 ∷ 0x61 ∷ 0x61 ∷ []) ∷ (2, 0x66 ∷ 0xa ∷ 0 ∷ 0x61 ∷ 0x61 ∷ 0x61 ∷ 0x61 ∷ 0x61 ∷ 0x61 ∷ 0x61 ∷ 0x61 ∷ []) ∷ (2, 0x66 ∷ 0xb ∷ 0 ∷ 0x61 ∷ 0x61 ∷ 0x61 ∷ 0x61 ∷ 0x61 ∷ 0x61 ∷ 0x61 ∷ 0x61 ∷ []) ∷ (2, 0x66 ∷ 0xc ∷ 0 ∷ 0x61 ∷ 0x61 ∷ 0x61 ∷ 0x61 ∷ 0x61 ∷ 0x61 ∷ 0x61 ∷ 0x61 ∷ []) ∷ (2, 0x66 ∷ 0xd ∷ 0 ∷ 0x61 ∷ 0x61 ∷ 0x61 ∷ 0x61 ∷ 0x61 ∷ 0x61 ∷ 0x61 ∷ 0x61 ∷ []) ∷ (2, 0x66 ∷ 0xe ∷ 0 ∷ 0x61 ∷ 0x61 ∷ 0x61 ∷ 0x61 ∷ 0x61 ∷ 0x61 ∷ 0x61 ∷ 0x61 ∷ []) ∷ (2, 0x66 ∷ 0xf ∷ 0 ∷ 0x61 ∷ 0x61 ∷ 0x61 ∷ 0x61 ∷ 0x61 ∷ 0x61 ∷ 0x61 ∷ 0x61 ∷ []) ∷ []) ((2 ∷ 0 ∷ 0 ∷ 0 ∷ []) ∷ []) (None ∷ []) StageTransfer
    ∷ quiet (Says 0 2 (0x67 ∷ 0xc0 ∷ 0 ∷ 0 ∷ 8 ∷ 0 ∷ 3 ∷ [])) ((2 ∷ 0 ∷ 0 ∷ 0 ∷ []) ∷ []) (None ∷ []) StageTransfer
    ∷ quiet (Says 0 2 (0x68 ∷ [])) ((2 ∷ 0 ∷ 0 ∷ 100 ∷ []) ∷ []) (None ∷ []) StageTransfer
    ∷ sends (Passes 0) ((2, update_get) ∷ []) ((2 ∷ 0 ∷ 0 ∷ 100 ∷ []) ∷ []) (None ∷ []) StageTransfer
    ∷ []

-- silence begins anew with each report; Block Get goes to one that was not heard
abbrev pub pull_silence : List Turn
pull_silence =
    sends (Passes 0) ((2, check_of 136) ∷ []) ((10 ∷ 0 ∷ 0 ∷ 0 ∷ []) ∷ []) (None ∷ []) StageTransfer
    ∷ quiet (Says 0 2 (metadata_status 0)) ((10 ∷ 0 ∷ 0 ∷ 0 ∷ []) ∷ []) (None ∷ []) StageTransfer
    ∷ sends (Passes 0) ((2, start_of 136) ∷ []) ((10 ∷ 0 ∷ 0 ∷ 0 ∷ []) ∷ []) (None ∷ []) StageTransfer
    ∷ quiet (Says 0 2 (update_status 0x40 7)) ((2 ∷ 0 ∷ 0 ∷ 0 ∷ []) ∷ []) (None ∷ []) StageTransfer
    ∷ sends (Passes 0) ((2, blob_information_get) ∷ []) ((2 ∷ 0 ∷ 0 ∷ 0 ∷ []) ∷ []) (None ∷ []) StageTransfer
    ∷ quiet (Says 0 2 (limits 12 14 2048 376 65535 380 3)) ((2 ∷ 0 ∷ 0 ∷ 0 ∷ []) ∷ []) (None ∷ []) StageTransfer
    ∷ sends (Passes 0) ((2, transfer_of 0x80 136) ∷ []) ((2 ∷ 0 ∷ 0 ∷ 0 ∷ []) ∷ []) (None ∷ []) StageTransfer
    ∷ quiet (Says 0 2 (0x83 ∷ 3 ∷ 0x80 ∷ 2 ∷ 7 ∷ 0 ∷ 0 ∷ 0 ∷ 0 ∷ 0 ∷ 1 ∷ 0 ∷ 0x88 ∷ 0 ∷ 0 ∷ 0 ∷ 0xc ∷ 0x7c ∷ 1 ∷ 1 ∷ [])) ((2 ∷ 0 ∷ 0 ∷ 0 ∷ []) ∷ []) (None ∷ []) StageTransfer
    ∷ sends (Passes 0) ((2, 0x83 ∷ 4 ∷ 0 ∷ 0 ∷ 8 ∷ 0 ∷ []) ∷ []) ((2 ∷ 0 ∷ 0 ∷ 0 ∷ []) ∷ []) (None ∷ []) StageTransfer
    ∷ quiet (Says 0 2 (0x67 ∷ 0 ∷ 0 ∷ 0 ∷ 8 ∷ 0 ∷ [])) ((2 ∷ 0 ∷ 0 ∷ 0 ∷ []) ∷ []) (None ∷ []) StageTransfer
    ∷ quiet (Passes 0) ((2 ∷ 0 ∷ 0 ∷ 0 ∷ []) ∷ []) (None ∷ []) StageTransfer
    ∷ sends (Passes 4100) ((2, block_get) ∷ []) ((2 ∷ 0 ∷ 0 ∷ 0 ∷ []) ∷ []) (None ∷ []) StageTransfer
    ∷ sends (Passes 8200) ((2, block_get) ∷ []) ((2 ∷ 0 ∷ 0 ∷ 0 ∷ []) ∷ []) (None ∷ []) StageTransfer
    ∷ sends (Passes 12300) ((2, block_get) ∷ []) ((2 ∷ 0 ∷ 0 ∷ 0 ∷ []) ∷ []) (None ∷ []) StageTransfer
    ∷ sends (Passes 16400) ((2, block_get) ∷ []) ((2 ∷ 0 ∷ 0 ∷ 0 ∷ []) ∷ []) (None ∷ []) StageTransfer
    ∷ quiet (Says 16500 2 (0x68 ∷ 5 ∷ [])) ((2 ∷ 0 ∷ 0 ∷ 0 ∷ []) ∷ []) (None ∷ []) StageTransfer
    ∷ sends (Passes 16500) ((2, 0x66 ∷ 5 ∷ 0 ∷ 0x61 ∷ 0x61 ∷ 0x61 ∷ 0x61 ∷ 0x61 ∷ 0x61 ∷ 0x61 ∷ 0x61 ∷ []) ∷ []) ((2 ∷ 0 ∷ 0 ∷ 0 ∷ []) ∷ []) (None ∷ []) StageTransfer
    ∷ quiet (Passes 20500) ((2 ∷ 0 ∷ 0 ∷ 0 ∷ []) ∷ []) (None ∷ []) StageTransfer
    ∷ sends (Passes 24600) ((2, block_get) ∷ []) ((2 ∷ 0 ∷ 0 ∷ 0 ∷ []) ∷ []) (None ∷ []) StageTransfer
    ∷ sends (Passes 28700) ((2, block_get) ∷ []) ((2 ∷ 0 ∷ 0 ∷ 0 ∷ []) ∷ []) (None ∷ []) StageTransfer
    ∷ sends (Passes 32800) ((2, block_get) ∷ []) ((2 ∷ 0 ∷ 0 ∷ 0 ∷ []) ∷ []) (None ∷ []) StageTransfer
    ∷ sends (Passes 36900) ((2, block_get) ∷ []) ((2 ∷ 0 ∷ 0 ∷ 0 ∷ []) ∷ []) (None ∷ []) StageTransfer
    ∷ quiet (Passes 41000) ((2 ∷ 0 ∷ 0 ∷ 0 ∷ []) ∷ []) (Some (Silent 6) ∷ []) StageEnded
    ∷ []

-- only the one that was not heard is asked
abbrev pub pull_two : List Turn
pull_two =
    sends (Passes 0) ((2, check_of 136) ∷ (3, check_of 136) ∷ []) ((10 ∷ 0 ∷ 0 ∷ 0 ∷ []) ∷ (10 ∷ 0 ∷ 0 ∷ 0 ∷ []) ∷ []) (None ∷ None ∷ []) StageTransfer
    ∷ quiet (Says 0 2 (metadata_status 0)) ((10 ∷ 0 ∷ 0 ∷ 0 ∷ []) ∷ (10 ∷ 0 ∷ 0 ∷ 0 ∷ []) ∷ []) (None ∷ None ∷ []) StageTransfer
    ∷ quiet (Says 0 3 (metadata_status 0)) ((10 ∷ 0 ∷ 0 ∷ 0 ∷ []) ∷ (10 ∷ 0 ∷ 0 ∷ 0 ∷ []) ∷ []) (None ∷ None ∷ []) StageTransfer
    ∷ sends (Passes 0) ((2, start_of 136) ∷ (3, start_of 136) ∷ []) ((10 ∷ 0 ∷ 0 ∷ 0 ∷ []) ∷ (10 ∷ 0 ∷ 0 ∷ 0 ∷ []) ∷ []) (None ∷ None ∷ []) StageTransfer
    ∷ quiet (Says 0 2 (update_status 0x40 7)) ((2 ∷ 0 ∷ 0 ∷ 0 ∷ []) ∷ (10 ∷ 0 ∷ 0 ∷ 0 ∷ []) ∷ []) (None ∷ None ∷ []) StageTransfer
    ∷ quiet (Says 0 3 (update_status 0x40 7)) ((2 ∷ 0 ∷ 0 ∷ 0 ∷ []) ∷ (2 ∷ 0 ∷ 0 ∷ 0 ∷ []) ∷ []) (None ∷ None ∷ []) StageTransfer
    ∷ sends (Passes 0) ((2, blob_information_get) ∷ (3, blob_information_get) ∷ []) ((2 ∷ 0 ∷ 0 ∷ 0 ∷ []) ∷ (2 ∷ 0 ∷ 0 ∷ 0 ∷ []) ∷ []) (None ∷ None ∷ []) StageTransfer
    ∷ quiet (Says 0 2 (limits 12 14 2048 376 65535 380 3)) ((2 ∷ 0 ∷ 0 ∷ 0 ∷ []) ∷ (2 ∷ 0 ∷ 0 ∷ 0 ∷ []) ∷ []) (None ∷ None ∷ []) StageTransfer
    ∷ quiet (Says 0 3 (limits 12 14 2048 376 65535 380 3)) ((2 ∷ 0 ∷ 0 ∷ 0 ∷ []) ∷ (2 ∷ 0 ∷ 0 ∷ 0 ∷ []) ∷ []) (None ∷ None ∷ []) StageTransfer
    ∷ sends (Passes 0) ((2, transfer_of 0x80 136) ∷ (3, transfer_of 0x80 136) ∷ []) ((2 ∷ 0 ∷ 0 ∷ 0 ∷ []) ∷ (2 ∷ 0 ∷ 0 ∷ 0 ∷ []) ∷ []) (None ∷ None ∷ []) StageTransfer
    ∷ quiet (Says 0 2 (0x83 ∷ 3 ∷ 0x80 ∷ 2 ∷ 7 ∷ 0 ∷ 0 ∷ 0 ∷ 0 ∷ 0 ∷ 1 ∷ 0 ∷ 0x88 ∷ 0 ∷ 0 ∷ 0 ∷ 0xc ∷ 0x7c ∷ 1 ∷ 1 ∷ [])) ((2 ∷ 0 ∷ 0 ∷ 0 ∷ []) ∷ (2 ∷ 0 ∷ 0 ∷ 0 ∷ []) ∷ []) (None ∷ None ∷ []) StageTransfer
    ∷ quiet (Says 0 3 (0x83 ∷ 3 ∷ 0x80 ∷ 2 ∷ 7 ∷ 0 ∷ 0 ∷ 0 ∷ 0 ∷ 0 ∷ 1 ∷ 0 ∷ 0x88 ∷ 0 ∷ 0 ∷ 0 ∷ 0xc ∷ 0x7c ∷ 1 ∷ 1 ∷ [])) ((2 ∷ 0 ∷ 0 ∷ 0 ∷ []) ∷ (2 ∷ 0 ∷ 0 ∷ 0 ∷ []) ∷ []) (None ∷ None ∷ []) StageTransfer
    ∷ sends (Passes 0) ((2, 0x83 ∷ 4 ∷ 0 ∷ 0 ∷ 8 ∷ 0 ∷ []) ∷ (3, 0x83 ∷ 4 ∷ 0 ∷ 0 ∷ 8 ∷ 0 ∷ []) ∷ []) ((2 ∷ 0 ∷ 0 ∷ 0 ∷ []) ∷ (2 ∷ 0 ∷ 0 ∷ 0 ∷ []) ∷ []) (None ∷ None ∷ []) StageTransfer
    ∷ quiet (Says 0 2 (0x67 ∷ 0 ∷ 0 ∷ 0 ∷ 8 ∷ 0 ∷ [])) ((2 ∷ 0 ∷ 0 ∷ 0 ∷ []) ∷ (2 ∷ 0 ∷ 0 ∷ 0 ∷ []) ∷ []) (None ∷ None ∷ []) StageTransfer
    ∷ quiet (Says 0 3 (0x67 ∷ 0 ∷ 0 ∷ 0 ∷ 8 ∷ 0 ∷ [])) ((2 ∷ 0 ∷ 0 ∷ 0 ∷ []) ∷ (2 ∷ 0 ∷ 0 ∷ 0 ∷ []) ∷ []) (None ∷ None ∷ []) StageTransfer
    ∷ quiet (Passes 0) ((2 ∷ 0 ∷ 0 ∷ 0 ∷ []) ∷ (2 ∷ 0 ∷ 0 ∷ 0 ∷ []) ∷ []) (None ∷ None ∷ []) StageTransfer
    ∷ quiet (Says 10 3 (0x68 ∷ 0 ∷ [])) ((2 ∷ 0 ∷ 0 ∷ 0 ∷ []) ∷ (2 ∷ 0 ∷ 0 ∷ 0 ∷ []) ∷ []) (None ∷ None ∷ []) StageTransfer
    ∷ sends (Passes 10) ((3, 0x66 ∷ 0 ∷ 0 ∷ 0x61 ∷ 0x61 ∷ 0x61 ∷ 0x61 ∷ 0x61 ∷ 0x61 ∷ 0x61 ∷ 0x61 ∷ []) ∷ []) ((2 ∷ 0 ∷ 0 ∷ 0 ∷ []) ∷ (2 ∷ 0 ∷ 0 ∷ 0 ∷ []) ∷ []) (None ∷ None ∷ []) StageTransfer
    ∷ sends (Passes 4100) ((2, block_get) ∷ []) ((2 ∷ 0 ∷ 0 ∷ 0 ∷ []) ∷ (2 ∷ 0 ∷ 0 ∷ 0 ∷ []) ∷ []) (None ∷ None ∷ []) StageTransfer
    ∷ sends (Passes 8200) ((2, block_get) ∷ (3, block_get) ∷ []) ((2 ∷ 0 ∷ 0 ∷ 0 ∷ []) ∷ (2 ∷ 0 ∷ 0 ∷ 0 ∷ []) ∷ []) (None ∷ None ∷ []) StageTransfer
    ∷ quiet (Says 8200 3 (0x68 ∷ [])) ((2 ∷ 0 ∷ 0 ∷ 0 ∷ []) ∷ (2 ∷ 0 ∷ 0 ∷ 100 ∷ []) ∷ []) (None ∷ None ∷ []) StageTransfer
    ∷ quiet (Passes 8200) ((2 ∷ 0 ∷ 0 ∷ 0 ∷ []) ∷ (2 ∷ 0 ∷ 0 ∷ 100 ∷ []) ∷ []) (None ∷ None ∷ []) StageTransfer
    ∷ sends (Passes 12300) ((2, block_get) ∷ []) ((2 ∷ 0 ∷ 0 ∷ 0 ∷ []) ∷ (2 ∷ 0 ∷ 0 ∷ 100 ∷ []) ∷ []) (None ∷ None ∷ []) StageTransfer
    ∷ []

-- after a block in pull the next that is missed
abbrev pub pull_blocks : List Turn
pull_blocks =
    sends (Passes 0) ((2, check_of 4104) ∷ []) ((10 ∷ 0 ∷ 0 ∷ 0 ∷ []) ∷ []) (None ∷ []) StageTransfer
    ∷ quiet (Says 0 2 (metadata_status 0)) ((10 ∷ 0 ∷ 0 ∷ 0 ∷ []) ∷ []) (None ∷ []) StageTransfer
    ∷ sends (Passes 0) ((2, start_of 4104) ∷ []) ((10 ∷ 0 ∷ 0 ∷ 0 ∷ []) ∷ []) (None ∷ []) StageTransfer
    ∷ quiet (Says 0 2 (update_status 0x40 7)) ((2 ∷ 0 ∷ 0 ∷ 0 ∷ []) ∷ []) (None ∷ []) StageTransfer
    ∷ sends (Passes 0) ((2, blob_information_get) ∷ []) ((2 ∷ 0 ∷ 0 ∷ 0 ∷ []) ∷ []) (None ∷ []) StageTransfer
    ∷ quiet (Says 0 2 (limits 12 14 2048 376 65535 380 3)) ((2 ∷ 0 ∷ 0 ∷ 0 ∷ []) ∷ []) (None ∷ []) StageTransfer
    ∷ sends (Passes 0) ((2, transfer_of 0x80 4104) ∷ []) ((2 ∷ 0 ∷ 0 ∷ 0 ∷ []) ∷ []) (None ∷ []) StageTransfer
    ∷ quiet (Says 0 2 (0x83 ∷ 3 ∷ 0x80 ∷ 2 ∷ 7 ∷ 0 ∷ 0 ∷ 0 ∷ 0 ∷ 0 ∷ 1 ∷ 0 ∷ 8 ∷ 0x10 ∷ 0 ∷ 0 ∷ 0xc ∷ 0x7c ∷ 1 ∷ 3 ∷ [])) ((2 ∷ 0 ∷ 0 ∷ 0 ∷ []) ∷ []) (None ∷ []) StageTransfer
    ∷ sends (Passes 0) ((2, 0x83 ∷ 4 ∷ 0 ∷ 0 ∷ 0x78 ∷ 1 ∷ []) ∷ []) ((2 ∷ 0 ∷ 0 ∷ 0 ∷ []) ∷ []) (None ∷ []) StageTransfer
    ∷ quiet (Says 0 2 (0x67 ∷ 0 ∷ 0 ∷ 0 ∷ 0x78 ∷ 1 ∷ [])) ((2 ∷ 0 ∷ 0 ∷ 0 ∷ []) ∷ []) (None ∷ []) StageTransfer
    ∷ quiet (Passes 0) ((2 ∷ 0 ∷ 0 ∷ 0 ∷ []) ∷ []) (None ∷ []) StageTransfer
    ∷ quiet (Says 0 2 (0x68 ∷ 0xa ∷ [])) ((2 ∷ 0 ∷ 0 ∷ 0 ∷ []) ∷ []) (None ∷ []) StageTransfer
    ∷ sends (Passes 0) ((2, 0x66 ∷ 0xa ∷ 0 ∷ replicate 336 0x61) ∷ []) ((2 ∷ 0 ∷ 0 ∷ 0 ∷ []) ∷ []) (None ∷ []) StageTransfer
    ∷ quiet (Says 0 2 (0x68 ∷ [])) ((2 ∷ 0 ∷ 0 ∷ 50 ∷ []) ∷ []) (None ∷ []) StageTransfer
    ∷ sends (Passes 0) ((2, 0x83 ∷ 4 ∷ 1 ∷ 0 ∷ 0x78 ∷ 1 ∷ []) ∷ []) ((2 ∷ 0 ∷ 0 ∷ 50 ∷ []) ∷ []) (None ∷ []) StageTransfer
    ∷ quiet (Says 0 2 (0x67 ∷ 0 ∷ 1 ∷ 0 ∷ 0x78 ∷ 1 ∷ [])) ((2 ∷ 0 ∷ 0 ∷ 50 ∷ []) ∷ []) (None ∷ []) StageTransfer
    ∷ quiet (Passes 0) ((2 ∷ 0 ∷ 0 ∷ 50 ∷ []) ∷ []) (None ∷ []) StageTransfer
    ∷ quiet (Says 0 2 (0x68 ∷ [])) ((2 ∷ 0 ∷ 0 ∷ 100 ∷ []) ∷ []) (None ∷ []) StageTransfer
    ∷ sends (Passes 0) ((2, update_get) ∷ []) ((2 ∷ 0 ∷ 0 ∷ 100 ∷ []) ∷ []) (None ∷ []) StageTransfer
    ∷ []

-- what a dropped one wanted isn't sent
abbrev pub pull_dropped : List Turn
pull_dropped =
    sends (Passes 0) ((2, check_of 136) ∷ (3, check_of 136) ∷ []) ((10 ∷ 0 ∷ 0 ∷ 0 ∷ []) ∷ (10 ∷ 0 ∷ 0 ∷ 0 ∷ []) ∷ []) (None ∷ None ∷ []) StageTransfer
    ∷ quiet (Says 0 2 (metadata_status 0)) ((10 ∷ 0 ∷ 0 ∷ 0 ∷ []) ∷ (10 ∷ 0 ∷ 0 ∷ 0 ∷ []) ∷ []) (None ∷ None ∷ []) StageTransfer
    ∷ quiet (Says 0 3 (metadata_status 0)) ((10 ∷ 0 ∷ 0 ∷ 0 ∷ []) ∷ (10 ∷ 0 ∷ 0 ∷ 0 ∷ []) ∷ []) (None ∷ None ∷ []) StageTransfer
    ∷ sends (Passes 0) ((2, start_of 136) ∷ (3, start_of 136) ∷ []) ((10 ∷ 0 ∷ 0 ∷ 0 ∷ []) ∷ (10 ∷ 0 ∷ 0 ∷ 0 ∷ []) ∷ []) (None ∷ None ∷ []) StageTransfer
    ∷ quiet (Says 0 2 (update_status 0x40 7)) ((2 ∷ 0 ∷ 0 ∷ 0 ∷ []) ∷ (10 ∷ 0 ∷ 0 ∷ 0 ∷ []) ∷ []) (None ∷ None ∷ []) StageTransfer
    ∷ quiet (Says 0 3 (update_status 0x40 7)) ((2 ∷ 0 ∷ 0 ∷ 0 ∷ []) ∷ (2 ∷ 0 ∷ 0 ∷ 0 ∷ []) ∷ []) (None ∷ None ∷ []) StageTransfer
    ∷ sends (Passes 0) ((2, blob_information_get) ∷ (3, blob_information_get) ∷ []) ((2 ∷ 0 ∷ 0 ∷ 0 ∷ []) ∷ (2 ∷ 0 ∷ 0 ∷ 0 ∷ []) ∷ []) (None ∷ None ∷ []) StageTransfer
    ∷ quiet (Says 0 2 (limits 12 14 2048 376 65535 380 3)) ((2 ∷ 0 ∷ 0 ∷ 0 ∷ []) ∷ (2 ∷ 0 ∷ 0 ∷ 0 ∷ []) ∷ []) (None ∷ None ∷ []) StageTransfer
    ∷ quiet (Says 0 3 (limits 12 14 2048 376 65535 380 3)) ((2 ∷ 0 ∷ 0 ∷ 0 ∷ []) ∷ (2 ∷ 0 ∷ 0 ∷ 0 ∷ []) ∷ []) (None ∷ None ∷ []) StageTransfer
    ∷ sends (Passes 0) ((2, transfer_of 0x80 136) ∷ (3, transfer_of 0x80 136) ∷ []) ((2 ∷ 0 ∷ 0 ∷ 0 ∷ []) ∷ (2 ∷ 0 ∷ 0 ∷ 0 ∷ []) ∷ []) (None ∷ None ∷ []) StageTransfer
    ∷ quiet (Says 0 2 (0x83 ∷ 3 ∷ 0x80 ∷ 2 ∷ 7 ∷ 0 ∷ 0 ∷ 0 ∷ 0 ∷ 0 ∷ 1 ∷ 0 ∷ 0x88 ∷ 0 ∷ 0 ∷ 0 ∷ 0xc ∷ 0x7c ∷ 1 ∷ 1 ∷ [])) ((2 ∷ 0 ∷ 0 ∷ 0 ∷ []) ∷ (2 ∷ 0 ∷ 0 ∷ 0 ∷ []) ∷ []) (None ∷ None ∷ []) StageTransfer
    ∷ quiet (Says 0 3 (0x83 ∷ 3 ∷ 0x80 ∷ 2 ∷ 7 ∷ 0 ∷ 0 ∷ 0 ∷ 0 ∷ 0 ∷ 1 ∷ 0 ∷ 0x88 ∷ 0 ∷ 0 ∷ 0 ∷ 0xc ∷ 0x7c ∷ 1 ∷ 1 ∷ [])) ((2 ∷ 0 ∷ 0 ∷ 0 ∷ []) ∷ (2 ∷ 0 ∷ 0 ∷ 0 ∷ []) ∷ []) (None ∷ None ∷ []) StageTransfer
    ∷ sends (Passes 0) ((2, 0x83 ∷ 4 ∷ 0 ∷ 0 ∷ 8 ∷ 0 ∷ []) ∷ (3, 0x83 ∷ 4 ∷ 0 ∷ 0 ∷ 8 ∷ 0 ∷ []) ∷ []) ((2 ∷ 0 ∷ 0 ∷ 0 ∷ []) ∷ (2 ∷ 0 ∷ 0 ∷ 0 ∷ []) ∷ []) (None ∷ None ∷ []) StageTransfer
    ∷ quiet (Says 0 2 (0x67 ∷ 0 ∷ 0 ∷ 0 ∷ 8 ∷ 0 ∷ [])) ((2 ∷ 0 ∷ 0 ∷ 0 ∷ []) ∷ (2 ∷ 0 ∷ 0 ∷ 0 ∷ []) ∷ []) (None ∷ None ∷ []) StageTransfer
    ∷ quiet (Says 0 3 (0x67 ∷ 0 ∷ 0 ∷ 0 ∷ 8 ∷ 0 ∷ [])) ((2 ∷ 0 ∷ 0 ∷ 0 ∷ []) ∷ (2 ∷ 0 ∷ 0 ∷ 0 ∷ []) ∷ []) (None ∷ None ∷ []) StageTransfer
    ∷ quiet (Passes 0) ((2 ∷ 0 ∷ 0 ∷ 0 ∷ []) ∷ (2 ∷ 0 ∷ 0 ∷ 0 ∷ []) ∷ []) (None ∷ None ∷ []) StageTransfer
    ∷ quiet (Says 0 3 (0x68 ∷ 0 ∷ [])) ((2 ∷ 0 ∷ 0 ∷ 0 ∷ []) ∷ (2 ∷ 0 ∷ 0 ∷ 0 ∷ []) ∷ []) (None ∷ None ∷ []) StageTransfer
    ∷ quiet (Says 0 2 (0x68 ∷ 1 ∷ [])) ((2 ∷ 0 ∷ 0 ∷ 0 ∷ []) ∷ (2 ∷ 0 ∷ 0 ∷ 0 ∷ []) ∷ []) (None ∷ None ∷ []) StageTransfer
    ∷ quiet (Says 0 3 (0x67 ∷ 4 ∷ 0 ∷ 0 ∷ 8 ∷ 0 ∷ [])) ((2 ∷ 0 ∷ 0 ∷ 0 ∷ []) ∷ (2 ∷ 0 ∷ 4 ∷ 0 ∷ []) ∷ []) (None ∷ Some (Status 6 4) ∷ []) StageTransfer
    ∷ sends (Passes 0) ((2, 0x66 ∷ 1 ∷ 0 ∷ 0x61 ∷ 0x61 ∷ 0x61 ∷ 0x61 ∷ 0x61 ∷ 0x61 ∷ 0x61 ∷ 0x61 ∷ []) ∷ []) ((2 ∷ 0 ∷ 0 ∷ 0 ∷ []) ∷ (2 ∷ 0 ∷ 4 ∷ 0 ∷ []) ∷ []) (None ∷ Some (Status 6 4) ∷ []) StageTransfer
    ∷ []

-- a receiver that is verifying isn't silent
abbrev pub verifying : List Turn
verifying =
    sends (Passes 0) ((2, check_of 3) ∷ []) ((10 ∷ 0 ∷ 0 ∷ 0 ∷ []) ∷ []) (None ∷ []) StageTransfer
    ∷ quiet (Says 0 2 (metadata_status 0)) ((10 ∷ 0 ∷ 0 ∷ 0 ∷ []) ∷ []) (None ∷ []) StageTransfer
    ∷ sends (Passes 0) ((2, start_of 3) ∷ []) ((10 ∷ 0 ∷ 0 ∷ 0 ∷ []) ∷ []) (None ∷ []) StageTransfer
    ∷ quiet (Says 0 2 (update_status 0x40 7)) ((2 ∷ 0 ∷ 0 ∷ 0 ∷ []) ∷ []) (None ∷ []) StageTransfer
    ∷ sends (Passes 0) ((2, blob_information_get) ∷ []) ((2 ∷ 0 ∷ 0 ∷ 0 ∷ []) ∷ []) (None ∷ []) StageTransfer
    ∷ quiet (Says 0 2 (limits 12 14 2048 376 65535 380 3)) ((2 ∷ 0 ∷ 0 ∷ 0 ∷ []) ∷ []) (None ∷ []) StageTransfer
    ∷ sends (Passes 0) ((2, transfer_of 0x40 3) ∷ []) ((2 ∷ 0 ∷ 0 ∷ 0 ∷ []) ∷ []) (None ∷ []) StageTransfer
    ∷ quiet (Says 0 2 (0x83 ∷ 3 ∷ 0x40 ∷ 2 ∷ 7 ∷ 0 ∷ 0 ∷ 0 ∷ 0 ∷ 0 ∷ 1 ∷ 0 ∷ 3 ∷ 0 ∷ 0 ∷ 0 ∷ 0xc ∷ 0x7c ∷ 1 ∷ 0 ∷ [])) ((2 ∷ 0 ∷ 0 ∷ 100 ∷ []) ∷ []) (None ∷ []) StageTransfer
    ∷ sends (Passes 0) ((2, update_get) ∷ []) ((2 ∷ 0 ∷ 0 ∷ 100 ∷ []) ∷ []) (None ∷ []) StageTransfer
    ∷ sends (Passes 4100) ((2, update_get) ∷ []) ((2 ∷ 0 ∷ 0 ∷ 100 ∷ []) ∷ []) (None ∷ []) StageTransfer
    ∷ sends (Passes 8200) ((2, update_get) ∷ []) ((2 ∷ 0 ∷ 0 ∷ 100 ∷ []) ∷ []) (None ∷ []) StageTransfer
    ∷ sends (Passes 12300) ((2, update_get) ∷ []) ((2 ∷ 0 ∷ 0 ∷ 100 ∷ []) ∷ []) (None ∷ []) StageTransfer
    ∷ sends (Passes 16400) ((2, update_get) ∷ []) ((2 ∷ 0 ∷ 0 ∷ 100 ∷ []) ∷ []) (None ∷ []) StageTransfer
    ∷ quiet (Says 16400 2 (update_status 0x60 7)) ((3 ∷ 0 ∷ 0 ∷ 100 ∷ []) ∷ []) (None ∷ []) StageTransfer
    ∷ sends (Passes 20500) ((2, update_get) ∷ []) ((3 ∷ 0 ∷ 0 ∷ 100 ∷ []) ∷ []) (None ∷ []) StageTransfer
    ∷ sends (Passes 24600) ((2, update_get) ∷ []) ((3 ∷ 0 ∷ 0 ∷ 100 ∷ []) ∷ []) (None ∷ []) StageTransfer
    ∷ sends (Passes 28700) ((2, update_get) ∷ []) ((3 ∷ 0 ∷ 0 ∷ 100 ∷ []) ∷ []) (None ∷ []) StageTransfer
    ∷ sends (Passes 32800) ((2, update_get) ∷ []) ((3 ∷ 0 ∷ 0 ∷ 100 ∷ []) ∷ []) (None ∷ []) StageTransfer
    ∷ quiet (Passes 36900) ((3 ∷ 0 ∷ 0 ∷ 100 ∷ []) ∷ []) (Some (Silent 8) ∷ []) StageEnded
    ∷ []

-- a plan that doesn't apply rests after the verification
abbrev pub applied_later : List Turn
applied_later =
    sends (Passes 0) ((2, check_of 3) ∷ []) ((10 ∷ 0 ∷ 0 ∷ 0 ∷ []) ∷ []) (None ∷ []) StageTransfer
    ∷ quiet (Says 0 2 (metadata_status 0)) ((10 ∷ 0 ∷ 0 ∷ 0 ∷ []) ∷ []) (None ∷ []) StageTransfer
    ∷ sends (Passes 0) ((2, start_of 3) ∷ []) ((10 ∷ 0 ∷ 0 ∷ 0 ∷ []) ∷ []) (None ∷ []) StageTransfer
    ∷ quiet (Says 0 2 (update_status 0x40 7)) ((2 ∷ 0 ∷ 0 ∷ 0 ∷ []) ∷ []) (None ∷ []) StageTransfer
    ∷ sends (Passes 0) ((2, blob_information_get) ∷ []) ((2 ∷ 0 ∷ 0 ∷ 0 ∷ []) ∷ []) (None ∷ []) StageTransfer
    ∷ quiet (Says 0 2 (limits 12 14 2048 376 65535 380 3)) ((2 ∷ 0 ∷ 0 ∷ 0 ∷ []) ∷ []) (None ∷ []) StageTransfer
    ∷ sends (Passes 0) ((2, transfer_of 0x40 3) ∷ []) ((2 ∷ 0 ∷ 0 ∷ 0 ∷ []) ∷ []) (None ∷ []) StageTransfer
    ∷ quiet (Says 0 2 (0x83 ∷ 3 ∷ 0x40 ∷ 2 ∷ 7 ∷ 0 ∷ 0 ∷ 0 ∷ 0 ∷ 0 ∷ 1 ∷ 0 ∷ 3 ∷ 0 ∷ 0 ∷ 0 ∷ 0xc ∷ 0x7c ∷ 1 ∷ 0 ∷ [])) ((2 ∷ 0 ∷ 0 ∷ 100 ∷ []) ∷ []) (None ∷ []) StageTransfer
    ∷ sends (Passes 0) ((2, update_get) ∷ []) ((2 ∷ 0 ∷ 0 ∷ 100 ∷ []) ∷ []) (None ∷ []) StageTransfer
    ∷ quiet (Says 0 2 (update_status 0x80 7)) ((4 ∷ 0 ∷ 0 ∷ 100 ∷ []) ∷ []) (None ∷ []) StageTransfer
    ∷ quiet (Passes 0) ((4 ∷ 0 ∷ 0 ∷ 100 ∷ []) ∷ []) (None ∷ []) StageVerified
    ∷ quiet (Passes 9999) ((4 ∷ 0 ∷ 0 ∷ 100 ∷ []) ∷ []) (None ∷ []) StageVerified
    ∷ quiet TakesApply ((4 ∷ 0 ∷ 0 ∷ 100 ∷ []) ∷ []) (None ∷ []) StageApplying
    ∷ sends (Passes 9999) ((2, update_apply) ∷ []) ((4 ∷ 0 ∷ 0 ∷ 100 ∷ []) ∷ []) (None ∷ []) StageApplying
    ∷ quiet (Says 9999 2 (update_status 0xc0 7)) ((6 ∷ 0 ∷ 0 ∷ 100 ∷ []) ∷ []) (None ∷ []) StageApplying
    ∷ sends (Passes 9999) ((2, information_get) ∷ []) ((6 ∷ 0 ∷ 0 ∷ 100 ∷ []) ∷ []) (None ∷ []) StageApplying
    ∷ quiet (Says 9999 2 shown_of) ((8 ∷ 0 ∷ 0 ∷ 100 ∷ []) ∷ []) (None ∷ []) StageApplying
    ∷ quiet (Passes 9999) ((8 ∷ 0 ∷ 0 ∷ 100 ∷ []) ∷ []) (None ∷ []) StageEnded
    ∷ []

-- where all are dropped in the verification, a plan that doesn't apply rests as well
abbrev pub nobody_verified : List Turn
nobody_verified =
    sends (Passes 0) ((2, check_of 3) ∷ []) ((10 ∷ 0 ∷ 0 ∷ 0 ∷ []) ∷ []) (None ∷ []) StageTransfer
    ∷ quiet (Says 0 2 (metadata_status 0)) ((10 ∷ 0 ∷ 0 ∷ 0 ∷ []) ∷ []) (None ∷ []) StageTransfer
    ∷ sends (Passes 0) ((2, start_of 3) ∷ []) ((10 ∷ 0 ∷ 0 ∷ 0 ∷ []) ∷ []) (None ∷ []) StageTransfer
    ∷ quiet (Says 0 2 (update_status 0x40 7)) ((2 ∷ 0 ∷ 0 ∷ 0 ∷ []) ∷ []) (None ∷ []) StageTransfer
    ∷ sends (Passes 0) ((2, blob_information_get) ∷ []) ((2 ∷ 0 ∷ 0 ∷ 0 ∷ []) ∷ []) (None ∷ []) StageTransfer
    ∷ quiet (Says 0 2 (limits 12 14 2048 376 65535 380 3)) ((2 ∷ 0 ∷ 0 ∷ 0 ∷ []) ∷ []) (None ∷ []) StageTransfer
    ∷ sends (Passes 0) ((2, transfer_of 0x40 3) ∷ []) ((2 ∷ 0 ∷ 0 ∷ 0 ∷ []) ∷ []) (None ∷ []) StageTransfer
    ∷ quiet (Says 0 2 (0x83 ∷ 3 ∷ 0x40 ∷ 2 ∷ 7 ∷ 0 ∷ 0 ∷ 0 ∷ 0 ∷ 0 ∷ 1 ∷ 0 ∷ 3 ∷ 0 ∷ 0 ∷ 0 ∷ 0xc ∷ 0x7c ∷ 1 ∷ 0 ∷ [])) ((2 ∷ 0 ∷ 0 ∷ 100 ∷ []) ∷ []) (None ∷ []) StageTransfer
    ∷ sends (Passes 0) ((2, update_get) ∷ []) ((2 ∷ 0 ∷ 0 ∷ 100 ∷ []) ∷ []) (None ∷ []) StageTransfer
    ∷ quiet (Says 0 2 (update_status 0xa0 7)) ((5 ∷ 0 ∷ 0 ∷ 100 ∷ []) ∷ []) (Some (Phase 5) ∷ []) StageTransfer
    ∷ quiet (Passes 0) ((5 ∷ 0 ∷ 0 ∷ 100 ∷ []) ∷ []) (Some (Phase 5) ∷ []) StageVerified
    ∷ quiet (Passes 0) ((5 ∷ 0 ∷ 0 ∷ 100 ∷ []) ∷ []) (Some (Phase 5) ∷ []) StageVerified
    ∷ []

-- and one that applies ends
abbrev pub nobody_applies : List Turn
nobody_applies =
    sends (Passes 0) ((2, check_of 3) ∷ (3, check_of 3) ∷ []) ((10 ∷ 0 ∷ 0 ∷ 0 ∷ []) ∷ (10 ∷ 0 ∷ 0 ∷ 0 ∷ []) ∷ []) (None ∷ None ∷ []) StageTransfer
    ∷ quiet (Says 0 2 (metadata_status 0)) ((10 ∷ 0 ∷ 0 ∷ 0 ∷ []) ∷ (10 ∷ 0 ∷ 0 ∷ 0 ∷ []) ∷ []) (None ∷ None ∷ []) StageTransfer
    ∷ quiet (Says 0 3 (metadata_status 0)) ((10 ∷ 0 ∷ 0 ∷ 0 ∷ []) ∷ (10 ∷ 0 ∷ 0 ∷ 0 ∷ []) ∷ []) (None ∷ None ∷ []) StageTransfer
    ∷ sends (Passes 0) ((2, start_of 3) ∷ (3, start_of 3) ∷ []) ((10 ∷ 0 ∷ 0 ∷ 0 ∷ []) ∷ (10 ∷ 0 ∷ 0 ∷ 0 ∷ []) ∷ []) (None ∷ None ∷ []) StageTransfer
    ∷ quiet (Says 0 2 (update_status 0x40 7)) ((2 ∷ 0 ∷ 0 ∷ 0 ∷ []) ∷ (10 ∷ 0 ∷ 0 ∷ 0 ∷ []) ∷ []) (None ∷ None ∷ []) StageTransfer
    ∷ quiet (Says 0 3 (update_status 0x40 7)) ((2 ∷ 0 ∷ 0 ∷ 0 ∷ []) ∷ (2 ∷ 0 ∷ 0 ∷ 0 ∷ []) ∷ []) (None ∷ None ∷ []) StageTransfer
    ∷ sends (Passes 0) ((2, blob_information_get) ∷ (3, blob_information_get) ∷ []) ((2 ∷ 0 ∷ 0 ∷ 0 ∷ []) ∷ (2 ∷ 0 ∷ 0 ∷ 0 ∷ []) ∷ []) (None ∷ None ∷ []) StageTransfer
    ∷ quiet (Says 0 2 (limits 12 14 2048 376 65535 380 3)) ((2 ∷ 0 ∷ 0 ∷ 0 ∷ []) ∷ (2 ∷ 0 ∷ 0 ∷ 0 ∷ []) ∷ []) (None ∷ None ∷ []) StageTransfer
    ∷ quiet (Says 0 3 (limits 12 14 2048 376 65535 380 3)) ((2 ∷ 0 ∷ 0 ∷ 0 ∷ []) ∷ (2 ∷ 0 ∷ 0 ∷ 0 ∷ []) ∷ []) (None ∷ None ∷ []) StageTransfer
    ∷ sends (Passes 0) ((2, transfer_of 0x40 3) ∷ (3, transfer_of 0x40 3) ∷ []) ((2 ∷ 0 ∷ 0 ∷ 0 ∷ []) ∷ (2 ∷ 0 ∷ 0 ∷ 0 ∷ []) ∷ []) (None ∷ None ∷ []) StageTransfer
    ∷ quiet (Says 0 2 (0x83 ∷ 3 ∷ 0x40 ∷ 2 ∷ 7 ∷ 0 ∷ 0 ∷ 0 ∷ 0 ∷ 0 ∷ 1 ∷ 0 ∷ 3 ∷ 0 ∷ 0 ∷ 0 ∷ 0xc ∷ 0x7c ∷ 1 ∷ 0 ∷ [])) ((2 ∷ 0 ∷ 0 ∷ 100 ∷ []) ∷ (2 ∷ 0 ∷ 0 ∷ 0 ∷ []) ∷ []) (None ∷ None ∷ []) StageTransfer
    ∷ quiet (Says 0 3 (0x83 ∷ 3 ∷ 0x40 ∷ 2 ∷ 7 ∷ 0 ∷ 0 ∷ 0 ∷ 0 ∷ 0 ∷ 1 ∷ 0 ∷ 3 ∷ 0 ∷ 0 ∷ 0 ∷ 0xc ∷ 0x7c ∷ 1 ∷ 0 ∷ [])) ((2 ∷ 0 ∷ 0 ∷ 100 ∷ []) ∷ (2 ∷ 0 ∷ 0 ∷ 100 ∷ []) ∷ []) (None ∷ None ∷ []) StageTransfer
    ∷ sends (Passes 0) ((2, update_get) ∷ (3, update_get) ∷ []) ((2 ∷ 0 ∷ 0 ∷ 100 ∷ []) ∷ (2 ∷ 0 ∷ 0 ∷ 100 ∷ []) ∷ []) (None ∷ None ∷ []) StageTransfer
    ∷ quiet (Says 0 2 (update_status 0x20 7)) ((1 ∷ 0 ∷ 0 ∷ 100 ∷ []) ∷ (2 ∷ 0 ∷ 0 ∷ 100 ∷ []) ∷ []) (Some (Phase 1) ∷ None ∷ []) StageTransfer
    ∷ quiet (Says 0 3 (update_status 0xa0 7)) ((1 ∷ 0 ∷ 0 ∷ 100 ∷ []) ∷ (5 ∷ 0 ∷ 0 ∷ 100 ∷ []) ∷ []) (Some (Phase 1) ∷ Some (Phase 5) ∷ []) StageTransfer
    ∷ quiet (Passes 0) ((1 ∷ 0 ∷ 0 ∷ 100 ∷ []) ∷ (5 ∷ 0 ∷ 0 ∷ 100 ∷ []) ∷ []) (Some (Phase 1) ∷ Some (Phase 5) ∷ []) StageEnded
    ∷ quiet (Passes 0) ((1 ∷ 0 ∷ 0 ∷ 100 ∷ []) ∷ (5 ∷ 0 ∷ 0 ∷ 100 ∷ []) ∷ []) (Some (Phase 1) ∷ Some (Phase 5) ∷ []) StageEnded
    ∷ []

-- who is silent to Update Apply is asked for its image, and is Apply Failed when it stays silent
abbrev pub silent_apply : List Turn
silent_apply =
    sends (Passes 0) ((2, check_of 3) ∷ (3, check_of 3) ∷ []) ((10 ∷ 0 ∷ 0 ∷ 0 ∷ []) ∷ (10 ∷ 0 ∷ 0 ∷ 0 ∷ []) ∷ []) (None ∷ None ∷ []) StageTransfer
    ∷ quiet (Says 0 2 (metadata_status 0)) ((10 ∷ 0 ∷ 0 ∷ 0 ∷ []) ∷ (10 ∷ 0 ∷ 0 ∷ 0 ∷ []) ∷ []) (None ∷ None ∷ []) StageTransfer
    ∷ quiet (Says 0 3 (metadata_status 0)) ((10 ∷ 0 ∷ 0 ∷ 0 ∷ []) ∷ (10 ∷ 0 ∷ 0 ∷ 0 ∷ []) ∷ []) (None ∷ None ∷ []) StageTransfer
    ∷ sends (Passes 0) ((2, start_of 3) ∷ (3, start_of 3) ∷ []) ((10 ∷ 0 ∷ 0 ∷ 0 ∷ []) ∷ (10 ∷ 0 ∷ 0 ∷ 0 ∷ []) ∷ []) (None ∷ None ∷ []) StageTransfer
    ∷ quiet (Says 0 2 (update_status 0x40 7)) ((2 ∷ 0 ∷ 0 ∷ 0 ∷ []) ∷ (10 ∷ 0 ∷ 0 ∷ 0 ∷ []) ∷ []) (None ∷ None ∷ []) StageTransfer
    ∷ quiet (Says 0 3 (update_status 0x40 7)) ((2 ∷ 0 ∷ 0 ∷ 0 ∷ []) ∷ (2 ∷ 0 ∷ 0 ∷ 0 ∷ []) ∷ []) (None ∷ None ∷ []) StageTransfer
    ∷ sends (Passes 0) ((2, blob_information_get) ∷ (3, blob_information_get) ∷ []) ((2 ∷ 0 ∷ 0 ∷ 0 ∷ []) ∷ (2 ∷ 0 ∷ 0 ∷ 0 ∷ []) ∷ []) (None ∷ None ∷ []) StageTransfer
    ∷ quiet (Says 0 2 (limits 12 14 2048 376 65535 380 3)) ((2 ∷ 0 ∷ 0 ∷ 0 ∷ []) ∷ (2 ∷ 0 ∷ 0 ∷ 0 ∷ []) ∷ []) (None ∷ None ∷ []) StageTransfer
    ∷ quiet (Says 0 3 (limits 12 14 2048 376 65535 380 3)) ((2 ∷ 0 ∷ 0 ∷ 0 ∷ []) ∷ (2 ∷ 0 ∷ 0 ∷ 0 ∷ []) ∷ []) (None ∷ None ∷ []) StageTransfer
    ∷ sends (Passes 0) ((2, transfer_of 0x40 3) ∷ (3, transfer_of 0x40 3) ∷ []) ((2 ∷ 0 ∷ 0 ∷ 0 ∷ []) ∷ (2 ∷ 0 ∷ 0 ∷ 0 ∷ []) ∷ []) (None ∷ None ∷ []) StageTransfer
    ∷ quiet (Says 0 2 (0x83 ∷ 3 ∷ 0x40 ∷ 2 ∷ 7 ∷ 0 ∷ 0 ∷ 0 ∷ 0 ∷ 0 ∷ 1 ∷ 0 ∷ 3 ∷ 0 ∷ 0 ∷ 0 ∷ 0xc ∷ 0x7c ∷ 1 ∷ 0 ∷ [])) ((2 ∷ 0 ∷ 0 ∷ 100 ∷ []) ∷ (2 ∷ 0 ∷ 0 ∷ 0 ∷ []) ∷ []) (None ∷ None ∷ []) StageTransfer
    ∷ quiet (Says 0 3 (0x83 ∷ 3 ∷ 0x40 ∷ 2 ∷ 7 ∷ 0 ∷ 0 ∷ 0 ∷ 0 ∷ 0 ∷ 1 ∷ 0 ∷ 3 ∷ 0 ∷ 0 ∷ 0 ∷ 0xc ∷ 0x7c ∷ 1 ∷ 0 ∷ [])) ((2 ∷ 0 ∷ 0 ∷ 100 ∷ []) ∷ (2 ∷ 0 ∷ 0 ∷ 100 ∷ []) ∷ []) (None ∷ None ∷ []) StageTransfer
    ∷ sends (Passes 0) ((2, update_get) ∷ (3, update_get) ∷ []) ((2 ∷ 0 ∷ 0 ∷ 100 ∷ []) ∷ (2 ∷ 0 ∷ 0 ∷ 100 ∷ []) ∷ []) (None ∷ None ∷ []) StageTransfer
    ∷ quiet (Says 0 2 (update_status 0x80 7)) ((4 ∷ 0 ∷ 0 ∷ 100 ∷ []) ∷ (2 ∷ 0 ∷ 0 ∷ 100 ∷ []) ∷ []) (None ∷ None ∷ []) StageTransfer
    ∷ quiet (Says 0 3 (update_status 0x80 7)) ((4 ∷ 0 ∷ 0 ∷ 100 ∷ []) ∷ (4 ∷ 0 ∷ 0 ∷ 100 ∷ []) ∷ []) (None ∷ None ∷ []) StageTransfer
    ∷ sends (Passes 0) ((2, update_apply) ∷ (3, update_apply) ∷ []) ((4 ∷ 0 ∷ 0 ∷ 100 ∷ []) ∷ (4 ∷ 0 ∷ 0 ∷ 100 ∷ []) ∷ []) (None ∷ None ∷ []) StageApplying
    ∷ quiet (Says 0 3 (update_status 0xc0 7)) ((4 ∷ 0 ∷ 0 ∷ 100 ∷ []) ∷ (6 ∷ 0 ∷ 0 ∷ 100 ∷ []) ∷ []) (None ∷ None ∷ []) StageApplying
    ∷ sends (Passes 4100) ((2, update_apply) ∷ []) ((4 ∷ 0 ∷ 0 ∷ 100 ∷ []) ∷ (6 ∷ 0 ∷ 0 ∷ 100 ∷ []) ∷ []) (None ∷ None ∷ []) StageApplying
    ∷ sends (Passes 8200) ((2, update_apply) ∷ []) ((4 ∷ 0 ∷ 0 ∷ 100 ∷ []) ∷ (6 ∷ 0 ∷ 0 ∷ 100 ∷ []) ∷ []) (None ∷ None ∷ []) StageApplying
    ∷ sends (Passes 12300) ((2, update_apply) ∷ []) ((4 ∷ 0 ∷ 0 ∷ 100 ∷ []) ∷ (6 ∷ 0 ∷ 0 ∷ 100 ∷ []) ∷ []) (None ∷ None ∷ []) StageApplying
    ∷ sends (Passes 16400) ((2, update_apply) ∷ []) ((4 ∷ 0 ∷ 0 ∷ 100 ∷ []) ∷ (6 ∷ 0 ∷ 0 ∷ 100 ∷ []) ∷ []) (None ∷ None ∷ []) StageApplying
    ∷ sends (Passes 20500) ((2, information_get) ∷ (3, information_get) ∷ []) ((4 ∷ 0 ∷ 0 ∷ 100 ∷ []) ∷ (6 ∷ 0 ∷ 0 ∷ 100 ∷ []) ∷ []) (None ∷ None ∷ []) StageApplying
    ∷ sends (Passes 24600) ((2, information_get) ∷ (3, information_get) ∷ []) ((4 ∷ 0 ∷ 0 ∷ 100 ∷ []) ∷ (6 ∷ 0 ∷ 0 ∷ 100 ∷ []) ∷ []) (None ∷ None ∷ []) StageApplying
    ∷ quiet (Says 24600 3 shown_of) ((4 ∷ 0 ∷ 0 ∷ 100 ∷ []) ∷ (8 ∷ 0 ∷ 0 ∷ 100 ∷ []) ∷ []) (None ∷ None ∷ []) StageApplying
    ∷ sends (Passes 28700) ((2, information_get) ∷ []) ((4 ∷ 0 ∷ 0 ∷ 100 ∷ []) ∷ (8 ∷ 0 ∷ 0 ∷ 100 ∷ []) ∷ []) (None ∷ None ∷ []) StageApplying
    ∷ sends (Passes 32800) ((2, information_get) ∷ []) ((4 ∷ 0 ∷ 0 ∷ 100 ∷ []) ∷ (8 ∷ 0 ∷ 0 ∷ 100 ∷ []) ∷ []) (None ∷ None ∷ []) StageApplying
    ∷ sends (Passes 36900) ((2, information_get) ∷ []) ((4 ∷ 0 ∷ 0 ∷ 100 ∷ []) ∷ (8 ∷ 0 ∷ 0 ∷ 100 ∷ []) ∷ []) (None ∷ None ∷ []) StageApplying
    ∷ quiet (Passes 41000) ((9 ∷ 0 ∷ 0 ∷ 100 ∷ []) ∷ (8 ∷ 0 ∷ 0 ∷ 100 ∷ []) ∷ []) (Some (Silent 10) ∷ None ∷ []) StageEnded
    ∷ []

-- a row that is Apply Success already waits for its next packet
abbrev pub confirmed_before : List Turn
confirmed_before =
    sends (Passes 0) ((2, check_of 3) ∷ []) ((10 ∷ 0 ∷ 0 ∷ 0 ∷ []) ∷ []) (None ∷ []) StageTransfer
    ∷ quiet (Says 0 2 (metadata_status 0)) ((10 ∷ 0 ∷ 0 ∷ 0 ∷ []) ∷ []) (None ∷ []) StageTransfer
    ∷ sends (Passes 0) ((2, start_of 3) ∷ []) ((10 ∷ 0 ∷ 0 ∷ 0 ∷ []) ∷ []) (None ∷ []) StageTransfer
    ∷ quiet (Says 0 2 (update_status 0x40 7)) ((2 ∷ 0 ∷ 0 ∷ 0 ∷ []) ∷ []) (None ∷ []) StageTransfer
    ∷ sends (Passes 0) ((2, blob_information_get) ∷ []) ((2 ∷ 0 ∷ 0 ∷ 0 ∷ []) ∷ []) (None ∷ []) StageTransfer
    ∷ quiet (Says 0 2 (limits 12 14 2048 376 65535 380 3)) ((2 ∷ 0 ∷ 0 ∷ 0 ∷ []) ∷ []) (None ∷ []) StageTransfer
    ∷ sends (Passes 0) ((2, transfer_of 0x40 3) ∷ []) ((2 ∷ 0 ∷ 0 ∷ 0 ∷ []) ∷ []) (None ∷ []) StageTransfer
    ∷ quiet (Says 0 2 (0x83 ∷ 3 ∷ 0x40 ∷ 2 ∷ 7 ∷ 0 ∷ 0 ∷ 0 ∷ 0 ∷ 0 ∷ 1 ∷ 0 ∷ 3 ∷ 0 ∷ 0 ∷ 0 ∷ 0xc ∷ 0x7c ∷ 1 ∷ 0 ∷ [])) ((2 ∷ 0 ∷ 0 ∷ 100 ∷ []) ∷ []) (None ∷ []) StageTransfer
    ∷ sends (Passes 0) ((2, update_get) ∷ []) ((2 ∷ 0 ∷ 0 ∷ 100 ∷ []) ∷ []) (None ∷ []) StageTransfer
    ∷ quiet (Says 0 2 (update_status 0x80 7)) ((4 ∷ 0 ∷ 0 ∷ 100 ∷ []) ∷ []) (None ∷ []) StageTransfer
    ∷ sends (Passes 0) ((2, update_apply) ∷ []) ((4 ∷ 0 ∷ 0 ∷ 100 ∷ []) ∷ []) (None ∷ []) StageApplying
    ∷ quiet (Says 0 2 (update_status 0xc0 7)) ((6 ∷ 0 ∷ 0 ∷ 100 ∷ []) ∷ []) (None ∷ []) StageApplying
    ∷ quiet (Says 0 2 shown_of) ((8 ∷ 0 ∷ 0 ∷ 100 ∷ []) ∷ []) (None ∷ []) StageApplying
    ∷ sends (Passes 0) ((2, information_get) ∷ []) ((8 ∷ 0 ∷ 0 ∷ 100 ∷ []) ∷ []) (None ∷ []) StageApplying
    ∷ quiet (Passes 0) ((8 ∷ 0 ∷ 0 ∷ 100 ∷ []) ∷ []) (None ∷ []) StageApplying
    ∷ quiet (Says 0 2 (update_status 0xc0 8)) ((8 ∷ 0 ∷ 0 ∷ 100 ∷ []) ∷ []) (None ∷ []) StageApplying
    ∷ quiet (Passes 0) ((8 ∷ 0 ∷ 0 ∷ 100 ∷ []) ∷ []) (None ∷ []) StageEnded
    ∷ []

-- each row that isn't final is canceled; those are asked, dropped or not
abbrev pub canceled : List Turn
canceled =
    sends (Passes 0) ((2, check_of 3) ∷ (3, check_of 3) ∷ (4, check_of 3) ∷ []) ((10 ∷ 0 ∷ 0 ∷ 0 ∷ []) ∷ (10 ∷ 0 ∷ 0 ∷ 0 ∷ []) ∷ (10 ∷ 0 ∷ 0 ∷ 0 ∷ []) ∷ []) (None ∷ None ∷ None ∷ []) StageTransfer
    ∷ quiet (Says 0 3 (metadata_status 5)) ((10 ∷ 0 ∷ 0 ∷ 0 ∷ []) ∷ (10 ∷ 5 ∷ 0 ∷ 0 ∷ []) ∷ (10 ∷ 0 ∷ 0 ∷ 0 ∷ []) ∷ []) (None ∷ Some (Status 1 5) ∷ None ∷ []) StageTransfer
    ∷ quiet TakesCancel ((7 ∷ 0 ∷ 0 ∷ 0 ∷ []) ∷ (7 ∷ 5 ∷ 0 ∷ 0 ∷ []) ∷ (7 ∷ 0 ∷ 0 ∷ 0 ∷ []) ∷ []) (None ∷ Some (Status 1 5) ∷ None ∷ []) StageCanceling
    ∷ sends (Passes 0) ((2, update_cancel) ∷ (3, update_cancel) ∷ (4, update_cancel) ∷ []) ((7 ∷ 0 ∷ 0 ∷ 0 ∷ []) ∷ (7 ∷ 5 ∷ 0 ∷ 0 ∷ []) ∷ (7 ∷ 0 ∷ 0 ∷ 0 ∷ []) ∷ []) (None ∷ Some (Status 1 5) ∷ None ∷ []) StageCanceling
    ∷ quiet (Says 0 2 (no_job_status 2)) ((7 ∷ 0 ∷ 0 ∷ 0 ∷ []) ∷ (7 ∷ 5 ∷ 0 ∷ 0 ∷ []) ∷ (7 ∷ 0 ∷ 0 ∷ 0 ∷ []) ∷ []) (None ∷ Some (Status 1 5) ∷ None ∷ []) StageCanceling
    ∷ quiet (Says 0 3 (update_status 0x40 7)) ((7 ∷ 0 ∷ 0 ∷ 0 ∷ []) ∷ (7 ∷ 5 ∷ 0 ∷ 0 ∷ []) ∷ (7 ∷ 0 ∷ 0 ∷ 0 ∷ []) ∷ []) (None ∷ Some (Status 1 5) ∷ None ∷ []) StageCanceling
    ∷ quiet (Says 0 4 (update_status 0x40 7)) ((7 ∷ 0 ∷ 0 ∷ 0 ∷ []) ∷ (7 ∷ 5 ∷ 0 ∷ 0 ∷ []) ∷ (7 ∷ 0 ∷ 0 ∷ 0 ∷ []) ∷ []) (None ∷ Some (Status 1 5) ∷ None ∷ []) StageCanceling
    ∷ quiet (Says 0 4 (update_status 0xa0 8)) ((7 ∷ 0 ∷ 0 ∷ 0 ∷ []) ∷ (7 ∷ 5 ∷ 0 ∷ 0 ∷ []) ∷ (7 ∷ 0 ∷ 0 ∷ 0 ∷ []) ∷ []) (None ∷ Some (Status 1 5) ∷ None ∷ []) StageCanceling
    ∷ sends (Passes 4100) ((3, update_cancel) ∷ []) ((7 ∷ 0 ∷ 0 ∷ 0 ∷ []) ∷ (7 ∷ 5 ∷ 0 ∷ 0 ∷ []) ∷ (7 ∷ 0 ∷ 0 ∷ 0 ∷ []) ∷ []) (None ∷ Some (Status 1 5) ∷ None ∷ []) StageCanceling
    ∷ sends (Passes 8200) ((3, update_cancel) ∷ []) ((7 ∷ 0 ∷ 0 ∷ 0 ∷ []) ∷ (7 ∷ 5 ∷ 0 ∷ 0 ∷ []) ∷ (7 ∷ 0 ∷ 0 ∷ 0 ∷ []) ∷ []) (None ∷ Some (Status 1 5) ∷ None ∷ []) StageCanceling
    ∷ sends (Passes 12300) ((3, update_cancel) ∷ []) ((7 ∷ 0 ∷ 0 ∷ 0 ∷ []) ∷ (7 ∷ 5 ∷ 0 ∷ 0 ∷ []) ∷ (7 ∷ 0 ∷ 0 ∷ 0 ∷ []) ∷ []) (None ∷ Some (Status 1 5) ∷ None ∷ []) StageCanceling
    ∷ sends (Passes 16400) ((3, update_cancel) ∷ []) ((7 ∷ 0 ∷ 0 ∷ 0 ∷ []) ∷ (7 ∷ 5 ∷ 0 ∷ 0 ∷ []) ∷ (7 ∷ 0 ∷ 0 ∷ 0 ∷ []) ∷ []) (None ∷ Some (Status 1 5) ∷ None ∷ []) StageCanceling
    ∷ quiet (Passes 20500) ((7 ∷ 0 ∷ 0 ∷ 0 ∷ []) ∷ (7 ∷ 5 ∷ 0 ∷ 0 ∷ []) ∷ (7 ∷ 0 ∷ 0 ∷ 0 ∷ []) ∷ []) (None ∷ Some (Status 1 5) ∷ None ∷ []) StageEnded
    ∷ []

-- with none of them it ends at once
abbrev pub canceled_none : List Turn
canceled_none =
    sends (Passes 0) ((2, check_of 3) ∷ []) ((10 ∷ 0 ∷ 0 ∷ 0 ∷ []) ∷ []) (None ∷ []) StageTransfer
    ∷ quiet (Says 0 2 (metadata_status 0)) ((10 ∷ 0 ∷ 0 ∷ 0 ∷ []) ∷ []) (None ∷ []) StageTransfer
    ∷ sends (Passes 0) ((2, start_of 3) ∷ []) ((10 ∷ 0 ∷ 0 ∷ 0 ∷ []) ∷ []) (None ∷ []) StageTransfer
    ∷ quiet (Says 0 2 (update_status 0x40 7)) ((2 ∷ 0 ∷ 0 ∷ 0 ∷ []) ∷ []) (None ∷ []) StageTransfer
    ∷ sends (Passes 0) ((2, blob_information_get) ∷ []) ((2 ∷ 0 ∷ 0 ∷ 0 ∷ []) ∷ []) (None ∷ []) StageTransfer
    ∷ quiet (Says 0 2 (limits 12 14 2048 376 65535 380 3)) ((2 ∷ 0 ∷ 0 ∷ 0 ∷ []) ∷ []) (None ∷ []) StageTransfer
    ∷ sends (Passes 0) ((2, transfer_of 0x40 3) ∷ []) ((2 ∷ 0 ∷ 0 ∷ 0 ∷ []) ∷ []) (None ∷ []) StageTransfer
    ∷ quiet (Says 0 2 (0x83 ∷ 3 ∷ 0x40 ∷ 2 ∷ 7 ∷ 0 ∷ 0 ∷ 0 ∷ 0 ∷ 0 ∷ 1 ∷ 0 ∷ 3 ∷ 0 ∷ 0 ∷ 0 ∷ 0xc ∷ 0x7c ∷ 1 ∷ 0 ∷ [])) ((2 ∷ 0 ∷ 0 ∷ 100 ∷ []) ∷ []) (None ∷ []) StageTransfer
    ∷ sends (Passes 0) ((2, update_get) ∷ []) ((2 ∷ 0 ∷ 0 ∷ 100 ∷ []) ∷ []) (None ∷ []) StageTransfer
    ∷ quiet (Says 0 2 (update_status 0x80 7)) ((4 ∷ 0 ∷ 0 ∷ 100 ∷ []) ∷ []) (None ∷ []) StageTransfer
    ∷ quiet (Says 0 2 shown_of) ((8 ∷ 0 ∷ 0 ∷ 100 ∷ []) ∷ []) (None ∷ []) StageTransfer
    ∷ quiet TakesCancel ((8 ∷ 0 ∷ 0 ∷ 100 ∷ []) ∷ []) (None ∷ []) StageCanceling
    ∷ quiet (Passes 0) ((8 ∷ 0 ∷ 0 ∷ 100 ∷ []) ∷ []) (None ∷ []) StageEnded
    ∷ []

-- with nobody active the next step isn't begun
abbrev pub all_dropped : List Turn
all_dropped =
    sends (Passes 0) ((2, check_of 3) ∷ (3, check_of 3) ∷ []) ((10 ∷ 0 ∷ 0 ∷ 0 ∷ []) ∷ (10 ∷ 0 ∷ 0 ∷ 0 ∷ []) ∷ []) (None ∷ None ∷ []) StageTransfer
    ∷ quiet (Says 0 2 (metadata_status 5)) ((10 ∷ 5 ∷ 0 ∷ 0 ∷ []) ∷ (10 ∷ 0 ∷ 0 ∷ 0 ∷ []) ∷ []) (Some (Status 1 5) ∷ None ∷ []) StageTransfer
    ∷ quiet (Says 0 3 (metadata_status 1)) ((10 ∷ 5 ∷ 0 ∷ 0 ∷ []) ∷ (10 ∷ 1 ∷ 0 ∷ 0 ∷ []) ∷ []) (Some (Status 1 5) ∷ Some (Status 1 1) ∷ []) StageTransfer
    ∷ quiet (Passes 0) ((10 ∷ 5 ∷ 0 ∷ 0 ∷ []) ∷ (10 ∷ 1 ∷ 0 ∷ 0 ∷ []) ∷ []) (Some (Status 1 5) ∷ Some (Status 1 1) ∷ []) StageEnded
    ∷ quiet (Passes 0) ((10 ∷ 5 ∷ 0 ∷ 0 ∷ []) ∷ (10 ∷ 1 ∷ 0 ∷ 0 ∷ []) ∷ []) (Some (Status 1 5) ∷ Some (Status 1 1) ∷ []) StageEnded
    ∷ []

-- a packet of a dropped receiver counts for its row
abbrev pub dropped_counts : List Turn
dropped_counts =
    sends (Passes 0) ((2, check_of 3) ∷ []) ((10 ∷ 0 ∷ 0 ∷ 0 ∷ []) ∷ []) (None ∷ []) StageTransfer
    ∷ quiet (Says 0 2 (metadata_status 5)) ((10 ∷ 5 ∷ 0 ∷ 0 ∷ []) ∷ []) (Some (Status 1 5) ∷ []) StageTransfer
    ∷ quiet (Says 0 2 (update_status 0x42 7)) ((2 ∷ 5 ∷ 0 ∷ 0 ∷ []) ∷ []) (Some (Status 1 5) ∷ []) StageTransfer
    ∷ quiet (Says 0 2 (update_status 0x60 7)) ((3 ∷ 5 ∷ 0 ∷ 0 ∷ []) ∷ []) (Some (Status 1 5) ∷ []) StageTransfer
    ∷ quiet (Says 0 2 (0x83 ∷ 3 ∷ 4 ∷ 0 ∷ [])) ((3 ∷ 5 ∷ 0 ∷ 0 ∷ []) ∷ []) (Some (Status 1 5) ∷ []) StageTransfer
    ∷ quiet (Says 0 2 shown_of) ((8 ∷ 5 ∷ 0 ∷ 0 ∷ []) ∷ []) (Some (Status 1 5) ∷ []) StageTransfer
    ∷ quiet (Says 0 2 (update_status 0x80 7)) ((8 ∷ 5 ∷ 0 ∷ 0 ∷ []) ∷ []) (Some (Status 1 5) ∷ []) StageTransfer
    ∷ []
