-- What an initiator at 0001 asks its distributor at 0009, and how it ends.
use Rattle.std.specs.Prelude.{List, [], ◌∷◌, Some, None}
use Rattle.mu_model_client.specs.declared.InitEnd.TheVariants.{Done, Refused, Silent as SilentEnd}
use Rattle.mu_model_client_rows.specs.Scenes.{update_status, limits, blob_information_get, transfer_start, block_start, chunk, block_get, Says, Passes}
use Rattle.mu_model_client_rows.specs.Initiating.{upload_start, upload_get, distribution_cancel, receivers_delete_all, receivers_add, firmware_get, distribution_get, upload_status, no_upload_status, distribution_status, no_distribution_status, receivers_status, firmware_status, list, entries, InitTurn, is, passes_over}

-- all steps, octet by octet; the rows come in two lists
abbrev pub initiates : List InitTurn
initiates =
    is (Passes 0) ((9, upload_start) ∷ []) None 0
    ∷ is (Says 0 9 (upload_status 0 1)) [] None 0
    ∷ is (Passes 0) ((9, blob_information_get) ∷ []) None 0
    ∷ is (Says 0 9 (limits 12 14 2048 376 4096 380 3)) [] None 0
    ∷ is (Passes 0) ((9, transfer_start) ∷ []) None 0
    ∷ is (Says 0 9 (0x83 ∷ 3 ∷ 0x40 ∷ 2 ∷ 7 ∷ 0 ∷ 0 ∷ 0 ∷ 0 ∷ 0 ∷ 1 ∷ 0 ∷ 3 ∷ 0 ∷ 0 ∷ 0 ∷ 0xc ∷ 0x7c ∷ 1 ∷ 1 ∷ [])) [] None 0
    ∷ is (Passes 0) ((9, block_start) ∷ []) None 0
    ∷ is (Says 0 9 (0x67 ∷ 0 ∷ 0 ∷ 0 ∷ 0xc8 ∷ 0 ∷ [])) [] None 0
    ∷ is (Passes 0) ((9, chunk) ∷ []) None 0
    ∷ is (Passes 0) ((9, block_get) ∷ []) None 0
    ∷ is (Says 0 9 (0x67 ∷ 0x40 ∷ 0 ∷ 0 ∷ 0xc8 ∷ 0 ∷ [])) [] None 0
    ∷ is (Passes 0) ((9, upload_get) ∷ []) None 0
    ∷ is (Says 0 9 (upload_status 0 3)) [] None 0
    ∷ is (Passes 0) ((9, distribution_cancel) ∷ []) None 0
    ∷ is (Says 0 9 (no_distribution_status 0)) [] None 0
    ∷ is (Passes 0) ((9, receivers_delete_all) ∷ []) None 0
    ∷ is (Says 0 9 (receivers_status 0 2)) [] None 0
    ∷ is (Passes 0) ((9, receivers_add) ∷ []) None 0
    ∷ is (Says 0 9 (receivers_status 0 2)) [] None 0
    ∷ is (Passes 0) ((9, firmware_get) ∷ []) None 0
    ∷ is (Says 0 9 (firmware_status 0 3)) [] None 0
    ∷ is (Passes 0) ((9, 0x83 ∷ 0x19 ∷ 0 ∷ 0 ∷ 5 ∷ 0 ∷ 0 ∷ 6 ∷ 3 ∷ 0 ∷ 0 ∷ 0xc0 ∷ []) ∷ []) None 0
    ∷ is (Says 0 9 (distribution_status 0 1)) [] None 0
    ∷ is (Passes 0) ((9, distribution_get) ∷ []) None 0
    ∷ is (Says 0 9 (distribution_status 0 4)) [] None 0
    ∷ is (Passes 0) ((9, 0x83 ∷ 0x14 ∷ 0 ∷ 0 ∷ 0x4a ∷ 0 ∷ []) ∷ []) None 0
    ∷ is (Says 0 9 (0x83 ∷ 0x15 ∷ 2 ∷ 0 ∷ 1 ∷ 0 ∷ 3 ∷ 0 ∷ 0xad ∷ 0x65 ∷ 1 ∷ [])) [] None 0
    ∷ is (Says 0 9 (0x83 ∷ 0x15 ∷ 2 ∷ 0 ∷ 0 ∷ 0 ∷ 2 ∷ 0 ∷ 4 ∷ 0xc8 ∷ 0 ∷ [])) [] None 1
    ∷ is (Passes 0) ((9, 0x83 ∷ 0x14 ∷ 1 ∷ 0 ∷ 0x4a ∷ 0 ∷ []) ∷ []) None 1
    ∷ is (Says 0 9 (0x83 ∷ 0x15 ∷ 2 ∷ 0 ∷ 1 ∷ 0 ∷ 3 ∷ 0 ∷ 0xad ∷ 0x65 ∷ 1 ∷ [])) [] None 2
    ∷ is (Passes 0) [] (Some Done) 2
    ∷ is (Passes 0) [] (Some Done) 2
    ∷ []

-- an upload that is stored already isn't sent; Transfer Success is enough under Verify Only
abbrev pub stored_already : List InitTurn
stored_already =
    is (Passes 0) ((9, upload_start) ∷ []) None 0
    ∷ is (Says 0 9 (no_upload_status 0)) [] None 0
    ∷ is (Says 0 9 (upload_status 0 2)) [] None 0
    ∷ is (Says 0 9 (upload_status 0 3)) [] None 0
    ∷ is (Passes 0) ((9, upload_get) ∷ []) None 0
    ∷ is (Says 0 9 (upload_status 0 3)) [] None 0
    ∷ is (Passes 0) ((9, distribution_cancel) ∷ []) None 0
    ∷ is (Says 0 9 (distribution_status 0 1)) [] None 0
    ∷ is (Says 0 9 (no_distribution_status 0)) [] None 0
    ∷ is (Passes 0) ((9, receivers_delete_all) ∷ []) None 0
    ∷ is (Says 0 9 (receivers_status 0 2)) [] None 0
    ∷ is (Passes 0) ((9, receivers_add) ∷ []) None 0
    ∷ is (Says 0 9 (receivers_status 0 2)) [] None 0
    ∷ is (Passes 0) ((9, firmware_get) ∷ []) None 0
    ∷ is (Says 0 9 (firmware_status 0 3)) [] None 0
    ∷ is (Passes 0) ((9, 0x83 ∷ 0x19 ∷ 0 ∷ 0 ∷ 5 ∷ 0 ∷ 0 ∷ 2 ∷ 3 ∷ 0 ∷ 0 ∷ 0xc0 ∷ []) ∷ []) None 0
    ∷ is (Says 0 9 (distribution_status 0 1)) [] None 0
    ∷ is (Passes 0) ((9, distribution_get) ∷ []) None 0
    ∷ is (Says 0 9 (distribution_status 0 3)) [] None 0
    ∷ is (Says 0 9 (distribution_status 0 2)) [] None 0
    ∷ is (Passes 0) ((9, 0x83 ∷ 0x14 ∷ 0 ∷ 0 ∷ 0x4a ∷ 0 ∷ []) ∷ []) None 0
    ∷ is (Says 0 9 (0x83 ∷ 0x15 ∷ 0 ∷ 0 ∷ 0 ∷ 0 ∷ [])) [] None 0
    ∷ is (Passes 0) [] (Some Done) 0
    ∷ []

-- only the distributor is listened to, and only for what was asked
abbrev pub foreign : List InitTurn
foreign =
    is (Passes 0) ((9, upload_start) ∷ []) None 0
    ∷ is (Says 0 8 (no_upload_status 8)) [] None 0
    ∷ is (Says 0 8 (upload_status 0 3)) [] None 0
    ∷ is (Says 0 9 (no_distribution_status 7)) [] None 0
    ∷ is (Says 0 9 (receivers_status 7 2)) [] None 0
    ∷ is (Says 0 9 (firmware_status 4 0)) [] None 0
    ∷ is (Says 0 9 (0x83 ∷ 0x15 ∷ 0 ∷ 0 ∷ 0 ∷ 0 ∷ [])) [] None 0
    ∷ passes_over (Says 0 9 (update_status 0x40 7)) [] None 0
    ∷ is (Says 0 9 (limits 12 14 2048 376 4096 380 3)) [] None 0
    ∷ is (Says 0 9 (no_upload_status 8)) [] (Some (Refused 1 8)) 0
    ∷ is (Passes 0) [] (Some (Refused 1 8)) 0
    ∷ is (Says 0 9 (upload_status 0 3)) [] (Some (Refused 1 8)) 0
    ∷ is (Passes 0) [] (Some (Refused 1 8)) 0
    ∷ []

-- in the transfer too
abbrev pub foreign_in_transfer : List InitTurn
foreign_in_transfer =
    is (Says 0 8 (limits 12 14 2048 376 2 380 3)) [] None 0
    ∷ is (Says 0 8 (0x67 ∷ 4 ∷ 0 ∷ 0 ∷ 0xc8 ∷ 0 ∷ [])) [] None 0
    ∷ is (Says 0 9 (limits 12 14 2048 376 4096 380 3)) [] None 0
    ∷ is (Passes 0) ((9, transfer_start) ∷ []) None 0
    ∷ []

-- silence begins anew with an answer that the step waits with
abbrev pub silence_3 : List InitTurn
silence_3 =
    is (Passes 4100) ((9, upload_get) ∷ []) None 0
    ∷ is (Passes 8200) ((9, upload_get) ∷ []) None 0
    ∷ is (Passes 12300) ((9, upload_get) ∷ []) None 0
    ∷ is (Passes 16400) ((9, upload_get) ∷ []) None 0
    ∷ is (Says 16400 9 (upload_status 0 1)) [] None 0
    ∷ is (Passes 20500) ((9, upload_get) ∷ []) None 0
    ∷ is (Passes 24600) ((9, upload_get) ∷ []) None 0
    ∷ is (Passes 28700) ((9, upload_get) ∷ []) None 0
    ∷ is (Passes 32800) ((9, upload_get) ∷ []) None 0
    ∷ is (Passes 36900) [] (Some (SilentEnd 3)) 0
    ∷ is (Passes 41000) [] (Some (SilentEnd 3)) 0
    ∷ []

-- silence begins anew with an answer that the step waits with
abbrev pub silence_9 : List InitTurn
silence_9 =
    is (Passes 4100) ((9, distribution_get) ∷ []) None 0
    ∷ is (Passes 8200) ((9, distribution_get) ∷ []) None 0
    ∷ is (Passes 12300) ((9, distribution_get) ∷ []) None 0
    ∷ is (Passes 16400) ((9, distribution_get) ∷ []) None 0
    ∷ is (Says 16400 9 (distribution_status 0 3)) [] None 0
    ∷ is (Passes 20500) ((9, distribution_get) ∷ []) None 0
    ∷ is (Passes 24600) ((9, distribution_get) ∷ []) None 0
    ∷ is (Passes 28700) ((9, distribution_get) ∷ []) None 0
    ∷ is (Passes 32800) ((9, distribution_get) ∷ []) None 0
    ∷ is (Passes 36900) [] (Some (SilentEnd 9)) 0
    ∷ is (Passes 41000) [] (Some (SilentEnd 9)) 0
    ∷ []

-- an answer that the step doesn't name leaves it
abbrev pub silence_1 : List InitTurn
silence_1 =
    is (Passes 0) ((9, upload_start) ∷ []) None 0
    ∷ is (Passes 4100) ((9, upload_start) ∷ []) None 0
    ∷ is (Passes 8200) ((9, upload_start) ∷ []) None 0
    ∷ is (Passes 12300) ((9, upload_start) ∷ []) None 0
    ∷ is (Passes 16400) ((9, upload_start) ∷ []) None 0
    ∷ is (Says 16400 9 (upload_status 0 2)) [] None 0
    ∷ is (Passes 20499) [] None 0
    ∷ is (Passes 20500) [] (Some (SilentEnd 1)) 0
    ∷ []

-- an answer that the step doesn't name leaves it
abbrev pub silence_4 : List InitTurn
silence_4 =
    is (Passes 4100) ((9, distribution_cancel) ∷ []) None 0
    ∷ is (Passes 8200) ((9, distribution_cancel) ∷ []) None 0
    ∷ is (Passes 12300) ((9, distribution_cancel) ∷ []) None 0
    ∷ is (Passes 16400) ((9, distribution_cancel) ∷ []) None 0
    ∷ is (Says 16400 9 (distribution_status 0 6)) [] None 0
    ∷ is (Passes 20499) [] None 0
    ∷ is (Passes 20500) [] (Some (SilentEnd 4)) 0
    ∷ []

-- the last step is silent
abbrev pub silent_last : List InitTurn
silent_last =
    is (Says 0 9 (0x83 ∷ 0x15 ∷ 2 ∷ 0 ∷ 0 ∷ 0 ∷ [])) [] None 0
    ∷ is (Says 0 9 (0x83 ∷ 0x15 ∷ 2 ∷ 0 ∷ 0 ∷ 0 ∷ 2 ∷ 0 ∷ 4 ∷ 0xc8 ∷ 0 ∷ [])) [] None 1
    ∷ is (Passes 0) ((9, 0x83 ∷ 0x14 ∷ 1 ∷ 0 ∷ 0x4a ∷ 0 ∷ []) ∷ []) None 1
    ∷ is (Passes 4100) ((9, 0x83 ∷ 0x14 ∷ 1 ∷ 0 ∷ 0x4a ∷ 0 ∷ []) ∷ []) None 1
    ∷ is (Passes 8200) ((9, 0x83 ∷ 0x14 ∷ 1 ∷ 0 ∷ 0x4a ∷ 0 ∷ []) ∷ []) None 1
    ∷ is (Passes 12300) ((9, 0x83 ∷ 0x14 ∷ 1 ∷ 0 ∷ 0x4a ∷ 0 ∷ []) ∷ []) None 1
    ∷ is (Passes 16400) ((9, 0x83 ∷ 0x14 ∷ 1 ∷ 0 ∷ 0x4a ∷ 0 ∷ []) ∷ []) None 1
    ∷ is (Passes 20500) [] (Some (SilentEnd 10)) 1
    ∷ []

-- at most 128 rows are had
abbrev pub many_rows : List InitTurn
many_rows =
    is (Says 0 9 (list 200 0 (entries 74 2))) [] None 74
    ∷ is (Passes 0) ((9, 0x83 ∷ 0x14 ∷ 0x4a ∷ 0 ∷ 0x4a ∷ 0 ∷ []) ∷ []) None 74
    ∷ is (Says 0 9 (list 200 74 (entries 74 76))) [] None 128
    ∷ is (Passes 0) [] (Some Done) 128
    ∷ []

-- a status ends it at its step
abbrev pub refused_3 : List InitTurn
refused_3 =
    is (Says 0 9 (upload_status 3 1)) [] (Some (Refused 3 3)) 0
    ∷ is (Passes 0) [] (Some (Refused 3 3)) 0
    ∷ []

-- a status ends it at its step
abbrev pub refused_4 : List InitTurn
refused_4 =
    is (Says 0 9 (distribution_status 2 3)) [] (Some (Refused 4 2)) 0
    ∷ is (Passes 0) [] (Some (Refused 4 2)) 0
    ∷ []

-- a status ends it at its step
abbrev pub refused_5 : List InitTurn
refused_5 =
    is (Says 0 9 (receivers_status 7 2)) [] (Some (Refused 5 7)) 0
    ∷ is (Passes 0) [] (Some (Refused 5 7)) 0
    ∷ []

-- a status ends it at its step
abbrev pub refused_6 : List InitTurn
refused_6 =
    is (Says 0 9 (receivers_status 1 2)) [] (Some (Refused 6 1)) 0
    ∷ is (Passes 0) [] (Some (Refused 6 1)) 0
    ∷ []

-- a status ends it at its step
abbrev pub refused_7 : List InitTurn
refused_7 =
    is (Says 0 9 (firmware_status 4 65535)) [] (Some (Refused 7 4)) 0
    ∷ is (Passes 0) [] (Some (Refused 7 4)) 0
    ∷ []

-- a status ends it at its step
abbrev pub refused_8 : List InitTurn
refused_8 =
    is (Says 0 9 (no_distribution_status 6)) [] (Some (Refused 8 6)) 0
    ∷ is (Passes 0) [] (Some (Refused 8 6)) 0
    ∷ []

-- a status ends it at its step
abbrev pub refused_9 : List InitTurn
refused_9 =
    is (Says 0 9 (distribution_status 7 4)) [] (Some (Refused 9 7)) 0
    ∷ is (Passes 0) [] (Some (Refused 9 7)) 0
    ∷ []

-- a distributor that has verified the upload answers Block Get with status 4
abbrev pub drop_early : List InitTurn
drop_early =
    is (Says 0 9 (limits 12 14 2048 376 4096 380 3)) [] None 0
    ∷ is (Passes 0) ((9, transfer_start) ∷ []) None 0
    ∷ is (Says 0 9 (0x83 ∷ 3 ∷ 0x40 ∷ 2 ∷ 7 ∷ 0 ∷ 0 ∷ 0 ∷ 0 ∷ 0 ∷ 1 ∷ 0 ∷ 3 ∷ 0 ∷ 0 ∷ 0 ∷ 0xc ∷ 0x7c ∷ 1 ∷ 1 ∷ [])) [] None 0
    ∷ is (Passes 0) ((9, block_start) ∷ []) None 0
    ∷ is (Says 0 9 (0x67 ∷ 0 ∷ 0 ∷ 0 ∷ 0xc8 ∷ 0 ∷ [])) [] None 0
    ∷ is (Passes 0) ((9, chunk) ∷ []) None 0
    ∷ is (Passes 0) ((9, block_get) ∷ []) None 0
    ∷ is (Says 0 9 (0x67 ∷ 4 ∷ 0 ∷ 0 ∷ 0 ∷ 0 ∷ [])) [] None 0
    ∷ is (Passes 0) ((9, upload_get) ∷ []) None 0
    ∷ []

-- at another step status 4 ends it
abbrev pub drop_block : List InitTurn
drop_block =
    is (Says 0 9 (limits 12 14 2048 376 4096 380 3)) [] None 0
    ∷ is (Passes 0) ((9, transfer_start) ∷ []) None 0
    ∷ is (Says 0 9 (0x83 ∷ 3 ∷ 0x40 ∷ 2 ∷ 7 ∷ 0 ∷ 0 ∷ 0 ∷ 0 ∷ 0 ∷ 1 ∷ 0 ∷ 3 ∷ 0 ∷ 0 ∷ 0 ∷ 0xc ∷ 0x7c ∷ 1 ∷ 1 ∷ [])) [] None 0
    ∷ is (Passes 0) ((9, block_start) ∷ []) None 0
    ∷ is (Says 0 9 (0x67 ∷ 4 ∷ 0 ∷ 0 ∷ 0xc8 ∷ 0 ∷ [])) [] None 0
    ∷ is (Passes 0) [] (Some (Refused 2 4)) 0
    ∷ []

-- silence in the transfer
abbrev pub drop_silent : List InitTurn
drop_silent =
    is (Passes 4100) ((9, blob_information_get) ∷ []) None 0
    ∷ is (Passes 8200) ((9, blob_information_get) ∷ []) None 0
    ∷ is (Passes 12300) ((9, blob_information_get) ∷ []) None 0
    ∷ is (Passes 16400) ((9, blob_information_get) ∷ []) None 0
    ∷ is (Passes 20500) [] (Some (SilentEnd 2)) 0
    ∷ []
