-- Rounds and chunks.
use Rattle.std.specs.Prelude.{List, [], ◌∷◌, replicate, Some, None}
use Rattle.mu_model_client.specs.declared.Dropped.TheVariants.{Silent, Status, Barren}
use Rattle.mu_model_client.specs.declared.Stage.TheVariants.{Transfer as StageTransfer, Ended as StageEnded}
use Rattle.mu_model_client_rows.specs.Scenes.{block_get, update_get, blob_information_get, metadata_status, update_status, limits, check_of, start_of, transfer_of, Turn, quiet, sends, Says, Passes}

-- a round lasts 2,000 ms for each unit of the base and two more, and 20 for each of the TTL; it begins with its event
abbrev pub round_time : List Turn
round_time =
    sends (Passes 0) ((2, check_of 3) ∷ []) ((10 ∷ 0 ∷ 0 ∷ 0 ∷ []) ∷ []) (None ∷ []) StageTransfer
    ∷ quiet (Passes 6199) ((10 ∷ 0 ∷ 0 ∷ 0 ∷ []) ∷ []) (None ∷ []) StageTransfer
    ∷ sends (Passes 6300) ((2, check_of 3) ∷ []) ((10 ∷ 0 ∷ 0 ∷ 0 ∷ []) ∷ []) (None ∷ []) StageTransfer
    ∷ quiet (Passes 12499) ((10 ∷ 0 ∷ 0 ∷ 0 ∷ []) ∷ []) (None ∷ []) StageTransfer
    ∷ sends (Passes 12500) ((2, check_of 3) ∷ []) ((10 ∷ 0 ∷ 0 ∷ 0 ∷ []) ∷ []) (None ∷ []) StageTransfer
    ∷ sends (Passes 18700) ((2, check_of 3) ∷ []) ((10 ∷ 0 ∷ 0 ∷ 0 ∷ []) ∷ []) (None ∷ []) StageTransfer
    ∷ quiet (Passes 24899) ((10 ∷ 0 ∷ 0 ∷ 0 ∷ []) ∷ []) (None ∷ []) StageTransfer
    ∷ sends (Passes 24900) ((2, check_of 3) ∷ []) ((10 ∷ 0 ∷ 0 ∷ 0 ∷ []) ∷ []) (None ∷ []) StageTransfer
    ∷ quiet (Passes 31100) ((10 ∷ 0 ∷ 0 ∷ 0 ∷ []) ∷ []) (Some (Silent 1) ∷ []) StageEnded
    ∷ []

-- sixteen packets a time event; one who answers or is dropped before its packet is sent still gets it
abbrev pub sixteen : List Turn
sixteen =
    sends (Passes 0) ((2, check_of 3) ∷ (3, check_of 3) ∷ (4, check_of 3) ∷ (5, check_of 3) ∷ (6, check_of 3) ∷ (7, check_of 3) ∷ (8, check_of 3) ∷ (9, check_of 3) ∷ (0xa, check_of 3) ∷ (0xb, check_of 3) ∷ (0xc, check_of 3) ∷ (0xd, check_of 3) ∷ (0xe, check_of 3) ∷ (0xf, check_of 3) ∷ (0x10, check_of 3) ∷ (0x11, check_of 3) ∷ []) ((10 ∷ 0 ∷ 0 ∷ 0 ∷ []) ∷ (10 ∷ 0 ∷ 0 ∷ 0 ∷ []) ∷ (10 ∷ 0 ∷ 0 ∷ 0 ∷ []) ∷ (10 ∷ 0 ∷ 0 ∷ 0 ∷ []) ∷ (10 ∷ 0 ∷ 0 ∷ 0 ∷ []) ∷ (10 ∷ 0 ∷ 0 ∷ 0 ∷ []) ∷ (10 ∷ 0 ∷ 0 ∷ 0 ∷ []) ∷ (10 ∷ 0 ∷ 0 ∷ 0 ∷ []) ∷ (10 ∷ 0 ∷ 0 ∷ 0 ∷ []) ∷ (10 ∷ 0 ∷ 0 ∷ 0 ∷ []) ∷ (10 ∷ 0 ∷ 0 ∷ 0 ∷ []) ∷ (10 ∷ 0 ∷ 0 ∷ 0 ∷ []) ∷ (10 ∷ 0 ∷ 0 ∷ 0 ∷ []) ∷ (10 ∷ 0 ∷ 0 ∷ 0 ∷ []) ∷ (10 ∷ 0 ∷ 0 ∷ 0 ∷ []) ∷ (10 ∷ 0 ∷ 0 ∷ 0 ∷ []) ∷ (10 ∷ 0 ∷ 0 ∷ 0 ∷ []) ∷ (10 ∷ 0 ∷ 0 ∷ 0 ∷ []) ∷ []) (None ∷ None ∷ None ∷ None ∷ None ∷ None ∷ None ∷ None ∷ None ∷ None ∷ None ∷ None ∷ None ∷ None ∷ None ∷ None ∷ None ∷ None ∷ []) StageTransfer
    ∷ quiet (Says 0 2 (metadata_status 0)) ((10 ∷ 0 ∷ 0 ∷ 0 ∷ []) ∷ (10 ∷ 0 ∷ 0 ∷ 0 ∷ []) ∷ (10 ∷ 0 ∷ 0 ∷ 0 ∷ []) ∷ (10 ∷ 0 ∷ 0 ∷ 0 ∷ []) ∷ (10 ∷ 0 ∷ 0 ∷ 0 ∷ []) ∷ (10 ∷ 0 ∷ 0 ∷ 0 ∷ []) ∷ (10 ∷ 0 ∷ 0 ∷ 0 ∷ []) ∷ (10 ∷ 0 ∷ 0 ∷ 0 ∷ []) ∷ (10 ∷ 0 ∷ 0 ∷ 0 ∷ []) ∷ (10 ∷ 0 ∷ 0 ∷ 0 ∷ []) ∷ (10 ∷ 0 ∷ 0 ∷ 0 ∷ []) ∷ (10 ∷ 0 ∷ 0 ∷ 0 ∷ []) ∷ (10 ∷ 0 ∷ 0 ∷ 0 ∷ []) ∷ (10 ∷ 0 ∷ 0 ∷ 0 ∷ []) ∷ (10 ∷ 0 ∷ 0 ∷ 0 ∷ []) ∷ (10 ∷ 0 ∷ 0 ∷ 0 ∷ []) ∷ (10 ∷ 0 ∷ 0 ∷ 0 ∷ []) ∷ (10 ∷ 0 ∷ 0 ∷ 0 ∷ []) ∷ []) (None ∷ None ∷ None ∷ None ∷ None ∷ None ∷ None ∷ None ∷ None ∷ None ∷ None ∷ None ∷ None ∷ None ∷ None ∷ None ∷ None ∷ None ∷ []) StageTransfer
    ∷ quiet (Says 0 18 (metadata_status 0)) ((10 ∷ 0 ∷ 0 ∷ 0 ∷ []) ∷ (10 ∷ 0 ∷ 0 ∷ 0 ∷ []) ∷ (10 ∷ 0 ∷ 0 ∷ 0 ∷ []) ∷ (10 ∷ 0 ∷ 0 ∷ 0 ∷ []) ∷ (10 ∷ 0 ∷ 0 ∷ 0 ∷ []) ∷ (10 ∷ 0 ∷ 0 ∷ 0 ∷ []) ∷ (10 ∷ 0 ∷ 0 ∷ 0 ∷ []) ∷ (10 ∷ 0 ∷ 0 ∷ 0 ∷ []) ∷ (10 ∷ 0 ∷ 0 ∷ 0 ∷ []) ∷ (10 ∷ 0 ∷ 0 ∷ 0 ∷ []) ∷ (10 ∷ 0 ∷ 0 ∷ 0 ∷ []) ∷ (10 ∷ 0 ∷ 0 ∷ 0 ∷ []) ∷ (10 ∷ 0 ∷ 0 ∷ 0 ∷ []) ∷ (10 ∷ 0 ∷ 0 ∷ 0 ∷ []) ∷ (10 ∷ 0 ∷ 0 ∷ 0 ∷ []) ∷ (10 ∷ 0 ∷ 0 ∷ 0 ∷ []) ∷ (10 ∷ 0 ∷ 0 ∷ 0 ∷ []) ∷ (10 ∷ 0 ∷ 0 ∷ 0 ∷ []) ∷ []) (None ∷ None ∷ None ∷ None ∷ None ∷ None ∷ None ∷ None ∷ None ∷ None ∷ None ∷ None ∷ None ∷ None ∷ None ∷ None ∷ None ∷ None ∷ []) StageTransfer
    ∷ quiet (Says 0 19 (metadata_status 5)) ((10 ∷ 0 ∷ 0 ∷ 0 ∷ []) ∷ (10 ∷ 0 ∷ 0 ∷ 0 ∷ []) ∷ (10 ∷ 0 ∷ 0 ∷ 0 ∷ []) ∷ (10 ∷ 0 ∷ 0 ∷ 0 ∷ []) ∷ (10 ∷ 0 ∷ 0 ∷ 0 ∷ []) ∷ (10 ∷ 0 ∷ 0 ∷ 0 ∷ []) ∷ (10 ∷ 0 ∷ 0 ∷ 0 ∷ []) ∷ (10 ∷ 0 ∷ 0 ∷ 0 ∷ []) ∷ (10 ∷ 0 ∷ 0 ∷ 0 ∷ []) ∷ (10 ∷ 0 ∷ 0 ∷ 0 ∷ []) ∷ (10 ∷ 0 ∷ 0 ∷ 0 ∷ []) ∷ (10 ∷ 0 ∷ 0 ∷ 0 ∷ []) ∷ (10 ∷ 0 ∷ 0 ∷ 0 ∷ []) ∷ (10 ∷ 0 ∷ 0 ∷ 0 ∷ []) ∷ (10 ∷ 0 ∷ 0 ∷ 0 ∷ []) ∷ (10 ∷ 0 ∷ 0 ∷ 0 ∷ []) ∷ (10 ∷ 0 ∷ 0 ∷ 0 ∷ []) ∷ (10 ∷ 5 ∷ 0 ∷ 0 ∷ []) ∷ []) (None ∷ None ∷ None ∷ None ∷ None ∷ None ∷ None ∷ None ∷ None ∷ None ∷ None ∷ None ∷ None ∷ None ∷ None ∷ None ∷ None ∷ Some (Status 1 5) ∷ []) StageTransfer
    ∷ sends (Passes 0) ((0x12, check_of 3) ∷ (0x13, check_of 3) ∷ []) ((10 ∷ 0 ∷ 0 ∷ 0 ∷ []) ∷ (10 ∷ 0 ∷ 0 ∷ 0 ∷ []) ∷ (10 ∷ 0 ∷ 0 ∷ 0 ∷ []) ∷ (10 ∷ 0 ∷ 0 ∷ 0 ∷ []) ∷ (10 ∷ 0 ∷ 0 ∷ 0 ∷ []) ∷ (10 ∷ 0 ∷ 0 ∷ 0 ∷ []) ∷ (10 ∷ 0 ∷ 0 ∷ 0 ∷ []) ∷ (10 ∷ 0 ∷ 0 ∷ 0 ∷ []) ∷ (10 ∷ 0 ∷ 0 ∷ 0 ∷ []) ∷ (10 ∷ 0 ∷ 0 ∷ 0 ∷ []) ∷ (10 ∷ 0 ∷ 0 ∷ 0 ∷ []) ∷ (10 ∷ 0 ∷ 0 ∷ 0 ∷ []) ∷ (10 ∷ 0 ∷ 0 ∷ 0 ∷ []) ∷ (10 ∷ 0 ∷ 0 ∷ 0 ∷ []) ∷ (10 ∷ 0 ∷ 0 ∷ 0 ∷ []) ∷ (10 ∷ 0 ∷ 0 ∷ 0 ∷ []) ∷ (10 ∷ 0 ∷ 0 ∷ 0 ∷ []) ∷ (10 ∷ 5 ∷ 0 ∷ 0 ∷ []) ∷ []) (None ∷ None ∷ None ∷ None ∷ None ∷ None ∷ None ∷ None ∷ None ∷ None ∷ None ∷ None ∷ None ∷ None ∷ None ∷ None ∷ None ∷ Some (Status 1 5) ∷ []) StageTransfer
    ∷ quiet (Passes 0) ((10 ∷ 0 ∷ 0 ∷ 0 ∷ []) ∷ (10 ∷ 0 ∷ 0 ∷ 0 ∷ []) ∷ (10 ∷ 0 ∷ 0 ∷ 0 ∷ []) ∷ (10 ∷ 0 ∷ 0 ∷ 0 ∷ []) ∷ (10 ∷ 0 ∷ 0 ∷ 0 ∷ []) ∷ (10 ∷ 0 ∷ 0 ∷ 0 ∷ []) ∷ (10 ∷ 0 ∷ 0 ∷ 0 ∷ []) ∷ (10 ∷ 0 ∷ 0 ∷ 0 ∷ []) ∷ (10 ∷ 0 ∷ 0 ∷ 0 ∷ []) ∷ (10 ∷ 0 ∷ 0 ∷ 0 ∷ []) ∷ (10 ∷ 0 ∷ 0 ∷ 0 ∷ []) ∷ (10 ∷ 0 ∷ 0 ∷ 0 ∷ []) ∷ (10 ∷ 0 ∷ 0 ∷ 0 ∷ []) ∷ (10 ∷ 0 ∷ 0 ∷ 0 ∷ []) ∷ (10 ∷ 0 ∷ 0 ∷ 0 ∷ []) ∷ (10 ∷ 0 ∷ 0 ∷ 0 ∷ []) ∷ (10 ∷ 0 ∷ 0 ∷ 0 ∷ []) ∷ (10 ∷ 5 ∷ 0 ∷ 0 ∷ []) ∷ []) (None ∷ None ∷ None ∷ None ∷ None ∷ None ∷ None ∷ None ∷ None ∷ None ∷ None ∷ None ∷ None ∷ None ∷ None ∷ None ∷ None ∷ Some (Status 1 5) ∷ []) StageTransfer
    ∷ quiet (Says 0 3 (metadata_status 0)) ((10 ∷ 0 ∷ 0 ∷ 0 ∷ []) ∷ (10 ∷ 0 ∷ 0 ∷ 0 ∷ []) ∷ (10 ∷ 0 ∷ 0 ∷ 0 ∷ []) ∷ (10 ∷ 0 ∷ 0 ∷ 0 ∷ []) ∷ (10 ∷ 0 ∷ 0 ∷ 0 ∷ []) ∷ (10 ∷ 0 ∷ 0 ∷ 0 ∷ []) ∷ (10 ∷ 0 ∷ 0 ∷ 0 ∷ []) ∷ (10 ∷ 0 ∷ 0 ∷ 0 ∷ []) ∷ (10 ∷ 0 ∷ 0 ∷ 0 ∷ []) ∷ (10 ∷ 0 ∷ 0 ∷ 0 ∷ []) ∷ (10 ∷ 0 ∷ 0 ∷ 0 ∷ []) ∷ (10 ∷ 0 ∷ 0 ∷ 0 ∷ []) ∷ (10 ∷ 0 ∷ 0 ∷ 0 ∷ []) ∷ (10 ∷ 0 ∷ 0 ∷ 0 ∷ []) ∷ (10 ∷ 0 ∷ 0 ∷ 0 ∷ []) ∷ (10 ∷ 0 ∷ 0 ∷ 0 ∷ []) ∷ (10 ∷ 0 ∷ 0 ∷ 0 ∷ []) ∷ (10 ∷ 5 ∷ 0 ∷ 0 ∷ []) ∷ []) (None ∷ None ∷ None ∷ None ∷ None ∷ None ∷ None ∷ None ∷ None ∷ None ∷ None ∷ None ∷ None ∷ None ∷ None ∷ None ∷ None ∷ Some (Status 1 5) ∷ []) StageTransfer
    ∷ quiet (Says 0 4 (metadata_status 0)) ((10 ∷ 0 ∷ 0 ∷ 0 ∷ []) ∷ (10 ∷ 0 ∷ 0 ∷ 0 ∷ []) ∷ (10 ∷ 0 ∷ 0 ∷ 0 ∷ []) ∷ (10 ∷ 0 ∷ 0 ∷ 0 ∷ []) ∷ (10 ∷ 0 ∷ 0 ∷ 0 ∷ []) ∷ (10 ∷ 0 ∷ 0 ∷ 0 ∷ []) ∷ (10 ∷ 0 ∷ 0 ∷ 0 ∷ []) ∷ (10 ∷ 0 ∷ 0 ∷ 0 ∷ []) ∷ (10 ∷ 0 ∷ 0 ∷ 0 ∷ []) ∷ (10 ∷ 0 ∷ 0 ∷ 0 ∷ []) ∷ (10 ∷ 0 ∷ 0 ∷ 0 ∷ []) ∷ (10 ∷ 0 ∷ 0 ∷ 0 ∷ []) ∷ (10 ∷ 0 ∷ 0 ∷ 0 ∷ []) ∷ (10 ∷ 0 ∷ 0 ∷ 0 ∷ []) ∷ (10 ∷ 0 ∷ 0 ∷ 0 ∷ []) ∷ (10 ∷ 0 ∷ 0 ∷ 0 ∷ []) ∷ (10 ∷ 0 ∷ 0 ∷ 0 ∷ []) ∷ (10 ∷ 5 ∷ 0 ∷ 0 ∷ []) ∷ []) (None ∷ None ∷ None ∷ None ∷ None ∷ None ∷ None ∷ None ∷ None ∷ None ∷ None ∷ None ∷ None ∷ None ∷ None ∷ None ∷ None ∷ Some (Status 1 5) ∷ []) StageTransfer
    ∷ quiet (Says 0 5 (metadata_status 0)) ((10 ∷ 0 ∷ 0 ∷ 0 ∷ []) ∷ (10 ∷ 0 ∷ 0 ∷ 0 ∷ []) ∷ (10 ∷ 0 ∷ 0 ∷ 0 ∷ []) ∷ (10 ∷ 0 ∷ 0 ∷ 0 ∷ []) ∷ (10 ∷ 0 ∷ 0 ∷ 0 ∷ []) ∷ (10 ∷ 0 ∷ 0 ∷ 0 ∷ []) ∷ (10 ∷ 0 ∷ 0 ∷ 0 ∷ []) ∷ (10 ∷ 0 ∷ 0 ∷ 0 ∷ []) ∷ (10 ∷ 0 ∷ 0 ∷ 0 ∷ []) ∷ (10 ∷ 0 ∷ 0 ∷ 0 ∷ []) ∷ (10 ∷ 0 ∷ 0 ∷ 0 ∷ []) ∷ (10 ∷ 0 ∷ 0 ∷ 0 ∷ []) ∷ (10 ∷ 0 ∷ 0 ∷ 0 ∷ []) ∷ (10 ∷ 0 ∷ 0 ∷ 0 ∷ []) ∷ (10 ∷ 0 ∷ 0 ∷ 0 ∷ []) ∷ (10 ∷ 0 ∷ 0 ∷ 0 ∷ []) ∷ (10 ∷ 0 ∷ 0 ∷ 0 ∷ []) ∷ (10 ∷ 5 ∷ 0 ∷ 0 ∷ []) ∷ []) (None ∷ None ∷ None ∷ None ∷ None ∷ None ∷ None ∷ None ∷ None ∷ None ∷ None ∷ None ∷ None ∷ None ∷ None ∷ None ∷ None ∷ Some (Status 1 5) ∷ []) StageTransfer
    ∷ quiet (Says 0 6 (metadata_status 0)) ((10 ∷ 0 ∷ 0 ∷ 0 ∷ []) ∷ (10 ∷ 0 ∷ 0 ∷ 0 ∷ []) ∷ (10 ∷ 0 ∷ 0 ∷ 0 ∷ []) ∷ (10 ∷ 0 ∷ 0 ∷ 0 ∷ []) ∷ (10 ∷ 0 ∷ 0 ∷ 0 ∷ []) ∷ (10 ∷ 0 ∷ 0 ∷ 0 ∷ []) ∷ (10 ∷ 0 ∷ 0 ∷ 0 ∷ []) ∷ (10 ∷ 0 ∷ 0 ∷ 0 ∷ []) ∷ (10 ∷ 0 ∷ 0 ∷ 0 ∷ []) ∷ (10 ∷ 0 ∷ 0 ∷ 0 ∷ []) ∷ (10 ∷ 0 ∷ 0 ∷ 0 ∷ []) ∷ (10 ∷ 0 ∷ 0 ∷ 0 ∷ []) ∷ (10 ∷ 0 ∷ 0 ∷ 0 ∷ []) ∷ (10 ∷ 0 ∷ 0 ∷ 0 ∷ []) ∷ (10 ∷ 0 ∷ 0 ∷ 0 ∷ []) ∷ (10 ∷ 0 ∷ 0 ∷ 0 ∷ []) ∷ (10 ∷ 0 ∷ 0 ∷ 0 ∷ []) ∷ (10 ∷ 5 ∷ 0 ∷ 0 ∷ []) ∷ []) (None ∷ None ∷ None ∷ None ∷ None ∷ None ∷ None ∷ None ∷ None ∷ None ∷ None ∷ None ∷ None ∷ None ∷ None ∷ None ∷ None ∷ Some (Status 1 5) ∷ []) StageTransfer
    ∷ quiet (Says 0 7 (metadata_status 0)) ((10 ∷ 0 ∷ 0 ∷ 0 ∷ []) ∷ (10 ∷ 0 ∷ 0 ∷ 0 ∷ []) ∷ (10 ∷ 0 ∷ 0 ∷ 0 ∷ []) ∷ (10 ∷ 0 ∷ 0 ∷ 0 ∷ []) ∷ (10 ∷ 0 ∷ 0 ∷ 0 ∷ []) ∷ (10 ∷ 0 ∷ 0 ∷ 0 ∷ []) ∷ (10 ∷ 0 ∷ 0 ∷ 0 ∷ []) ∷ (10 ∷ 0 ∷ 0 ∷ 0 ∷ []) ∷ (10 ∷ 0 ∷ 0 ∷ 0 ∷ []) ∷ (10 ∷ 0 ∷ 0 ∷ 0 ∷ []) ∷ (10 ∷ 0 ∷ 0 ∷ 0 ∷ []) ∷ (10 ∷ 0 ∷ 0 ∷ 0 ∷ []) ∷ (10 ∷ 0 ∷ 0 ∷ 0 ∷ []) ∷ (10 ∷ 0 ∷ 0 ∷ 0 ∷ []) ∷ (10 ∷ 0 ∷ 0 ∷ 0 ∷ []) ∷ (10 ∷ 0 ∷ 0 ∷ 0 ∷ []) ∷ (10 ∷ 0 ∷ 0 ∷ 0 ∷ []) ∷ (10 ∷ 5 ∷ 0 ∷ 0 ∷ []) ∷ []) (None ∷ None ∷ None ∷ None ∷ None ∷ None ∷ None ∷ None ∷ None ∷ None ∷ None ∷ None ∷ None ∷ None ∷ None ∷ None ∷ None ∷ Some (Status 1 5) ∷ []) StageTransfer
    ∷ quiet (Says 0 8 (metadata_status 0)) ((10 ∷ 0 ∷ 0 ∷ 0 ∷ []) ∷ (10 ∷ 0 ∷ 0 ∷ 0 ∷ []) ∷ (10 ∷ 0 ∷ 0 ∷ 0 ∷ []) ∷ (10 ∷ 0 ∷ 0 ∷ 0 ∷ []) ∷ (10 ∷ 0 ∷ 0 ∷ 0 ∷ []) ∷ (10 ∷ 0 ∷ 0 ∷ 0 ∷ []) ∷ (10 ∷ 0 ∷ 0 ∷ 0 ∷ []) ∷ (10 ∷ 0 ∷ 0 ∷ 0 ∷ []) ∷ (10 ∷ 0 ∷ 0 ∷ 0 ∷ []) ∷ (10 ∷ 0 ∷ 0 ∷ 0 ∷ []) ∷ (10 ∷ 0 ∷ 0 ∷ 0 ∷ []) ∷ (10 ∷ 0 ∷ 0 ∷ 0 ∷ []) ∷ (10 ∷ 0 ∷ 0 ∷ 0 ∷ []) ∷ (10 ∷ 0 ∷ 0 ∷ 0 ∷ []) ∷ (10 ∷ 0 ∷ 0 ∷ 0 ∷ []) ∷ (10 ∷ 0 ∷ 0 ∷ 0 ∷ []) ∷ (10 ∷ 0 ∷ 0 ∷ 0 ∷ []) ∷ (10 ∷ 5 ∷ 0 ∷ 0 ∷ []) ∷ []) (None ∷ None ∷ None ∷ None ∷ None ∷ None ∷ None ∷ None ∷ None ∷ None ∷ None ∷ None ∷ None ∷ None ∷ None ∷ None ∷ None ∷ Some (Status 1 5) ∷ []) StageTransfer
    ∷ quiet (Says 0 9 (metadata_status 0)) ((10 ∷ 0 ∷ 0 ∷ 0 ∷ []) ∷ (10 ∷ 0 ∷ 0 ∷ 0 ∷ []) ∷ (10 ∷ 0 ∷ 0 ∷ 0 ∷ []) ∷ (10 ∷ 0 ∷ 0 ∷ 0 ∷ []) ∷ (10 ∷ 0 ∷ 0 ∷ 0 ∷ []) ∷ (10 ∷ 0 ∷ 0 ∷ 0 ∷ []) ∷ (10 ∷ 0 ∷ 0 ∷ 0 ∷ []) ∷ (10 ∷ 0 ∷ 0 ∷ 0 ∷ []) ∷ (10 ∷ 0 ∷ 0 ∷ 0 ∷ []) ∷ (10 ∷ 0 ∷ 0 ∷ 0 ∷ []) ∷ (10 ∷ 0 ∷ 0 ∷ 0 ∷ []) ∷ (10 ∷ 0 ∷ 0 ∷ 0 ∷ []) ∷ (10 ∷ 0 ∷ 0 ∷ 0 ∷ []) ∷ (10 ∷ 0 ∷ 0 ∷ 0 ∷ []) ∷ (10 ∷ 0 ∷ 0 ∷ 0 ∷ []) ∷ (10 ∷ 0 ∷ 0 ∷ 0 ∷ []) ∷ (10 ∷ 0 ∷ 0 ∷ 0 ∷ []) ∷ (10 ∷ 5 ∷ 0 ∷ 0 ∷ []) ∷ []) (None ∷ None ∷ None ∷ None ∷ None ∷ None ∷ None ∷ None ∷ None ∷ None ∷ None ∷ None ∷ None ∷ None ∷ None ∷ None ∷ None ∷ Some (Status 1 5) ∷ []) StageTransfer
    ∷ quiet (Says 0 10 (metadata_status 0)) ((10 ∷ 0 ∷ 0 ∷ 0 ∷ []) ∷ (10 ∷ 0 ∷ 0 ∷ 0 ∷ []) ∷ (10 ∷ 0 ∷ 0 ∷ 0 ∷ []) ∷ (10 ∷ 0 ∷ 0 ∷ 0 ∷ []) ∷ (10 ∷ 0 ∷ 0 ∷ 0 ∷ []) ∷ (10 ∷ 0 ∷ 0 ∷ 0 ∷ []) ∷ (10 ∷ 0 ∷ 0 ∷ 0 ∷ []) ∷ (10 ∷ 0 ∷ 0 ∷ 0 ∷ []) ∷ (10 ∷ 0 ∷ 0 ∷ 0 ∷ []) ∷ (10 ∷ 0 ∷ 0 ∷ 0 ∷ []) ∷ (10 ∷ 0 ∷ 0 ∷ 0 ∷ []) ∷ (10 ∷ 0 ∷ 0 ∷ 0 ∷ []) ∷ (10 ∷ 0 ∷ 0 ∷ 0 ∷ []) ∷ (10 ∷ 0 ∷ 0 ∷ 0 ∷ []) ∷ (10 ∷ 0 ∷ 0 ∷ 0 ∷ []) ∷ (10 ∷ 0 ∷ 0 ∷ 0 ∷ []) ∷ (10 ∷ 0 ∷ 0 ∷ 0 ∷ []) ∷ (10 ∷ 5 ∷ 0 ∷ 0 ∷ []) ∷ []) (None ∷ None ∷ None ∷ None ∷ None ∷ None ∷ None ∷ None ∷ None ∷ None ∷ None ∷ None ∷ None ∷ None ∷ None ∷ None ∷ None ∷ Some (Status 1 5) ∷ []) StageTransfer
    ∷ quiet (Says 0 11 (metadata_status 0)) ((10 ∷ 0 ∷ 0 ∷ 0 ∷ []) ∷ (10 ∷ 0 ∷ 0 ∷ 0 ∷ []) ∷ (10 ∷ 0 ∷ 0 ∷ 0 ∷ []) ∷ (10 ∷ 0 ∷ 0 ∷ 0 ∷ []) ∷ (10 ∷ 0 ∷ 0 ∷ 0 ∷ []) ∷ (10 ∷ 0 ∷ 0 ∷ 0 ∷ []) ∷ (10 ∷ 0 ∷ 0 ∷ 0 ∷ []) ∷ (10 ∷ 0 ∷ 0 ∷ 0 ∷ []) ∷ (10 ∷ 0 ∷ 0 ∷ 0 ∷ []) ∷ (10 ∷ 0 ∷ 0 ∷ 0 ∷ []) ∷ (10 ∷ 0 ∷ 0 ∷ 0 ∷ []) ∷ (10 ∷ 0 ∷ 0 ∷ 0 ∷ []) ∷ (10 ∷ 0 ∷ 0 ∷ 0 ∷ []) ∷ (10 ∷ 0 ∷ 0 ∷ 0 ∷ []) ∷ (10 ∷ 0 ∷ 0 ∷ 0 ∷ []) ∷ (10 ∷ 0 ∷ 0 ∷ 0 ∷ []) ∷ (10 ∷ 0 ∷ 0 ∷ 0 ∷ []) ∷ (10 ∷ 5 ∷ 0 ∷ 0 ∷ []) ∷ []) (None ∷ None ∷ None ∷ None ∷ None ∷ None ∷ None ∷ None ∷ None ∷ None ∷ None ∷ None ∷ None ∷ None ∷ None ∷ None ∷ None ∷ Some (Status 1 5) ∷ []) StageTransfer
    ∷ quiet (Says 0 12 (metadata_status 0)) ((10 ∷ 0 ∷ 0 ∷ 0 ∷ []) ∷ (10 ∷ 0 ∷ 0 ∷ 0 ∷ []) ∷ (10 ∷ 0 ∷ 0 ∷ 0 ∷ []) ∷ (10 ∷ 0 ∷ 0 ∷ 0 ∷ []) ∷ (10 ∷ 0 ∷ 0 ∷ 0 ∷ []) ∷ (10 ∷ 0 ∷ 0 ∷ 0 ∷ []) ∷ (10 ∷ 0 ∷ 0 ∷ 0 ∷ []) ∷ (10 ∷ 0 ∷ 0 ∷ 0 ∷ []) ∷ (10 ∷ 0 ∷ 0 ∷ 0 ∷ []) ∷ (10 ∷ 0 ∷ 0 ∷ 0 ∷ []) ∷ (10 ∷ 0 ∷ 0 ∷ 0 ∷ []) ∷ (10 ∷ 0 ∷ 0 ∷ 0 ∷ []) ∷ (10 ∷ 0 ∷ 0 ∷ 0 ∷ []) ∷ (10 ∷ 0 ∷ 0 ∷ 0 ∷ []) ∷ (10 ∷ 0 ∷ 0 ∷ 0 ∷ []) ∷ (10 ∷ 0 ∷ 0 ∷ 0 ∷ []) ∷ (10 ∷ 0 ∷ 0 ∷ 0 ∷ []) ∷ (10 ∷ 5 ∷ 0 ∷ 0 ∷ []) ∷ []) (None ∷ None ∷ None ∷ None ∷ None ∷ None ∷ None ∷ None ∷ None ∷ None ∷ None ∷ None ∷ None ∷ None ∷ None ∷ None ∷ None ∷ Some (Status 1 5) ∷ []) StageTransfer
    ∷ quiet (Says 0 13 (metadata_status 0)) ((10 ∷ 0 ∷ 0 ∷ 0 ∷ []) ∷ (10 ∷ 0 ∷ 0 ∷ 0 ∷ []) ∷ (10 ∷ 0 ∷ 0 ∷ 0 ∷ []) ∷ (10 ∷ 0 ∷ 0 ∷ 0 ∷ []) ∷ (10 ∷ 0 ∷ 0 ∷ 0 ∷ []) ∷ (10 ∷ 0 ∷ 0 ∷ 0 ∷ []) ∷ (10 ∷ 0 ∷ 0 ∷ 0 ∷ []) ∷ (10 ∷ 0 ∷ 0 ∷ 0 ∷ []) ∷ (10 ∷ 0 ∷ 0 ∷ 0 ∷ []) ∷ (10 ∷ 0 ∷ 0 ∷ 0 ∷ []) ∷ (10 ∷ 0 ∷ 0 ∷ 0 ∷ []) ∷ (10 ∷ 0 ∷ 0 ∷ 0 ∷ []) ∷ (10 ∷ 0 ∷ 0 ∷ 0 ∷ []) ∷ (10 ∷ 0 ∷ 0 ∷ 0 ∷ []) ∷ (10 ∷ 0 ∷ 0 ∷ 0 ∷ []) ∷ (10 ∷ 0 ∷ 0 ∷ 0 ∷ []) ∷ (10 ∷ 0 ∷ 0 ∷ 0 ∷ []) ∷ (10 ∷ 5 ∷ 0 ∷ 0 ∷ []) ∷ []) (None ∷ None ∷ None ∷ None ∷ None ∷ None ∷ None ∷ None ∷ None ∷ None ∷ None ∷ None ∷ None ∷ None ∷ None ∷ None ∷ None ∷ Some (Status 1 5) ∷ []) StageTransfer
    ∷ quiet (Says 0 14 (metadata_status 0)) ((10 ∷ 0 ∷ 0 ∷ 0 ∷ []) ∷ (10 ∷ 0 ∷ 0 ∷ 0 ∷ []) ∷ (10 ∷ 0 ∷ 0 ∷ 0 ∷ []) ∷ (10 ∷ 0 ∷ 0 ∷ 0 ∷ []) ∷ (10 ∷ 0 ∷ 0 ∷ 0 ∷ []) ∷ (10 ∷ 0 ∷ 0 ∷ 0 ∷ []) ∷ (10 ∷ 0 ∷ 0 ∷ 0 ∷ []) ∷ (10 ∷ 0 ∷ 0 ∷ 0 ∷ []) ∷ (10 ∷ 0 ∷ 0 ∷ 0 ∷ []) ∷ (10 ∷ 0 ∷ 0 ∷ 0 ∷ []) ∷ (10 ∷ 0 ∷ 0 ∷ 0 ∷ []) ∷ (10 ∷ 0 ∷ 0 ∷ 0 ∷ []) ∷ (10 ∷ 0 ∷ 0 ∷ 0 ∷ []) ∷ (10 ∷ 0 ∷ 0 ∷ 0 ∷ []) ∷ (10 ∷ 0 ∷ 0 ∷ 0 ∷ []) ∷ (10 ∷ 0 ∷ 0 ∷ 0 ∷ []) ∷ (10 ∷ 0 ∷ 0 ∷ 0 ∷ []) ∷ (10 ∷ 5 ∷ 0 ∷ 0 ∷ []) ∷ []) (None ∷ None ∷ None ∷ None ∷ None ∷ None ∷ None ∷ None ∷ None ∷ None ∷ None ∷ None ∷ None ∷ None ∷ None ∷ None ∷ None ∷ Some (Status 1 5) ∷ []) StageTransfer
    ∷ quiet (Says 0 15 (metadata_status 0)) ((10 ∷ 0 ∷ 0 ∷ 0 ∷ []) ∷ (10 ∷ 0 ∷ 0 ∷ 0 ∷ []) ∷ (10 ∷ 0 ∷ 0 ∷ 0 ∷ []) ∷ (10 ∷ 0 ∷ 0 ∷ 0 ∷ []) ∷ (10 ∷ 0 ∷ 0 ∷ 0 ∷ []) ∷ (10 ∷ 0 ∷ 0 ∷ 0 ∷ []) ∷ (10 ∷ 0 ∷ 0 ∷ 0 ∷ []) ∷ (10 ∷ 0 ∷ 0 ∷ 0 ∷ []) ∷ (10 ∷ 0 ∷ 0 ∷ 0 ∷ []) ∷ (10 ∷ 0 ∷ 0 ∷ 0 ∷ []) ∷ (10 ∷ 0 ∷ 0 ∷ 0 ∷ []) ∷ (10 ∷ 0 ∷ 0 ∷ 0 ∷ []) ∷ (10 ∷ 0 ∷ 0 ∷ 0 ∷ []) ∷ (10 ∷ 0 ∷ 0 ∷ 0 ∷ []) ∷ (10 ∷ 0 ∷ 0 ∷ 0 ∷ []) ∷ (10 ∷ 0 ∷ 0 ∷ 0 ∷ []) ∷ (10 ∷ 0 ∷ 0 ∷ 0 ∷ []) ∷ (10 ∷ 5 ∷ 0 ∷ 0 ∷ []) ∷ []) (None ∷ None ∷ None ∷ None ∷ None ∷ None ∷ None ∷ None ∷ None ∷ None ∷ None ∷ None ∷ None ∷ None ∷ None ∷ None ∷ None ∷ Some (Status 1 5) ∷ []) StageTransfer
    ∷ quiet (Says 0 16 (metadata_status 0)) ((10 ∷ 0 ∷ 0 ∷ 0 ∷ []) ∷ (10 ∷ 0 ∷ 0 ∷ 0 ∷ []) ∷ (10 ∷ 0 ∷ 0 ∷ 0 ∷ []) ∷ (10 ∷ 0 ∷ 0 ∷ 0 ∷ []) ∷ (10 ∷ 0 ∷ 0 ∷ 0 ∷ []) ∷ (10 ∷ 0 ∷ 0 ∷ 0 ∷ []) ∷ (10 ∷ 0 ∷ 0 ∷ 0 ∷ []) ∷ (10 ∷ 0 ∷ 0 ∷ 0 ∷ []) ∷ (10 ∷ 0 ∷ 0 ∷ 0 ∷ []) ∷ (10 ∷ 0 ∷ 0 ∷ 0 ∷ []) ∷ (10 ∷ 0 ∷ 0 ∷ 0 ∷ []) ∷ (10 ∷ 0 ∷ 0 ∷ 0 ∷ []) ∷ (10 ∷ 0 ∷ 0 ∷ 0 ∷ []) ∷ (10 ∷ 0 ∷ 0 ∷ 0 ∷ []) ∷ (10 ∷ 0 ∷ 0 ∷ 0 ∷ []) ∷ (10 ∷ 0 ∷ 0 ∷ 0 ∷ []) ∷ (10 ∷ 0 ∷ 0 ∷ 0 ∷ []) ∷ (10 ∷ 5 ∷ 0 ∷ 0 ∷ []) ∷ []) (None ∷ None ∷ None ∷ None ∷ None ∷ None ∷ None ∷ None ∷ None ∷ None ∷ None ∷ None ∷ None ∷ None ∷ None ∷ None ∷ None ∷ Some (Status 1 5) ∷ []) StageTransfer
    ∷ quiet (Says 0 17 (metadata_status 0)) ((10 ∷ 0 ∷ 0 ∷ 0 ∷ []) ∷ (10 ∷ 0 ∷ 0 ∷ 0 ∷ []) ∷ (10 ∷ 0 ∷ 0 ∷ 0 ∷ []) ∷ (10 ∷ 0 ∷ 0 ∷ 0 ∷ []) ∷ (10 ∷ 0 ∷ 0 ∷ 0 ∷ []) ∷ (10 ∷ 0 ∷ 0 ∷ 0 ∷ []) ∷ (10 ∷ 0 ∷ 0 ∷ 0 ∷ []) ∷ (10 ∷ 0 ∷ 0 ∷ 0 ∷ []) ∷ (10 ∷ 0 ∷ 0 ∷ 0 ∷ []) ∷ (10 ∷ 0 ∷ 0 ∷ 0 ∷ []) ∷ (10 ∷ 0 ∷ 0 ∷ 0 ∷ []) ∷ (10 ∷ 0 ∷ 0 ∷ 0 ∷ []) ∷ (10 ∷ 0 ∷ 0 ∷ 0 ∷ []) ∷ (10 ∷ 0 ∷ 0 ∷ 0 ∷ []) ∷ (10 ∷ 0 ∷ 0 ∷ 0 ∷ []) ∷ (10 ∷ 0 ∷ 0 ∷ 0 ∷ []) ∷ (10 ∷ 0 ∷ 0 ∷ 0 ∷ []) ∷ (10 ∷ 5 ∷ 0 ∷ 0 ∷ []) ∷ []) (None ∷ None ∷ None ∷ None ∷ None ∷ None ∷ None ∷ None ∷ None ∷ None ∷ None ∷ None ∷ None ∷ None ∷ None ∷ None ∷ None ∷ Some (Status 1 5) ∷ []) StageTransfer
    ∷ sends (Passes 0) ((2, start_of 3) ∷ (3, start_of 3) ∷ (4, start_of 3) ∷ (5, start_of 3) ∷ (6, start_of 3) ∷ (7, start_of 3) ∷ (8, start_of 3) ∷ (9, start_of 3) ∷ (0xa, start_of 3) ∷ (0xb, start_of 3) ∷ (0xc, start_of 3) ∷ (0xd, start_of 3) ∷ (0xe, start_of 3) ∷ (0xf, start_of 3) ∷ (0x10, start_of 3) ∷ (0x11, start_of 3) ∷ []) ((10 ∷ 0 ∷ 0 ∷ 0 ∷ []) ∷ (10 ∷ 0 ∷ 0 ∷ 0 ∷ []) ∷ (10 ∷ 0 ∷ 0 ∷ 0 ∷ []) ∷ (10 ∷ 0 ∷ 0 ∷ 0 ∷ []) ∷ (10 ∷ 0 ∷ 0 ∷ 0 ∷ []) ∷ (10 ∷ 0 ∷ 0 ∷ 0 ∷ []) ∷ (10 ∷ 0 ∷ 0 ∷ 0 ∷ []) ∷ (10 ∷ 0 ∷ 0 ∷ 0 ∷ []) ∷ (10 ∷ 0 ∷ 0 ∷ 0 ∷ []) ∷ (10 ∷ 0 ∷ 0 ∷ 0 ∷ []) ∷ (10 ∷ 0 ∷ 0 ∷ 0 ∷ []) ∷ (10 ∷ 0 ∷ 0 ∷ 0 ∷ []) ∷ (10 ∷ 0 ∷ 0 ∷ 0 ∷ []) ∷ (10 ∷ 0 ∷ 0 ∷ 0 ∷ []) ∷ (10 ∷ 0 ∷ 0 ∷ 0 ∷ []) ∷ (10 ∷ 0 ∷ 0 ∷ 0 ∷ []) ∷ (10 ∷ 0 ∷ 0 ∷ 0 ∷ []) ∷ (10 ∷ 5 ∷ 0 ∷ 0 ∷ []) ∷ []) (None ∷ None ∷ None ∷ None ∷ None ∷ None ∷ None ∷ None ∷ None ∷ None ∷ None ∷ None ∷ None ∷ None ∷ None ∷ None ∷ None ∷ Some (Status 1 5) ∷ []) StageTransfer
    ∷ []

-- a moment that is smaller than the last one counts as that
abbrev pub early_moment : List Turn
early_moment =
    sends (Passes 5000) ((2, check_of 3) ∷ []) ((10 ∷ 0 ∷ 0 ∷ 0 ∷ []) ∷ []) (None ∷ []) StageTransfer
    ∷ quiet (Passes 100) ((10 ∷ 0 ∷ 0 ∷ 0 ∷ []) ∷ []) (None ∷ []) StageTransfer
    ∷ quiet (Passes 9099) ((10 ∷ 0 ∷ 0 ∷ 0 ∷ []) ∷ []) (None ∷ []) StageTransfer
    ∷ quiet (Says 20 2 (metadata_status 0)) ((10 ∷ 0 ∷ 0 ∷ 0 ∷ []) ∷ []) (None ∷ []) StageTransfer
    ∷ sends (Passes 30) ((2, start_of 3) ∷ []) ((10 ∷ 0 ∷ 0 ∷ 0 ∷ []) ∷ []) (None ∷ []) StageTransfer
    ∷ []

-- chunks to a group are the union of what is missed; the next list has what is missed after the Block Get
abbrev pub grouped : List Turn
grouped =
    sends (Passes 0) ((2, check_of 400) ∷ (3, check_of 400) ∷ (4, check_of 400) ∷ []) ((10 ∷ 0 ∷ 0 ∷ 0 ∷ []) ∷ (10 ∷ 0 ∷ 0 ∷ 0 ∷ []) ∷ (10 ∷ 0 ∷ 0 ∷ 0 ∷ []) ∷ []) (None ∷ None ∷ None ∷ []) StageTransfer
    ∷ quiet (Says 0 2 (metadata_status 0)) ((10 ∷ 0 ∷ 0 ∷ 0 ∷ []) ∷ (10 ∷ 0 ∷ 0 ∷ 0 ∷ []) ∷ (10 ∷ 0 ∷ 0 ∷ 0 ∷ []) ∷ []) (None ∷ None ∷ None ∷ []) StageTransfer
    ∷ quiet (Says 0 3 (metadata_status 0)) ((10 ∷ 0 ∷ 0 ∷ 0 ∷ []) ∷ (10 ∷ 0 ∷ 0 ∷ 0 ∷ []) ∷ (10 ∷ 0 ∷ 0 ∷ 0 ∷ []) ∷ []) (None ∷ None ∷ None ∷ []) StageTransfer
    ∷ quiet (Says 0 4 (metadata_status 0)) ((10 ∷ 0 ∷ 0 ∷ 0 ∷ []) ∷ (10 ∷ 0 ∷ 0 ∷ 0 ∷ []) ∷ (10 ∷ 0 ∷ 0 ∷ 0 ∷ []) ∷ []) (None ∷ None ∷ None ∷ []) StageTransfer
    ∷ sends (Passes 0) ((2, start_of 400) ∷ (3, start_of 400) ∷ (4, start_of 400) ∷ []) ((10 ∷ 0 ∷ 0 ∷ 0 ∷ []) ∷ (10 ∷ 0 ∷ 0 ∷ 0 ∷ []) ∷ (10 ∷ 0 ∷ 0 ∷ 0 ∷ []) ∷ []) (None ∷ None ∷ None ∷ []) StageTransfer
    ∷ quiet (Says 0 2 (update_status 0x40 7)) ((2 ∷ 0 ∷ 0 ∷ 0 ∷ []) ∷ (10 ∷ 0 ∷ 0 ∷ 0 ∷ []) ∷ (10 ∷ 0 ∷ 0 ∷ 0 ∷ []) ∷ []) (None ∷ None ∷ None ∷ []) StageTransfer
    ∷ quiet (Says 0 3 (update_status 0x40 7)) ((2 ∷ 0 ∷ 0 ∷ 0 ∷ []) ∷ (2 ∷ 0 ∷ 0 ∷ 0 ∷ []) ∷ (10 ∷ 0 ∷ 0 ∷ 0 ∷ []) ∷ []) (None ∷ None ∷ None ∷ []) StageTransfer
    ∷ quiet (Says 0 4 (update_status 0x40 7)) ((2 ∷ 0 ∷ 0 ∷ 0 ∷ []) ∷ (2 ∷ 0 ∷ 0 ∷ 0 ∷ []) ∷ (2 ∷ 0 ∷ 0 ∷ 0 ∷ []) ∷ []) (None ∷ None ∷ None ∷ []) StageTransfer
    ∷ sends (Passes 0) ((2, blob_information_get) ∷ (3, blob_information_get) ∷ (4, blob_information_get) ∷ []) ((2 ∷ 0 ∷ 0 ∷ 0 ∷ []) ∷ (2 ∷ 0 ∷ 0 ∷ 0 ∷ []) ∷ (2 ∷ 0 ∷ 0 ∷ 0 ∷ []) ∷ []) (None ∷ None ∷ None ∷ []) StageTransfer
    ∷ quiet (Says 0 2 (limits 12 14 2048 376 65535 380 3)) ((2 ∷ 0 ∷ 0 ∷ 0 ∷ []) ∷ (2 ∷ 0 ∷ 0 ∷ 0 ∷ []) ∷ (2 ∷ 0 ∷ 0 ∷ 0 ∷ []) ∷ []) (None ∷ None ∷ None ∷ []) StageTransfer
    ∷ quiet (Says 0 3 (limits 12 14 2048 376 65535 380 3)) ((2 ∷ 0 ∷ 0 ∷ 0 ∷ []) ∷ (2 ∷ 0 ∷ 0 ∷ 0 ∷ []) ∷ (2 ∷ 0 ∷ 0 ∷ 0 ∷ []) ∷ []) (None ∷ None ∷ None ∷ []) StageTransfer
    ∷ quiet (Says 0 4 (limits 12 14 2048 376 65535 380 3)) ((2 ∷ 0 ∷ 0 ∷ 0 ∷ []) ∷ (2 ∷ 0 ∷ 0 ∷ 0 ∷ []) ∷ (2 ∷ 0 ∷ 0 ∷ 0 ∷ []) ∷ []) (None ∷ None ∷ None ∷ []) StageTransfer
    ∷ sends (Passes 0) ((2, transfer_of 0x40 400) ∷ (3, transfer_of 0x40 400) ∷ (4, transfer_of 0x40 400) ∷ []) ((2 ∷ 0 ∷ 0 ∷ 0 ∷ []) ∷ (2 ∷ 0 ∷ 0 ∷ 0 ∷ []) ∷ (2 ∷ 0 ∷ 0 ∷ 0 ∷ []) ∷ []) (None ∷ None ∷ None ∷ []) StageTransfer
    ∷ quiet (Says 0 2 (0x83 ∷ 3 ∷ 0x40 ∷ 2 ∷ 7 ∷ 0 ∷ 0 ∷ 0 ∷ 0 ∷ 0 ∷ 1 ∷ 0 ∷ 0x90 ∷ 1 ∷ 0 ∷ 0 ∷ 0xc ∷ 0x7c ∷ 1 ∷ 1 ∷ [])) ((2 ∷ 0 ∷ 0 ∷ 0 ∷ []) ∷ (2 ∷ 0 ∷ 0 ∷ 0 ∷ []) ∷ (2 ∷ 0 ∷ 0 ∷ 0 ∷ []) ∷ []) (None ∷ None ∷ None ∷ []) StageTransfer
    ∷ quiet (Says 0 3 (0x83 ∷ 3 ∷ 0x40 ∷ 2 ∷ 7 ∷ 0 ∷ 0 ∷ 0 ∷ 0 ∷ 0 ∷ 1 ∷ 0 ∷ 0x90 ∷ 1 ∷ 0 ∷ 0 ∷ 0xc ∷ 0x7c ∷ 1 ∷ 1 ∷ [])) ((2 ∷ 0 ∷ 0 ∷ 0 ∷ []) ∷ (2 ∷ 0 ∷ 0 ∷ 0 ∷ []) ∷ (2 ∷ 0 ∷ 0 ∷ 0 ∷ []) ∷ []) (None ∷ None ∷ None ∷ []) StageTransfer
    ∷ quiet (Says 0 4 (0x83 ∷ 3 ∷ 0x40 ∷ 2 ∷ 7 ∷ 0 ∷ 0 ∷ 0 ∷ 0 ∷ 0 ∷ 1 ∷ 0 ∷ 0x90 ∷ 1 ∷ 0 ∷ 0 ∷ 0xc ∷ 0x7c ∷ 1 ∷ 0 ∷ [])) ((2 ∷ 0 ∷ 0 ∷ 0 ∷ []) ∷ (2 ∷ 0 ∷ 0 ∷ 0 ∷ []) ∷ (2 ∷ 0 ∷ 0 ∷ 100 ∷ []) ∷ []) (None ∷ None ∷ None ∷ []) StageTransfer
    ∷ sends (Passes 0) ((2, 0x83 ∷ 4 ∷ 0 ∷ 0 ∷ 0x64 ∷ 0 ∷ []) ∷ (3, 0x83 ∷ 4 ∷ 0 ∷ 0 ∷ 0x64 ∷ 0 ∷ []) ∷ []) ((2 ∷ 0 ∷ 0 ∷ 0 ∷ []) ∷ (2 ∷ 0 ∷ 0 ∷ 0 ∷ []) ∷ (2 ∷ 0 ∷ 0 ∷ 100 ∷ []) ∷ []) (None ∷ None ∷ None ∷ []) StageTransfer
    ∷ quiet (Says 0 2 (0x67 ∷ 0 ∷ 0 ∷ 0 ∷ 0x64 ∷ 0 ∷ [])) ((2 ∷ 0 ∷ 0 ∷ 0 ∷ []) ∷ (2 ∷ 0 ∷ 0 ∷ 0 ∷ []) ∷ (2 ∷ 0 ∷ 0 ∷ 100 ∷ []) ∷ []) (None ∷ None ∷ None ∷ []) StageTransfer
    ∷ quiet (Says 0 3 (0x67 ∷ 0xc0 ∷ 0 ∷ 0 ∷ 0x64 ∷ 0 ∷ 3 ∷ 1 ∷ [])) ((2 ∷ 0 ∷ 0 ∷ 0 ∷ []) ∷ (2 ∷ 0 ∷ 0 ∷ 0 ∷ []) ∷ (2 ∷ 0 ∷ 0 ∷ 100 ∷ []) ∷ []) (None ∷ None ∷ None ∷ []) StageTransfer
    ∷ sends (Passes 0) ((0xc000, 0x66 ∷ 0 ∷ 0 ∷ replicate 100 0x61) ∷ (0xc000, 0x66 ∷ 1 ∷ 0 ∷ replicate 100 0x61) ∷ (0xc000, 0x66 ∷ 2 ∷ 0 ∷ replicate 100 0x61) ∷ (0xc000, 0x66 ∷ 3 ∷ 0 ∷ replicate 100 0x61) ∷ []) ((2 ∷ 0 ∷ 0 ∷ 0 ∷ []) ∷ (2 ∷ 0 ∷ 0 ∷ 0 ∷ []) ∷ (2 ∷ 0 ∷ 0 ∷ 100 ∷ []) ∷ []) (None ∷ None ∷ None ∷ []) StageTransfer
    ∷ sends (Passes 0) ((2, block_get) ∷ (3, block_get) ∷ []) ((2 ∷ 0 ∷ 0 ∷ 0 ∷ []) ∷ (2 ∷ 0 ∷ 0 ∷ 0 ∷ []) ∷ (2 ∷ 0 ∷ 0 ∷ 100 ∷ []) ∷ []) (None ∷ None ∷ None ∷ []) StageTransfer
    ∷ quiet (Says 0 2 (0x67 ∷ 0xc0 ∷ 0 ∷ 0 ∷ 0x64 ∷ 0 ∷ 3 ∷ [])) ((2 ∷ 0 ∷ 0 ∷ 0 ∷ []) ∷ (2 ∷ 0 ∷ 0 ∷ 0 ∷ []) ∷ (2 ∷ 0 ∷ 0 ∷ 100 ∷ []) ∷ []) (None ∷ None ∷ None ∷ []) StageTransfer
    ∷ quiet (Says 0 3 (0x67 ∷ 0x40 ∷ 0 ∷ 0 ∷ 0x64 ∷ 0 ∷ [])) ((2 ∷ 0 ∷ 0 ∷ 0 ∷ []) ∷ (2 ∷ 0 ∷ 0 ∷ 100 ∷ []) ∷ (2 ∷ 0 ∷ 0 ∷ 100 ∷ []) ∷ []) (None ∷ None ∷ None ∷ []) StageTransfer
    ∷ sends (Passes 0) ((0xc000, 0x66 ∷ 3 ∷ 0 ∷ replicate 100 0x61) ∷ []) ((2 ∷ 0 ∷ 0 ∷ 0 ∷ []) ∷ (2 ∷ 0 ∷ 0 ∷ 100 ∷ []) ∷ (2 ∷ 0 ∷ 0 ∷ 100 ∷ []) ∷ []) (None ∷ None ∷ None ∷ []) StageTransfer
    ∷ sends (Passes 0) ((2, block_get) ∷ []) ((2 ∷ 0 ∷ 0 ∷ 0 ∷ []) ∷ (2 ∷ 0 ∷ 0 ∷ 100 ∷ []) ∷ (2 ∷ 0 ∷ 0 ∷ 100 ∷ []) ∷ []) (None ∷ None ∷ None ∷ []) StageTransfer
    ∷ quiet (Says 0 2 (0x67 ∷ 0x40 ∷ 0 ∷ 0 ∷ 0x64 ∷ 0 ∷ [])) ((2 ∷ 0 ∷ 0 ∷ 100 ∷ []) ∷ (2 ∷ 0 ∷ 0 ∷ 100 ∷ []) ∷ (2 ∷ 0 ∷ 0 ∷ 100 ∷ []) ∷ []) (None ∷ None ∷ None ∷ []) StageTransfer
    ∷ sends (Passes 0) ((2, update_get) ∷ (3, update_get) ∷ (4, update_get) ∷ []) ((2 ∷ 0 ∷ 0 ∷ 100 ∷ []) ∷ (2 ∷ 0 ∷ 0 ∷ 100 ∷ []) ∷ (2 ∷ 0 ∷ 0 ∷ 100 ∷ []) ∷ []) (None ∷ None ∷ None ∷ []) StageTransfer
    ∷ []

-- without a group each gets what it misses, chunk by chunk
abbrev pub ungrouped : List Turn
ungrouped =
    sends (Passes 0) ((2, check_of 400) ∷ (3, check_of 400) ∷ []) ((10 ∷ 0 ∷ 0 ∷ 0 ∷ []) ∷ (10 ∷ 0 ∷ 0 ∷ 0 ∷ []) ∷ []) (None ∷ None ∷ []) StageTransfer
    ∷ quiet (Says 0 2 (metadata_status 0)) ((10 ∷ 0 ∷ 0 ∷ 0 ∷ []) ∷ (10 ∷ 0 ∷ 0 ∷ 0 ∷ []) ∷ []) (None ∷ None ∷ []) StageTransfer
    ∷ quiet (Says 0 3 (metadata_status 0)) ((10 ∷ 0 ∷ 0 ∷ 0 ∷ []) ∷ (10 ∷ 0 ∷ 0 ∷ 0 ∷ []) ∷ []) (None ∷ None ∷ []) StageTransfer
    ∷ sends (Passes 0) ((2, start_of 400) ∷ (3, start_of 400) ∷ []) ((10 ∷ 0 ∷ 0 ∷ 0 ∷ []) ∷ (10 ∷ 0 ∷ 0 ∷ 0 ∷ []) ∷ []) (None ∷ None ∷ []) StageTransfer
    ∷ quiet (Says 0 2 (update_status 0x40 7)) ((2 ∷ 0 ∷ 0 ∷ 0 ∷ []) ∷ (10 ∷ 0 ∷ 0 ∷ 0 ∷ []) ∷ []) (None ∷ None ∷ []) StageTransfer
    ∷ quiet (Says 0 3 (update_status 0x40 7)) ((2 ∷ 0 ∷ 0 ∷ 0 ∷ []) ∷ (2 ∷ 0 ∷ 0 ∷ 0 ∷ []) ∷ []) (None ∷ None ∷ []) StageTransfer
    ∷ sends (Passes 0) ((2, blob_information_get) ∷ (3, blob_information_get) ∷ []) ((2 ∷ 0 ∷ 0 ∷ 0 ∷ []) ∷ (2 ∷ 0 ∷ 0 ∷ 0 ∷ []) ∷ []) (None ∷ None ∷ []) StageTransfer
    ∷ quiet (Says 0 2 (limits 12 14 2048 376 65535 380 3)) ((2 ∷ 0 ∷ 0 ∷ 0 ∷ []) ∷ (2 ∷ 0 ∷ 0 ∷ 0 ∷ []) ∷ []) (None ∷ None ∷ []) StageTransfer
    ∷ quiet (Says 0 3 (limits 12 14 2048 376 65535 380 3)) ((2 ∷ 0 ∷ 0 ∷ 0 ∷ []) ∷ (2 ∷ 0 ∷ 0 ∷ 0 ∷ []) ∷ []) (None ∷ None ∷ []) StageTransfer
    ∷ sends (Passes 0) ((2, transfer_of 0x40 400) ∷ (3, transfer_of 0x40 400) ∷ []) ((2 ∷ 0 ∷ 0 ∷ 0 ∷ []) ∷ (2 ∷ 0 ∷ 0 ∷ 0 ∷ []) ∷ []) (None ∷ None ∷ []) StageTransfer
    ∷ quiet (Says 0 2 (0x83 ∷ 3 ∷ 0x40 ∷ 2 ∷ 7 ∷ 0 ∷ 0 ∷ 0 ∷ 0 ∷ 0 ∷ 1 ∷ 0 ∷ 0x90 ∷ 1 ∷ 0 ∷ 0 ∷ 0xc ∷ 0x7c ∷ 1 ∷ 1 ∷ [])) ((2 ∷ 0 ∷ 0 ∷ 0 ∷ []) ∷ (2 ∷ 0 ∷ 0 ∷ 0 ∷ []) ∷ []) (None ∷ None ∷ []) StageTransfer
    ∷ quiet (Says 0 3 (0x83 ∷ 3 ∷ 0x40 ∷ 2 ∷ 7 ∷ 0 ∷ 0 ∷ 0 ∷ 0 ∷ 0 ∷ 1 ∷ 0 ∷ 0x90 ∷ 1 ∷ 0 ∷ 0 ∷ 0xc ∷ 0x7c ∷ 1 ∷ 1 ∷ [])) ((2 ∷ 0 ∷ 0 ∷ 0 ∷ []) ∷ (2 ∷ 0 ∷ 0 ∷ 0 ∷ []) ∷ []) (None ∷ None ∷ []) StageTransfer
    ∷ sends (Passes 0) ((2, 0x83 ∷ 4 ∷ 0 ∷ 0 ∷ 0x64 ∷ 0 ∷ []) ∷ (3, 0x83 ∷ 4 ∷ 0 ∷ 0 ∷ 0x64 ∷ 0 ∷ []) ∷ []) ((2 ∷ 0 ∷ 0 ∷ 0 ∷ []) ∷ (2 ∷ 0 ∷ 0 ∷ 0 ∷ []) ∷ []) (None ∷ None ∷ []) StageTransfer
    ∷ quiet (Says 0 2 (0x67 ∷ 0xc0 ∷ 0 ∷ 0 ∷ 0x64 ∷ 0 ∷ 2 ∷ 0 ∷ [])) ((2 ∷ 0 ∷ 0 ∷ 0 ∷ []) ∷ (2 ∷ 0 ∷ 0 ∷ 0 ∷ []) ∷ []) (None ∷ None ∷ []) StageTransfer
    ∷ quiet (Says 0 3 (0x67 ∷ 0xc0 ∷ 0 ∷ 0 ∷ 0x64 ∷ 0 ∷ 2 ∷ [])) ((2 ∷ 0 ∷ 0 ∷ 0 ∷ []) ∷ (2 ∷ 0 ∷ 0 ∷ 0 ∷ []) ∷ []) (None ∷ None ∷ []) StageTransfer
    ∷ sends (Passes 0) ((2, 0x66 ∷ 0 ∷ 0 ∷ replicate 100 0x61) ∷ (2, 0x66 ∷ 2 ∷ 0 ∷ replicate 100 0x61) ∷ (3, 0x66 ∷ 2 ∷ 0 ∷ replicate 100 0x61) ∷ []) ((2 ∷ 0 ∷ 0 ∷ 0 ∷ []) ∷ (2 ∷ 0 ∷ 0 ∷ 0 ∷ []) ∷ []) (None ∷ None ∷ []) StageTransfer
    ∷ sends (Passes 0) ((2, block_get) ∷ (3, block_get) ∷ []) ((2 ∷ 0 ∷ 0 ∷ 0 ∷ []) ∷ (2 ∷ 0 ∷ 0 ∷ 0 ∷ []) ∷ []) (None ∷ None ∷ []) StageTransfer
    ∷ quiet (Says 0 3 (0x67 ∷ 0x40 ∷ 0 ∷ 0 ∷ 0x64 ∷ 0 ∷ [])) ((2 ∷ 0 ∷ 0 ∷ 0 ∷ []) ∷ (2 ∷ 0 ∷ 0 ∷ 100 ∷ []) ∷ []) (None ∷ None ∷ []) StageTransfer
    ∷ quiet (Says 0 2 (0x67 ∷ 0xc0 ∷ 0 ∷ 0 ∷ 0x64 ∷ 0 ∷ 0 ∷ [])) ((2 ∷ 0 ∷ 0 ∷ 0 ∷ []) ∷ (2 ∷ 0 ∷ 0 ∷ 100 ∷ []) ∷ []) (None ∷ None ∷ []) StageTransfer
    ∷ sends (Passes 0) ((2, 0x66 ∷ 0 ∷ 0 ∷ replicate 100 0x61) ∷ []) ((2 ∷ 0 ∷ 0 ∷ 0 ∷ []) ∷ (2 ∷ 0 ∷ 0 ∷ 100 ∷ []) ∷ []) (None ∷ None ∷ []) StageTransfer
    ∷ []

-- the least block that is missed, of those that miss it; progress is the per cent of blocks held
abbrev pub two_blocks : List Turn
two_blocks =
    sends (Passes 0) ((2, check_of 4104) ∷ (3, check_of 4104) ∷ []) ((10 ∷ 0 ∷ 0 ∷ 0 ∷ []) ∷ (10 ∷ 0 ∷ 0 ∷ 0 ∷ []) ∷ []) (None ∷ None ∷ []) StageTransfer
    ∷ quiet (Says 0 2 (metadata_status 0)) ((10 ∷ 0 ∷ 0 ∷ 0 ∷ []) ∷ (10 ∷ 0 ∷ 0 ∷ 0 ∷ []) ∷ []) (None ∷ None ∷ []) StageTransfer
    ∷ quiet (Says 0 3 (metadata_status 0)) ((10 ∷ 0 ∷ 0 ∷ 0 ∷ []) ∷ (10 ∷ 0 ∷ 0 ∷ 0 ∷ []) ∷ []) (None ∷ None ∷ []) StageTransfer
    ∷ sends (Passes 0) ((2, start_of 4104) ∷ (3, start_of 4104) ∷ []) ((10 ∷ 0 ∷ 0 ∷ 0 ∷ []) ∷ (10 ∷ 0 ∷ 0 ∷ 0 ∷ []) ∷ []) (None ∷ None ∷ []) StageTransfer
    ∷ quiet (Says 0 2 (update_status 0x40 7)) ((2 ∷ 0 ∷ 0 ∷ 0 ∷ []) ∷ (10 ∷ 0 ∷ 0 ∷ 0 ∷ []) ∷ []) (None ∷ None ∷ []) StageTransfer
    ∷ quiet (Says 0 3 (update_status 0x40 7)) ((2 ∷ 0 ∷ 0 ∷ 0 ∷ []) ∷ (2 ∷ 0 ∷ 0 ∷ 0 ∷ []) ∷ []) (None ∷ None ∷ []) StageTransfer
    ∷ sends (Passes 0) ((2, blob_information_get) ∷ (3, blob_information_get) ∷ []) ((2 ∷ 0 ∷ 0 ∷ 0 ∷ []) ∷ (2 ∷ 0 ∷ 0 ∷ 0 ∷ []) ∷ []) (None ∷ None ∷ []) StageTransfer
    ∷ quiet (Says 0 2 (limits 12 14 2048 376 65535 380 3)) ((2 ∷ 0 ∷ 0 ∷ 0 ∷ []) ∷ (2 ∷ 0 ∷ 0 ∷ 0 ∷ []) ∷ []) (None ∷ None ∷ []) StageTransfer
    ∷ quiet (Says 0 3 (limits 12 14 2048 376 65535 380 3)) ((2 ∷ 0 ∷ 0 ∷ 0 ∷ []) ∷ (2 ∷ 0 ∷ 0 ∷ 0 ∷ []) ∷ []) (None ∷ None ∷ []) StageTransfer
    ∷ sends (Passes 0) ((2, transfer_of 0x40 4104) ∷ (3, transfer_of 0x40 4104) ∷ []) ((2 ∷ 0 ∷ 0 ∷ 0 ∷ []) ∷ (2 ∷ 0 ∷ 0 ∷ 0 ∷ []) ∷ []) (None ∷ None ∷ []) StageTransfer
    ∷ quiet (Says 0 2 (0x83 ∷ 3 ∷ 0x40 ∷ 2 ∷ 7 ∷ 0 ∷ 0 ∷ 0 ∷ 0 ∷ 0 ∷ 1 ∷ 0 ∷ 8 ∷ 0x10 ∷ 0 ∷ 0 ∷ 0xc ∷ 0x7c ∷ 1 ∷ 3 ∷ [])) ((2 ∷ 0 ∷ 0 ∷ 0 ∷ []) ∷ (2 ∷ 0 ∷ 0 ∷ 0 ∷ []) ∷ []) (None ∷ None ∷ []) StageTransfer
    ∷ quiet (Says 0 3 (0x83 ∷ 3 ∷ 0x40 ∷ 2 ∷ 7 ∷ 0 ∷ 0 ∷ 0 ∷ 0 ∷ 0 ∷ 1 ∷ 0 ∷ 8 ∷ 0x10 ∷ 0 ∷ 0 ∷ 0xc ∷ 0x7c ∷ 1 ∷ 2 ∷ [])) ((2 ∷ 0 ∷ 0 ∷ 0 ∷ []) ∷ (2 ∷ 0 ∷ 0 ∷ 50 ∷ []) ∷ []) (None ∷ None ∷ []) StageTransfer
    ∷ sends (Passes 0) ((2, 0x83 ∷ 4 ∷ 0 ∷ 0 ∷ 0x78 ∷ 1 ∷ []) ∷ []) ((2 ∷ 0 ∷ 0 ∷ 0 ∷ []) ∷ (2 ∷ 0 ∷ 0 ∷ 50 ∷ []) ∷ []) (None ∷ None ∷ []) StageTransfer
    ∷ quiet (Says 0 2 (0x67 ∷ 0x40 ∷ 0 ∷ 0 ∷ 0x78 ∷ 1 ∷ [])) ((2 ∷ 0 ∷ 0 ∷ 50 ∷ []) ∷ (2 ∷ 0 ∷ 0 ∷ 50 ∷ []) ∷ []) (None ∷ None ∷ []) StageTransfer
    ∷ sends (Passes 0) ((2, 0x83 ∷ 4 ∷ 1 ∷ 0 ∷ 0x78 ∷ 1 ∷ []) ∷ (3, 0x83 ∷ 4 ∷ 1 ∷ 0 ∷ 0x78 ∷ 1 ∷ []) ∷ []) ((2 ∷ 0 ∷ 0 ∷ 50 ∷ []) ∷ (2 ∷ 0 ∷ 0 ∷ 50 ∷ []) ∷ []) (None ∷ None ∷ []) StageTransfer
    ∷ quiet (Says 0 2 (0x67 ∷ 0 ∷ 1 ∷ 0 ∷ 0x78 ∷ 1 ∷ [])) ((2 ∷ 0 ∷ 0 ∷ 50 ∷ []) ∷ (2 ∷ 0 ∷ 0 ∷ 50 ∷ []) ∷ []) (None ∷ None ∷ []) StageTransfer
    ∷ quiet (Says 0 3 (0x67 ∷ 0x40 ∷ 1 ∷ 0 ∷ 0x78 ∷ 1 ∷ [])) ((2 ∷ 0 ∷ 0 ∷ 50 ∷ []) ∷ (2 ∷ 0 ∷ 0 ∷ 100 ∷ []) ∷ []) (None ∷ None ∷ []) StageTransfer
    ∷ sends (Passes 0) ((2, 0x66 ∷ 0 ∷ 0 ∷ 0x61 ∷ 0x61 ∷ 0x61 ∷ 0x61 ∷ 0x61 ∷ 0x61 ∷ 0x61 ∷ 0x61 ∷ []) ∷ []) ((2 ∷ 0 ∷ 0 ∷ 50 ∷ []) ∷ (2 ∷ 0 ∷ 0 ∷ 100 ∷ []) ∷ []) (None ∷ None ∷ []) StageTransfer
    ∷ sends (Passes 0) ((2, block_get) ∷ []) ((2 ∷ 0 ∷ 0 ∷ 50 ∷ []) ∷ (2 ∷ 0 ∷ 0 ∷ 100 ∷ []) ∷ []) (None ∷ None ∷ []) StageTransfer
    ∷ quiet (Says 0 2 (0x67 ∷ 0x40 ∷ 1 ∷ 0 ∷ 0x78 ∷ 1 ∷ [])) ((2 ∷ 0 ∷ 0 ∷ 100 ∷ []) ∷ (2 ∷ 0 ∷ 0 ∷ 100 ∷ []) ∷ []) (None ∷ None ∷ []) StageTransfer
    ∷ sends (Passes 0) ((2, update_get) ∷ (3, update_get) ∷ []) ((2 ∷ 0 ∷ 0 ∷ 100 ∷ []) ∷ (2 ∷ 0 ∷ 0 ∷ 100 ∷ []) ∷ []) (None ∷ None ∷ []) StageTransfer
    ∷ []

-- the fifth fruitless answer in a row drops; one with fewer chunks begins anew
abbrev pub barren : List Turn
barren =
    sends (Passes 0) ((2, check_of 400) ∷ []) ((10 ∷ 0 ∷ 0 ∷ 0 ∷ []) ∷ []) (None ∷ []) StageTransfer
    ∷ quiet (Says 0 2 (metadata_status 0)) ((10 ∷ 0 ∷ 0 ∷ 0 ∷ []) ∷ []) (None ∷ []) StageTransfer
    ∷ sends (Passes 0) ((2, start_of 400) ∷ []) ((10 ∷ 0 ∷ 0 ∷ 0 ∷ []) ∷ []) (None ∷ []) StageTransfer
    ∷ quiet (Says 0 2 (update_status 0x40 7)) ((2 ∷ 0 ∷ 0 ∷ 0 ∷ []) ∷ []) (None ∷ []) StageTransfer
    ∷ sends (Passes 0) ((2, blob_information_get) ∷ []) ((2 ∷ 0 ∷ 0 ∷ 0 ∷ []) ∷ []) (None ∷ []) StageTransfer
    ∷ quiet (Says 0 2 (limits 12 14 2048 376 65535 380 3)) ((2 ∷ 0 ∷ 0 ∷ 0 ∷ []) ∷ []) (None ∷ []) StageTransfer
    ∷ sends (Passes 0) ((2, transfer_of 0x40 400) ∷ []) ((2 ∷ 0 ∷ 0 ∷ 0 ∷ []) ∷ []) (None ∷ []) StageTransfer
    ∷ quiet (Says 0 2 (0x83 ∷ 3 ∷ 0x40 ∷ 2 ∷ 7 ∷ 0 ∷ 0 ∷ 0 ∷ 0 ∷ 0 ∷ 1 ∷ 0 ∷ 0x90 ∷ 1 ∷ 0 ∷ 0 ∷ 0xc ∷ 0x7c ∷ 1 ∷ 1 ∷ [])) ((2 ∷ 0 ∷ 0 ∷ 0 ∷ []) ∷ []) (None ∷ []) StageTransfer
    ∷ sends (Passes 0) ((2, 0x83 ∷ 4 ∷ 0 ∷ 0 ∷ 0x64 ∷ 0 ∷ []) ∷ []) ((2 ∷ 0 ∷ 0 ∷ 0 ∷ []) ∷ []) (None ∷ []) StageTransfer
    ∷ quiet (Says 0 2 (0x67 ∷ 0 ∷ 0 ∷ 0 ∷ 0x64 ∷ 0 ∷ [])) ((2 ∷ 0 ∷ 0 ∷ 0 ∷ []) ∷ []) (None ∷ []) StageTransfer
    ∷ sends (Passes 0) ((2, 0x66 ∷ 0 ∷ 0 ∷ replicate 100 0x61) ∷ (2, 0x66 ∷ 1 ∷ 0 ∷ replicate 100 0x61) ∷ (2, 0x66 ∷ 2 ∷ 0 ∷ replicate 100 0x61) ∷ (2, 0x66 ∷ 3 ∷ 0 ∷ replicate 100 0x61) ∷ []) ((2 ∷ 0 ∷ 0 ∷ 0 ∷ []) ∷ []) (None ∷ []) StageTransfer
    ∷ sends (Passes 0) ((2, block_get) ∷ []) ((2 ∷ 0 ∷ 0 ∷ 0 ∷ []) ∷ []) (None ∷ []) StageTransfer
    ∷ quiet (Says 0 2 (0x67 ∷ 0 ∷ 0 ∷ 0 ∷ 0x64 ∷ 0 ∷ [])) ((2 ∷ 0 ∷ 0 ∷ 0 ∷ []) ∷ []) (None ∷ []) StageTransfer
    ∷ sends (Passes 0) ((2, 0x66 ∷ 0 ∷ 0 ∷ replicate 100 0x61) ∷ (2, 0x66 ∷ 1 ∷ 0 ∷ replicate 100 0x61) ∷ (2, 0x66 ∷ 2 ∷ 0 ∷ replicate 100 0x61) ∷ (2, 0x66 ∷ 3 ∷ 0 ∷ replicate 100 0x61) ∷ []) ((2 ∷ 0 ∷ 0 ∷ 0 ∷ []) ∷ []) (None ∷ []) StageTransfer
    ∷ sends (Passes 0) ((2, block_get) ∷ []) ((2 ∷ 0 ∷ 0 ∷ 0 ∷ []) ∷ []) (None ∷ []) StageTransfer
    ∷ quiet (Says 0 2 (0x67 ∷ 0 ∷ 0 ∷ 0 ∷ 0x64 ∷ 0 ∷ [])) ((2 ∷ 0 ∷ 0 ∷ 0 ∷ []) ∷ []) (None ∷ []) StageTransfer
    ∷ sends (Passes 0) ((2, 0x66 ∷ 0 ∷ 0 ∷ replicate 100 0x61) ∷ (2, 0x66 ∷ 1 ∷ 0 ∷ replicate 100 0x61) ∷ (2, 0x66 ∷ 2 ∷ 0 ∷ replicate 100 0x61) ∷ (2, 0x66 ∷ 3 ∷ 0 ∷ replicate 100 0x61) ∷ []) ((2 ∷ 0 ∷ 0 ∷ 0 ∷ []) ∷ []) (None ∷ []) StageTransfer
    ∷ sends (Passes 0) ((2, block_get) ∷ []) ((2 ∷ 0 ∷ 0 ∷ 0 ∷ []) ∷ []) (None ∷ []) StageTransfer
    ∷ quiet (Says 0 2 (0x67 ∷ 0 ∷ 0 ∷ 0 ∷ 0x64 ∷ 0 ∷ [])) ((2 ∷ 0 ∷ 0 ∷ 0 ∷ []) ∷ []) (None ∷ []) StageTransfer
    ∷ sends (Passes 0) ((2, 0x66 ∷ 0 ∷ 0 ∷ replicate 100 0x61) ∷ (2, 0x66 ∷ 1 ∷ 0 ∷ replicate 100 0x61) ∷ (2, 0x66 ∷ 2 ∷ 0 ∷ replicate 100 0x61) ∷ (2, 0x66 ∷ 3 ∷ 0 ∷ replicate 100 0x61) ∷ []) ((2 ∷ 0 ∷ 0 ∷ 0 ∷ []) ∷ []) (None ∷ []) StageTransfer
    ∷ sends (Passes 0) ((2, block_get) ∷ []) ((2 ∷ 0 ∷ 0 ∷ 0 ∷ []) ∷ []) (None ∷ []) StageTransfer
    ∷ quiet (Says 0 2 (0x67 ∷ 0 ∷ 0 ∷ 0 ∷ 0x64 ∷ 0 ∷ [])) ((2 ∷ 0 ∷ 0 ∷ 0 ∷ []) ∷ []) (None ∷ []) StageTransfer
    ∷ sends (Passes 0) ((2, 0x66 ∷ 0 ∷ 0 ∷ replicate 100 0x61) ∷ (2, 0x66 ∷ 1 ∷ 0 ∷ replicate 100 0x61) ∷ (2, 0x66 ∷ 2 ∷ 0 ∷ replicate 100 0x61) ∷ (2, 0x66 ∷ 3 ∷ 0 ∷ replicate 100 0x61) ∷ []) ((2 ∷ 0 ∷ 0 ∷ 0 ∷ []) ∷ []) (None ∷ []) StageTransfer
    ∷ sends (Passes 0) ((2, block_get) ∷ []) ((2 ∷ 0 ∷ 0 ∷ 0 ∷ []) ∷ []) (None ∷ []) StageTransfer
    ∷ quiet (Says 0 2 (0x67 ∷ 0xc0 ∷ 0 ∷ 0 ∷ 0x64 ∷ 0 ∷ 2 ∷ 1 ∷ 0 ∷ [])) ((2 ∷ 0 ∷ 0 ∷ 0 ∷ []) ∷ []) (None ∷ []) StageTransfer
    ∷ sends (Passes 0) ((2, 0x66 ∷ 0 ∷ 0 ∷ replicate 100 0x61) ∷ (2, 0x66 ∷ 1 ∷ 0 ∷ replicate 100 0x61) ∷ (2, 0x66 ∷ 2 ∷ 0 ∷ replicate 100 0x61) ∷ []) ((2 ∷ 0 ∷ 0 ∷ 0 ∷ []) ∷ []) (None ∷ []) StageTransfer
    ∷ sends (Passes 0) ((2, block_get) ∷ []) ((2 ∷ 0 ∷ 0 ∷ 0 ∷ []) ∷ []) (None ∷ []) StageTransfer
    ∷ quiet (Says 0 2 (0x67 ∷ 0xc0 ∷ 0 ∷ 0 ∷ 0x64 ∷ 0 ∷ 2 ∷ 1 ∷ 0 ∷ [])) ((2 ∷ 0 ∷ 0 ∷ 0 ∷ []) ∷ []) (None ∷ []) StageTransfer
    ∷ sends (Passes 0) ((2, 0x66 ∷ 0 ∷ 0 ∷ replicate 100 0x61) ∷ (2, 0x66 ∷ 1 ∷ 0 ∷ replicate 100 0x61) ∷ (2, 0x66 ∷ 2 ∷ 0 ∷ replicate 100 0x61) ∷ []) ((2 ∷ 0 ∷ 0 ∷ 0 ∷ []) ∷ []) (None ∷ []) StageTransfer
    ∷ sends (Passes 0) ((2, block_get) ∷ []) ((2 ∷ 0 ∷ 0 ∷ 0 ∷ []) ∷ []) (None ∷ []) StageTransfer
    ∷ quiet (Says 0 2 (0x67 ∷ 0xc0 ∷ 0 ∷ 0 ∷ 0x64 ∷ 0 ∷ 2 ∷ 1 ∷ 0 ∷ [])) ((2 ∷ 0 ∷ 0 ∷ 0 ∷ []) ∷ []) (None ∷ []) StageTransfer
    ∷ sends (Passes 0) ((2, 0x66 ∷ 0 ∷ 0 ∷ replicate 100 0x61) ∷ (2, 0x66 ∷ 1 ∷ 0 ∷ replicate 100 0x61) ∷ (2, 0x66 ∷ 2 ∷ 0 ∷ replicate 100 0x61) ∷ []) ((2 ∷ 0 ∷ 0 ∷ 0 ∷ []) ∷ []) (None ∷ []) StageTransfer
    ∷ sends (Passes 0) ((2, block_get) ∷ []) ((2 ∷ 0 ∷ 0 ∷ 0 ∷ []) ∷ []) (None ∷ []) StageTransfer
    ∷ quiet (Says 0 2 (0x67 ∷ 0xc0 ∷ 0 ∷ 0 ∷ 0x64 ∷ 0 ∷ 2 ∷ 1 ∷ 0 ∷ [])) ((2 ∷ 0 ∷ 0 ∷ 0 ∷ []) ∷ []) (None ∷ []) StageTransfer
    ∷ sends (Passes 0) ((2, 0x66 ∷ 0 ∷ 0 ∷ replicate 100 0x61) ∷ (2, 0x66 ∷ 1 ∷ 0 ∷ replicate 100 0x61) ∷ (2, 0x66 ∷ 2 ∷ 0 ∷ replicate 100 0x61) ∷ []) ((2 ∷ 0 ∷ 0 ∷ 0 ∷ []) ∷ []) (None ∷ []) StageTransfer
    ∷ sends (Passes 0) ((2, block_get) ∷ []) ((2 ∷ 0 ∷ 0 ∷ 0 ∷ []) ∷ []) (None ∷ []) StageTransfer
    ∷ quiet (Says 0 2 (0x67 ∷ 0xc0 ∷ 0 ∷ 0 ∷ 0x64 ∷ 0 ∷ 3 ∷ 2 ∷ 1 ∷ [])) ((2 ∷ 0 ∷ 0 ∷ 0 ∷ []) ∷ []) (None ∷ []) StageTransfer
    ∷ sends (Passes 0) ((2, 0x66 ∷ 1 ∷ 0 ∷ replicate 100 0x61) ∷ (2, 0x66 ∷ 2 ∷ 0 ∷ replicate 100 0x61) ∷ (2, 0x66 ∷ 3 ∷ 0 ∷ replicate 100 0x61) ∷ []) ((2 ∷ 0 ∷ 0 ∷ 0 ∷ []) ∷ []) (None ∷ []) StageTransfer
    ∷ sends (Passes 0) ((2, block_get) ∷ []) ((2 ∷ 0 ∷ 0 ∷ 0 ∷ []) ∷ []) (None ∷ []) StageTransfer
    ∷ quiet (Says 0 2 (0x67 ∷ 0xc0 ∷ 0 ∷ 0 ∷ 0x64 ∷ 0 ∷ 3 ∷ 2 ∷ 1 ∷ [])) ((2 ∷ 0 ∷ 0 ∷ 0 ∷ []) ∷ []) (Some Barren ∷ []) StageTransfer
    ∷ quiet (Passes 0) ((2 ∷ 0 ∷ 0 ∷ 0 ∷ []) ∷ []) (Some Barren ∷ []) StageEnded
    ∷ quiet (Passes 0) ((2 ∷ 0 ∷ 0 ∷ 0 ∷ []) ∷ []) (Some Barren ∷ []) StageEnded
    ∷ []
