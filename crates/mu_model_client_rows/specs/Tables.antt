-- Each table at its step, evaluated as one.
use Rattle.std.specs.Prelude.{List, [], ◌∷◌, ◌++◌}
use Rattle.mu_model_client_rows.specs.Scenes.{metadata_status, update_status, limits, Comes, Says, Passes, TakesCancel, Answers, after, client, image}
use Rattle.mu_model_client_rows.specs.TablesOfTransfer.{in_check, in_start, in_information, in_transfer, in_block}
use Rattle.mu_model_client_rows.specs.TablesOfRest.{in_get, in_pull, in_verify, in_apply, in_confirm, in_cancel}

-- ---- up to each step's first time event

abbrev pub to_check : List Comes
to_check = Passes 0 ∷ []

abbrev pub to_start : List Comes
to_start = to_check ++ Says 0 2 (metadata_status 0) ∷ Passes 0 ∷ []

abbrev pub to_information : List Comes
to_information = to_start ++ Says 0 2 (update_status 0x40 7) ∷ Passes 0 ∷ []

abbrev pub to_transfer : List Comes
to_transfer = to_information ++ Says 0 2 (limits 12 14 2048 376 4096 380 3) ∷ Passes 0 ∷ []

abbrev pub to_block : List Comes
to_block = to_transfer ++ Says 0 2 (0x83 ∷ 3 ∷ 0x40 ∷ 2 ∷ 7 ∷ 0 ∷ 0 ∷ 0 ∷ 0 ∷ 0 ∷ 1 ∷ 0 ∷ 3 ∷ 0 ∷ 0 ∷ 0 ∷ 0xc ∷ 0x7c ∷ 1 ∷ 1 ∷ []) ∷ Passes 0 ∷ []

abbrev pub to_chunks : List Comes
to_chunks = to_block ++ Says 0 2 (0x67 ∷ 0 ∷ 0 ∷ 0 ∷ 0xc8 ∷ 0 ∷ []) ∷ Passes 0 ∷ []

abbrev pub to_get : List Comes
to_get = to_chunks ++ Passes 0 ∷ []

abbrev pub to_verify : List Comes
to_verify = to_get ++ Says 0 2 (0x67 ∷ 0x40 ∷ 0 ∷ 0 ∷ 0xc8 ∷ 0 ∷ []) ∷ Passes 0 ∷ []

abbrev pub to_apply : List Comes
to_apply = to_verify ++ Says 0 2 (update_status 0x80 7) ∷ Passes 0 ∷ []

abbrev pub to_confirm : List Comes
to_confirm = to_apply ++ Says 0 2 (update_status 0xc0 7) ∷ Passes 0 ∷ []

-- in pull
abbrev pub to_pull : List Comes
to_pull = to_transfer ++ Says 0 2 (0x83 ∷ 3 ∷ 0x80 ∷ 2 ∷ 7 ∷ 0 ∷ 0 ∷ 0 ∷ 0 ∷ 0 ∷ 1 ∷ 0 ∷ 3 ∷ 0 ∷ 0 ∷ 0 ∷ 0xc ∷ 0x7c ∷ 1 ∷ 1 ∷ []) ∷ Passes 0 ∷ Says 0 2 (0x67 ∷ 0 ∷ 0 ∷ 0 ∷ 0xc8 ∷ 0 ∷ []) ∷ Passes 0 ∷ []

abbrev pub to_cancel : List Comes
to_cancel = to_transfer ++ TakesCancel ∷ Passes 0 ∷ []

-- what each answer does in each step
pub record EachAnswer : Type 0 where
  pub in_check : Answers image (after image (client 1) to_check) in_check
  pub in_start : Answers image (after image (client 1) to_start) in_start
  pub in_information : Answers image (after image (client 1) to_information) in_information
  pub in_transfer : Answers image (after image (client 1) to_transfer) in_transfer
  pub in_block : Answers image (after image (client 1) to_block) in_block
  pub in_get : Answers image (after image (client 1) to_get) in_get
  pub in_pull : Answers image (after image (client 2) to_pull) in_pull
  pub in_verify : Answers image (after image (client 1) to_verify) in_verify
  pub in_apply : Answers image (after image (client 1) to_apply) in_apply
  pub in_confirm : Answers image (after image (client 1) to_confirm) in_confirm
  pub in_cancel : Answers image (after image (client 1) to_cancel) in_cancel
