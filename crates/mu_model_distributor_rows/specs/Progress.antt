-- The progress of an upload: the per cent of blocks held, rounded down.
use Rattle.std.specs.Prelude.{ℕ, ◌≡◌, [], ◌∷◌, Some, None, map}
use Rattle.mu_model_node.specs.BlobServer.{Transfer}
use Rattle.mu_model_node.specs.Slots.{Slots}
use Rattle.mu_model_client.specs.Rows.{new_row}
use Rattle.mu_model_distributor.specs.Receivers.{rounded}
use Rattle.mu_model_distributor.specs.Uploads.{transfer_progress}

-- an upload of three blocks
abbrev pub with_held : Slots → Transfer
with_held held = record { id = 7; size = 10000; base = 0; parameters = Some (record { mode = 1; size = 10000; log = 12; mtu = 380 }); held = held }

abbrev pub unbegun : Transfer
unbegun = record { id = 7; size = 10000; base = 0; parameters = None; held = [] }

abbrev pub told : (progress : ℕ) → ℕ
told progress = (rounded (record (new_row 2 0) { progress = progress })).progress

pub record EachProgress : Type 0 where
  pub without : transfer_progress unbegun ≡ 0
  pub none : transfer_progress (with_held (None ∷ None ∷ None ∷ [])) ≡ 0
  pub one : transfer_progress (with_held (None ∷ Some [] ∷ None ∷ [])) ≡ 33
  pub two : transfer_progress (with_held (Some [] ∷ None ∷ Some [] ∷ [])) ≡ 66
  pub all : transfer_progress (with_held (Some [] ∷ Some [] ∷ Some [] ∷ [])) ≡ 100
  -- a receiver's is told as an even number
  pub even : map told (0 ∷ 1 ∷ 33 ∷ 66 ∷ 99 ∷ 100 ∷ []) ≡ 0 ∷ 0 ∷ 32 ∷ 66 ∷ 98 ∷ 100 ∷ []
