-- What each Update Status and each Information Status makes of a row's phase, by rank: 10 and 0, then 1 and 2, 3, 4 and 5, 6, and
-- last 7, 8 and 9.
use Rattle.std.specs.Prelude.{ℕ, ◌≡◌, ◌*◌, List, [], ◌∷◌, map}
use Rattle.mu_model_client.specs.declared.Stage.TheVariants.{Ended as StageEnded}
use Rattle.mu_model_client.specs.Begin.{resume}
use Rattle.mu_model_client.specs.Client.{Client, rows}
use Rattle.mu_model_client_rows.specs.Scenes.{Says, TakesCancel, step_by, image, plan, update_status, no_job_status, shown_image}

abbrev pub resting : (phase : ℕ) → Client
resting phase = resume (plan 1) (record { address = 2; index = 0; phase = phase; update_status = 0; transfer_status = 0; progress = 0 } ∷ []) StageEnded

abbrev pub phases_after : List ℕ → (phase : ℕ) → List ℕ
phases_after payload phase = map (λ row. row.phase) (rows (step_by image (resting phase) (Says 0 2 payload)).next)

-- for each phase that a row may have, what it is after each phase that a node reports
abbrev pub reported : List (List (List ℕ))
reported =
    map (λ phase. map (λ told. phases_after (update_status (32 * told) 7) phase) (1 ∷ 2 ∷ 3 ∷ 4 ∷ 5 ∷ 6 ∷ [])) (0 ∷ 1 ∷ 2 ∷ 3 ∷ 4 ∷ 5 ∷ 6 ∷ 7 ∷ 8 ∷ 9 ∷ 10 ∷ [])

abbrev pub all_phases : List ℕ
all_phases = 0 ∷ 1 ∷ 2 ∷ 3 ∷ 4 ∷ 5 ∷ 6 ∷ 7 ∷ 8 ∷ 9 ∷ 10 ∷ []

abbrev pub each_after : List ℕ → List (List ℕ)
each_after payload = map (phases_after payload) all_phases

abbrev pub single : List ℕ → List (List ℕ)
single phases = map (λ phase. phase ∷ []) phases

abbrev pub phases_canceled : (phase : ℕ) → List ℕ
phases_canceled phase = map (λ row. row.phase) (rows (step_by image (resting phase) TakesCancel).next)

pub record Ranks : Type 0 where
  pub by_rank :
      reported
      ≡ single (1 ∷ 2 ∷ 3 ∷ 4 ∷ 5 ∷ 6 ∷ [])
      ∷ single (1 ∷ 2 ∷ 3 ∷ 4 ∷ 5 ∷ 6 ∷ [])
      ∷ single (1 ∷ 2 ∷ 3 ∷ 4 ∷ 5 ∷ 6 ∷ [])
      ∷ single (3 ∷ 3 ∷ 3 ∷ 4 ∷ 5 ∷ 6 ∷ [])
      ∷ single (4 ∷ 4 ∷ 4 ∷ 4 ∷ 5 ∷ 6 ∷ [])
      ∷ single (5 ∷ 5 ∷ 5 ∷ 4 ∷ 5 ∷ 6 ∷ [])
      ∷ single (6 ∷ 6 ∷ 6 ∷ 6 ∷ 6 ∷ 6 ∷ [])
      ∷ single (7 ∷ 7 ∷ 7 ∷ 7 ∷ 7 ∷ 7 ∷ [])
      ∷ single (8 ∷ 8 ∷ 8 ∷ 8 ∷ 8 ∷ 8 ∷ [])
      ∷ single (9 ∷ 9 ∷ 9 ∷ 9 ∷ 9 ∷ 9 ∷ [])
      ∷ single (1 ∷ 2 ∷ 3 ∷ 4 ∷ 5 ∷ 6 ∷ [])
      ∷ []
  -- a status other than 0 doesn't matter, another BLOB ID and none do
  pub with_status : each_after (update_status 0x82 7) ≡ single (4 ∷ 4 ∷ 4 ∷ 4 ∷ 4 ∷ 4 ∷ 6 ∷ 7 ∷ 8 ∷ 9 ∷ 4 ∷ [])
  pub another_id : each_after (update_status 0x80 8) ≡ single all_phases
  pub no_id : each_after (no_job_status 0) ≡ single all_phases
  -- the offered image is shown
  pub image_shown : each_after shown_image ≡ single (0 ∷ 8 ∷ 8 ∷ 8 ∷ 8 ∷ 8 ∷ 8 ∷ 7 ∷ 8 ∷ 9 ∷ 10 ∷ [])
  pub nothing_shown : each_after (0x83 ∷ 0x09 ∷ 1 ∷ 0 ∷ []) ≡ single all_phases
  -- other packets say nothing of a row
  pub transfer : each_after (0x83 ∷ 0x03 ∷ 4 ∷ 0 ∷ []) ≡ single all_phases
  pub metadata : each_after (0x83 ∷ 0x0b ∷ 5 ∷ 0 ∷ []) ≡ single all_phases
  -- a cancelling makes each row Transfer Canceled that isn't final
  pub canceled : map phases_canceled all_phases ≡ single (7 ∷ 7 ∷ 7 ∷ 7 ∷ 7 ∷ 7 ∷ 7 ∷ 7 ∷ 8 ∷ 9 ∷ 7 ∷ [])
