-- Worked rows: what each request is answered in each distribution phase, and the phase after it. Each list goes by the phase before
-- the request, from 0 to 7.
use Rattle.std.specs.Prelude.{ℕ, ◌≡◌, List, [], ◌∷◌, map}
use Rattle.mu_model_distributor.specs.declared.DistPhase.{DistPhase}
use Rattle.mu_model_distributor.specs.declared.DistPhase.TheVariants.{Idle, TransferActive, TransferSuccess, ApplyingUpdate, Completed, Failed, CancelingUpdate, TransferSuspended}
use Rattle.mu_model_distributor.specs.DistState.{Receiver, DistState, dist_number}
use Rattle.mu_model_distributor.specs.DistEvents.{restarted}
use Rattle.mu_model_distributor_laws.specs.Scenes.{stocked_one, said, after, answers, status_in, receivers_add, receivers_delete_all, distribution_get, distribution_start, distribution_start_by, label_start, distribution_suspend, distribution_cancel, distribution_apply, upload_start, firmware_delete, firmware_delete_all}

abbrev pub phases : List DistPhase
phases =
    Idle ∷ TransferActive ∷ TransferSuccess ∷ ApplyingUpdate ∷ Completed ∷ Failed ∷ CancelingUpdate ∷ TransferSuspended ∷ []

-- a distribution to one receiver was started; then a boot finds it in a phase, with the receiver's row in a phase
abbrev pub begun : DistState
begun = after stocked_one (said (receivers_add 0) ∷ said (distribution_start 0) ∷ [])

abbrev pub found : ℕ → DistPhase → DistState
found row phase = restarted 1 (record (begun.durable) { phase = phase; receivers = map (λ (r : Receiver). record r { phase = row }) begun.durable.receivers })

abbrev pub statuses : List ℕ → List ℕ
statuses payload = map (λ phase. status_in (answers (found 10 phase) [] payload)) phases

abbrev pub phases_after : List ℕ → List ℕ
phases_after payload = map (λ phase. dist_number (after (found 10 phase) (said payload ∷ [])).durable.phase) phases

-- records that are written, by phase
abbrev pub counts_after : List ℕ → List ℕ
counts_after payload = map (λ phase. (after (found 10 phase) (said payload ∷ [])).durable.count) phases

-- the phase of the row after it was found in one
abbrev pub rows_after : ℕ → List ℕ → List (List ℕ)
rows_after row payload = map (λ phase. map (λ (r : Receiver). r.phase) (after (found row phase) (said payload ∷ [])).durable.receivers) phases

pub record PhaseByPhase : Type 0 where
  pub receivers_add_is : statuses (receivers_add 0) ≡ 0 ∷ 7 ∷ 7 ∷ 7 ∷ 7 ∷ 7 ∷ 7 ∷ 7 ∷ []
  pub receivers_delete_all_is : statuses receivers_delete_all ≡ 0 ∷ 7 ∷ 7 ∷ 7 ∷ 7 ∷ 7 ∷ 7 ∷ 7 ∷ []
  pub get : statuses distribution_get ≡ 0 ∷ 0 ∷ 0 ∷ 0 ∷ 0 ∷ 0 ∷ 0 ∷ 0 ∷ []
  pub start : statuses (distribution_start 0) ≡ 0 ∷ 0 ∷ 0 ∷ 0 ∷ 0 ∷ 0 ∷ 0 ∷ 0 ∷ []
  pub start_after : phases_after (distribution_start 0) ≡ 1 ∷ 1 ∷ 2 ∷ 3 ∷ 1 ∷ 1 ∷ 6 ∷ 1 ∷ []
  pub start_other : statuses (distribution_start_by 6 0) ≡ 0 ∷ 7 ∷ 7 ∷ 7 ∷ 0 ∷ 0 ∷ 7 ∷ 2 ∷ []
  pub start_no_image : statuses (distribution_start 1) ≡ 4 ∷ 7 ∷ 7 ∷ 7 ∷ 4 ∷ 4 ∷ 7 ∷ 2 ∷ []
  pub start_label : statuses label_start ≡ 1 ∷ 7 ∷ 7 ∷ 7 ∷ 1 ∷ 1 ∷ 7 ∷ 2 ∷ []
  pub suspend : statuses distribution_suspend ≡ 2 ∷ 0 ∷ 2 ∷ 2 ∷ 2 ∷ 2 ∷ 2 ∷ 0 ∷ []
  pub suspend_after : phases_after distribution_suspend ≡ 0 ∷ 7 ∷ 2 ∷ 3 ∷ 4 ∷ 5 ∷ 6 ∷ 7 ∷ []
  pub cancel : statuses distribution_cancel ≡ 0 ∷ 0 ∷ 0 ∷ 2 ∷ 0 ∷ 0 ∷ 0 ∷ 0 ∷ []
  pub cancel_after : phases_after distribution_cancel ≡ 0 ∷ 6 ∷ 6 ∷ 3 ∷ 0 ∷ 0 ∷ 6 ∷ 6 ∷ []
  pub cancel_unknown : rows_after 10 distribution_cancel ≡ (10 ∷ []) ∷ (7 ∷ []) ∷ (7 ∷ []) ∷ (10 ∷ []) ∷ (10 ∷ []) ∷ (10 ∷ []) ∷ (10 ∷ []) ∷ (7 ∷ []) ∷ []
  pub cancel_applying : rows_after 6 distribution_cancel ≡ (6 ∷ []) ∷ (7 ∷ []) ∷ (7 ∷ []) ∷ (6 ∷ []) ∷ (6 ∷ []) ∷ (6 ∷ []) ∷ (6 ∷ []) ∷ (7 ∷ []) ∷ []
  pub cancel_applied : rows_after 8 distribution_cancel ≡ (8 ∷ []) ∷ (8 ∷ []) ∷ (8 ∷ []) ∷ (8 ∷ []) ∷ (8 ∷ []) ∷ (8 ∷ []) ∷ (8 ∷ []) ∷ (8 ∷ []) ∷ []
  pub apply : statuses distribution_apply ≡ 2 ∷ 2 ∷ 0 ∷ 0 ∷ 2 ∷ 2 ∷ 2 ∷ 2 ∷ []
  pub apply_after : phases_after distribution_apply ≡ 0 ∷ 1 ∷ 3 ∷ 3 ∷ 4 ∷ 5 ∷ 6 ∷ 7 ∷ []
  pub upload : statuses (upload_start 5 3) ≡ 0 ∷ 7 ∷ 7 ∷ 7 ∷ 0 ∷ 0 ∷ 7 ∷ 7 ∷ []
  pub delete : statuses (firmware_delete 2) ≡ 0 ∷ 7 ∷ 7 ∷ 7 ∷ 0 ∷ 0 ∷ 7 ∷ 7 ∷ []
  pub delete_all : statuses firmware_delete_all ≡ 0 ∷ 7 ∷ 7 ∷ 7 ∷ 0 ∷ 0 ∷ 7 ∷ 7 ∷ []
  -- a record is written exactly where something is kept; the boot found count 4
  pub count_start : counts_after (distribution_start 0) ≡ 5 ∷ 4 ∷ 4 ∷ 4 ∷ 5 ∷ 5 ∷ 4 ∷ 5 ∷ []
  pub count_add_again : counts_after (receivers_add 0) ≡ 4 ∷ 4 ∷ 4 ∷ 4 ∷ 4 ∷ 4 ∷ 4 ∷ 4 ∷ []
  pub count_delete_all : counts_after receivers_delete_all ≡ 5 ∷ 4 ∷ 4 ∷ 4 ∷ 4 ∷ 4 ∷ 4 ∷ 4 ∷ []
  pub count_cancel : counts_after distribution_cancel ≡ 4 ∷ 5 ∷ 5 ∷ 4 ∷ 5 ∷ 5 ∷ 4 ∷ 5 ∷ []
