-- Every client that a run comes to.
use Rattle.std.specs.Prelude.{ℕ, List, [], ◌∷◌}
use Rattle.mu_model_client.specs.declared.Sending.{Sending}
use Rattle.mu_model_client.specs.declared.Plan.{Plan}
use Rattle.mu_model_client.specs.declared.Stage.{Stage}
use Rattle.mu_model_client.specs.Answers.{Answer}
use Rattle.mu_model_client.specs.Rows.{Row}
use Rattle.mu_model_client.specs.Client.{Place, Verified, Client}
use Rattle.mu_model_client.specs.Begin.{start, start_blob, resume, take_apply, take_cancel}
use Rattle.mu_model_client.specs.Told.{told}
use Rattle.mu_model_client.specs.Due.{due}
use Rattle.mu_model_client_laws.specs.Laws.{IsSound}
use Rattle.mu_model_client_bounds.specs.Bounds.{IsBounded}

-- how a client comes to be: for an update, for a BLOB alone, or after a boot
pub data Beginning : Type 0 where
  Starts : Plan → (to : List (ℕ × ℕ)) → Beginning
  Sends : Sending → (to : List ℕ) → Beginning
  Resumes : Plan → List Row → Stage → Beginning

abbrev pub begun_by : Beginning → Client
begun_by (Starts plan to) = start plan to
begun_by (Sends p to) = start_blob p to
begun_by (Resumes plan rows stage) = resume plan rows stage

-- what may come
pub data Move : Type 0 where
  Hears : (from : ℕ) → Answer → (now : ℕ) → Move
  Waits : (image : List ℕ) → (now : ℕ) → Move
  Applies : Move
  Cancels : Move

-- it is told to apply where it is Verified
abbrev pub applied_at : Client → Place → Client
applied_at c Verified = take_apply c
applied_at c place = c

abbrev pub moved : Client → Move → Client
moved c (Hears from answer now) = told c from answer now
moved c (Waits image now) = (due c image now).next
moved c Applies = applied_at c c.place
moved c Cancels = take_cancel c

abbrev pub run_to : Client → List Move → Client
run_to c [] = c
run_to c (move ∷ moves) = run_to (moved c move) moves

pub record IsSoundAndBounded (c : Client) : Type 0 where
  pub sound : IsSound c
  pub bounded : IsBounded c

abbrev pub RunsAreBounded : Type 0
RunsAreBounded = (beginning : Beginning) (moves : List Move) → IsSoundAndBounded (run_to (begun_by beginning) moves)
