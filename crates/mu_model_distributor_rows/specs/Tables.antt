-- The tables of the requests to a distributor, each evaluated as one.
use Rattle.std.specs.Prelude.{[], ◌∷◌}
use Rattle.mu_model_distributor.specs.declared.DistPhase.TheVariants.{TransferSuccess, ApplyingUpdate, Completed, Failed, CancelingUpdate, TransferSuspended}
use Rattle.mu_model_distributor_rows.specs.Scenes.{Answers, empty, ready, active, found, uploading, receiving, whole, broken, stored}
use Rattle.mu_model_distributor_rows.specs.TablesOfRest.{in_empty, in_ready, in_completed, in_failed, in_uploading, in_receiving}
use Rattle.mu_model_distributor_rows.specs.TablesOfUpload.{in_whole, in_broken, in_stored}
use Rattle.mu_model_distributor_rows.specs.TablesOfRun.{in_active, in_success, in_applying, in_canceling, in_suspended}

-- what each request does in each phase of a distribution
pub record EachPhase : Type 0 where
  pub empty : Answers empty in_empty
  pub ready : Answers ready in_ready
  pub active : Answers active in_active
  pub success : Answers (found TransferSuccess (4 ∷ 10 ∷ [])) in_success
  pub applying : Answers (found ApplyingUpdate (6 ∷ 10 ∷ [])) in_applying
  pub completed : Answers (found Completed (8 ∷ 9 ∷ [])) in_completed
  pub failed : Answers (found Failed (5 ∷ 10 ∷ [])) in_failed
  pub canceling : Answers (found CancelingUpdate (7 ∷ 8 ∷ [])) in_canceling
  pub suspended : Answers (found TransferSuspended (2 ∷ 4 ∷ [])) in_suspended

-- and in each of an upload
pub record EachUpload : Type 0 where
  pub uploading : Answers uploading in_uploading
  pub receiving : Answers receiving in_receiving
  pub whole : Answers whole in_whole
  pub broken : Answers broken in_broken
  pub stored : Answers stored in_stored
