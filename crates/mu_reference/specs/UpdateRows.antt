-- What the functions of the update table return, as the model's outcomes.
use Rattle.std.specs.Prelude.{ℕ, ◌≡◌, ◌==◌, ◌&&◌, true, false, [], ◌∷◌, Option, Some, None, Result, Ok, Err}
use Rattle.mu_update_rows.specs.Rows.{applied_with}
use Rattle.mu_model_node.specs.NodeMessages.{ByUpdate}
use Rattle.mu_model_node.specs.declared.FlashWork.TheVariants.{Untouched, Recorded}
use Rattle.mu_model_node.specs.declared.Stored.TheVariants.{Applied}
use Rattle.mu_model_node.specs.UpdateMessages.{UpdateStart}
use Rattle.mu_model_node.specs.BlobServer.{heard_at, made_ready}
use Rattle.mu_model_node.specs.NodeState.{Job, NodeState, UpdatePhase, Idle, TransferError, TransferActive, Verifying, Succeeded, Failed, Applying}
use Rattle.mu_model_node.specs.UpdateTable.{success, answer, takes, without_job}
use Rattle.mu_model_node.specs.NodeOutcome.{Outcome, with_session, with_job}
use Rattle.mu_model_node.specs.Events.{has_record, last_count}
use Rattle.mu_reference.specs.declared.recording.Stop.{Stop}
use Rattle.mu_reference.specs.declared.recording.Stop.TheVariants.{NoMemory, Worn}
use Rattle.mu_reference.specs.declared.update_table.Updated.{Updated}
use Rattle.mu_reference.specs.declared.update_table.UpdateStep.{UpdateStep}
use Rattle.mu_reference.specs.declared.update_table.UpdateStep.TheVariants.{MakeReady, Hear, Lose, Apply, Answer}

-- the node has done what the update table says, and answers to one address, or has stopped and is as it was
abbrev pub UpdatedAs : NodeState → ℕ → Outcome → Result Updated Stop → NodeState → Type 0
UpdatedAs s to o (Ok here) new =
    (new ≡ o.next) × (((to, ByUpdate here.reply) ∷ []) ≡ o.replies) × (here.work ≡ o.work) × ((has_record o.work && (s.durable.count == last_count)) ≡ false)
UpdatedAs s to o (Err Worn) new = ((has_record o.work && (s.durable.count == last_count)) ≡ true) × (new ≡ s)
UpdatedAs s to o (Err NoMemory) new = new ≡ s

-- the job that a phase has is the node's
abbrev pub JobIs : UpdatePhase → Option Job → Type 0
JobIs Idle job = job ≡ None
JobIs (TransferError j) job = job ≡ Some j
JobIs (TransferActive j) job = job ≡ Some j
JobIs (Verifying j) job = job ≡ Some j
JobIs (Succeeded j) job = job ≡ Some j
JobIs (Failed j) job = job ≡ Some j
JobIs (Applying j) job = job ≡ Some j

abbrev pub marked_applied : NodeState → Option Job → NodeState
marked_applied s None = s
marked_applied s (Some j) = with_job s (record j { stored = Applied })

-- what a row of the update table does, an Update Start's that takes apart
abbrev pub update_stepped : NodeState → ℕ → UpdateStep → Outcome
update_stepped s to MakeReady = answer (with_session s (made_ready s.moment s.session)) Untouched to success
update_stepped s to Hear = answer (with_session s (heard_at s.moment s.session)) Untouched to success
update_stepped s to Lose = answer (without_job s) (Recorded false) to success
update_stepped s to Apply = applied_with s to s.durable.job
update_stepped s to (Answer status) = answer s Untouched to status

abbrev pub start_stepped : NodeState → ℕ → UpdateStart → Option UpdateStep → Outcome
start_stepped s to u None = takes s to u
start_stepped s to u (Some step) = update_stepped s to step
