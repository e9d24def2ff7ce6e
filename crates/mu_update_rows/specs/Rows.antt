-- What the steps of the table come to at a node.
use Rattle.std.specs.Prelude.{ℕ, false, [], Option, Some, None}
use Rattle.mu_model_image.specs.Meta.{is_fit}
use Rattle.mu_model_node.specs.Slots.{joined}
use Rattle.mu_model_node.specs.declared.FlashWork.TheVariants.{Untouched, Recorded}
use Rattle.mu_model_node.specs.declared.Stored.TheVariants.{Filling, Applied}
use Rattle.mu_model_node.specs.BlobServer.{heard_at, made_ready, unlinked}
use Rattle.mu_model_node.specs.BlobTable.{on_server_time}
use Rattle.mu_model_node.specs.NodeState.{Job, NodeState, server_of, serving_in, update_phase}
use Rattle.mu_model_node.specs.UpdateTable.{success, answer, without_job}
use Rattle.mu_model_node.specs.TimeTable.{activated, verified}
use Rattle.mu_model_node.specs.NodeOutcome.{Outcome, with_session, with_job, served}
use Rattle.mu_update_rows.specs.declared.table.NewJob.{NewJob}
use Rattle.mu_update_rows.specs.declared.table.UpdateStep.{UpdateStep}
use Rattle.mu_update_rows.specs.declared.table.UpdateStep.TheVariants.{MakeReady, Hear, Take, Lose, Apply, Answer}
use Rattle.mu_update_rows.specs.declared.table.TimeStep.{TimeStep}
use Rattle.mu_update_rows.specs.declared.table.TimeStep.TheVariants.{Activate, Judge, Serve}

-- an update that is taken, of whose transfer nothing is there
abbrev pub job_taken : NewJob → Job
job_taken n = record { id = n.id; index = n.index; meta = n.meta; ttl = n.ttl; base = n.base; stored = Filling; parameters = None; held = [] }

abbrev pub applied_with : NodeState → ℕ → Option Job → Outcome
applied_with s to None = answer s Untouched to success
applied_with s to (Some j) = answer (with_job s (record j { stored = Applied })) (Recorded false) to success

abbrev pub update_stepped : NodeState → ℕ → UpdateStep → Outcome
update_stepped s to MakeReady = answer (with_session s (made_ready s.moment s.session)) Untouched to success
update_stepped s to Hear = answer (with_session s (heard_at s.moment s.session)) Untouched to success
update_stepped s to (Take n) = answer (with_session (with_job s (job_taken n)) (made_ready s.moment (unlinked s.session))) (Recorded false) to success
update_stepped s to Lose = answer (without_job s) (Recorded false) to success
update_stepped s to Apply = applied_with s to s.durable.job
update_stepped s to (Answer status) = answer s Untouched to status

-- nothing, by a row that needs an update where there is none
abbrev pub untouched : NodeState → Outcome
untouched s = record { next = s; replies = []; work = Untouched }

abbrev pub activated_with : NodeState → Option Job → Outcome
activated_with s None = untouched s
activated_with s (Some j) = record { next = activated s j; replies = []; work = Recorded false }

abbrev pub judged_with : NodeState → Option Job → Outcome
judged_with s None = untouched s
judged_with s (Some j) = record { next = verified s j (is_fit (joined j.held) j.meta); replies = []; work = Recorded false }

abbrev pub time_stepped : NodeState → TimeStep → Outcome
time_stepped s Activate = activated_with s s.durable.job
time_stepped s Judge = judged_with s s.durable.job
time_stepped s Serve = served s (on_server_time (server_of s) (serving_in (update_phase s)))
