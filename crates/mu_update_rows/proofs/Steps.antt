-- The rows from what is looked at.
use Rattle.std.proofs.Common.{◌≡◌, ◌≤◌, ℕ, Bool, true, false, Option, Some, None, Result, Ok, Err, refl, ap, sym, ◌∙◌, cond, arith}
use Rattle.mu_model_image.specs.declared.Meta.{Meta}
use Rattle.mu_model_node.specs.UpdateMessages.{UpdateStart, StartUpdate, UpdateCancel, UpdateApply, UpdateStatus}
use Rattle.mu_model_node.specs.NodeState.{Job, NodeState, UpdatePhase, Idle, TransferError, TransferActive, Verifying, Succeeded, Failed, Applying, update_phase, update_number, server_of, serving_in}
use Rattle.mu_model_node.specs.NodeOutcome.{with_session, served}
use Rattle.mu_model_node.specs.BlobServer.{heard_at, made_ready}
use Rattle.mu_model_node.specs.UpdateTable.{on_update, on_update_start, on_update_cancel, on_update_apply, takes, takes_checked, check, same_start, update_status, update_status_in, success, wrong_phase, answer, shown}
use Rattle.mu_model_node.specs.declared.FlashWork.TheVariants.{Untouched}
use Rattle.mu_model_node.specs.TimeTable.{on_time}
use Rattle.mu_model_node.specs.BlobTable.{on_server_time}
use Rattle.mu_model_node.specs.declared.Link.{Link}
use Rattle.mu_model_node.specs.declared.Link.TheVariants.{Cut, Ready, Running}
use Rattle.mu_model_node.specs.declared.Stored.{Stored}
use Rattle.mu_model_node.specs.declared.Stored.TheVariants.{Filling, Verified, Refused, Applied}
use Rattle.mu_update_rows.specs.Looks.{LooksAs, look_at, there, kind_of, phase_number}
use Rattle.mu_update_rows.specs.Rows.{update_stepped, time_stepped, applied_with, activated_with, judged_with}
use Rattle.mu_update_rows.specs.Decided.{phase_seen, has_same, taken, started_in, started, canceled, applied, timed, status_seen, linked_seen, stored_seen, job_seen}
use Rattle.mu_update_rows.specs.declared.look.NodeLook.{NodeLook}
use Rattle.mu_update_rows.specs.declared.look.JobLook.{JobLook}
use Rattle.mu_update_rows.specs.declared.table.UpdateStep.{UpdateStep}
use Rattle.mu_update_rows.specs.declared.table.UpdateStep.TheVariants.{MakeReady, Hear, Answer}
use Rattle.mu_update_rows.proofs.Phased.{phase_is, phase_has, JobIs}
use Rattle.mu_update_rows.proofs.Checks.{check_is}

taken_is : (s : NodeState) (to : ℕ) (u : UpdateStart) (checked : Result Meta ℕ) → takes_checked s to u checked ≡ update_stepped s to (taken u checked)
taken_is s to u (Ok meta) = refl
taken_is s to u (Err status) = refl

again_is : (s : NodeState) (to : ℕ) (same : Bool) → answer s Untouched to (cond same success wrong_phase) ≡ update_stepped s to (cond same (Answer success) (Answer wrong_phase))
again_is s to true = refl
again_is s to false = refl

error_is : (s : NodeState) (to : ℕ) (u : UpdateStart) (take : UpdateStep) → takes s to u ≡ update_stepped s to take
    → (same : Bool) → cond same (answer (with_session s (made_ready s.moment s.session)) Untouched to success) (takes s to u) ≡ update_stepped s to (cond same MakeReady take)
error_is s to u take so true = refl
error_is s to u take so false = so

active_is : (s : NodeState) (to : ℕ) (same : Bool)
    → cond same (answer (with_session s (heard_at s.moment s.session)) Untouched to success) (answer s Untouched to wrong_phase) ≡ update_stepped s to (cond same Hear (Answer wrong_phase))
active_is s to true = refl
active_is s to false = refl

start_in : (s : NodeState) (to : ℕ) (u : UpdateStart) (take : UpdateStep) → takes s to u ≡ update_stepped s to take
    → (p : UpdatePhase) (job : Option Job) → JobIs p job → on_update_start s to u p ≡ update_stepped s to (started_in (kind_of p) (has_same u (there look_at job)) take)
start_in s to u take so Idle job is = so
start_in s to u take so (Failed j) job is = so
start_in s to u take so (TransferError j) job is = rw is (error_is s to u take so (same_start u j))
start_in s to u take so (TransferActive j) job is = rw is (active_is s to (same_start u j))
start_in s to u take so (Verifying j) job is = rw is (again_is s to (same_start u j))
start_in s to u take so (Succeeded j) job is = rw is (again_is s to (same_start u j))
start_in s to u take so (Applying j) job is = rw is (again_is s to (same_start u j))

pub start_is : (look : NodeLook) (s : NodeState) (to : ℕ) (u : UpdateStart) → LooksAs look s → on_update s to (StartUpdate u) ≡ update_stepped s to (started look u)
start_is look s to u looks =
    let take = taken_is s to u (check s.durable u.index u.metadata) in
    let row = start_in s to u _ take (update_phase s) s.durable.job (phase_has s.session.link s.durable.job) in
    row ∙ ap (λ phase. update_stepped s to (started_in phase (has_same u (there look_at s.durable.job)) (taken u (check s.durable u.index u.metadata)))) (sym (phase_is look s looks))
    ∙ ap (λ job. update_stepped s to (started_in (phase_seen look.link look.job) (has_same u job) (taken u (check s.durable u.index u.metadata)))) (sym looks.job)
    ∙ ap (λ checked. update_stepped s to (started_in (phase_seen look.link look.job) (has_same u look.job) (taken u checked))) (sym (check_is look s u.index u.metadata looks))

cancel_in : (s : NodeState) (to : ℕ) (p : UpdatePhase) → on_update_cancel s to p ≡ update_stepped s to (canceled (kind_of p))
cancel_in s to Idle = refl
cancel_in s to (TransferError j) = refl
cancel_in s to (TransferActive j) = refl
cancel_in s to (Verifying j) = refl
cancel_in s to (Succeeded j) = refl
cancel_in s to (Failed j) = refl
cancel_in s to (Applying j) = refl

pub cancel_is : (look : NodeLook) (s : NodeState) (to : ℕ) → LooksAs look s → on_update s to UpdateCancel ≡ update_stepped s to (canceled (phase_seen look.link look.job))
cancel_is look s to looks = cancel_in s to (update_phase s) ∙ ap (λ phase. update_stepped s to (canceled phase)) (sym (phase_is look s looks))

apply_in : (s : NodeState) (to : ℕ) (p : UpdatePhase) → JobIs p s.durable.job → on_update_apply s to p ≡ update_stepped s to (applied (kind_of p))
apply_in s to Idle is = refl
apply_in s to (TransferError j) is = refl
apply_in s to (TransferActive j) is = refl
apply_in s to (Verifying j) is = refl
apply_in s to (Succeeded j) is = ap (applied_with s to) (sym is)
apply_in s to (Failed j) is = refl
apply_in s to (Applying j) is = refl

pub apply_is : (look : NodeLook) (s : NodeState) (to : ℕ) → LooksAs look s → on_update s to UpdateApply ≡ update_stepped s to (applied (phase_seen look.link look.job))
apply_is look s to looks = apply_in s to (update_phase s) (phase_has s.session.link s.durable.job) ∙ ap (λ phase. update_stepped s to (applied phase)) (sym (phase_is look s looks))

time_in : (s : NodeState) (p : UpdatePhase) → update_phase s ≡ p → JobIs p s.durable.job → on_time s p ≡ time_stepped s (timed (kind_of p))
time_in s Idle at is = ap (λ phase. served s (on_server_time (server_of s) (serving_in phase))) (sym at)
time_in s (TransferError j) at is = ap (λ phase. served s (on_server_time (server_of s) (serving_in phase))) (sym at)
time_in s (TransferActive j) at is = ap (λ phase. served s (on_server_time (server_of s) (serving_in phase))) (sym at)
time_in s (Verifying j) at is = ap (judged_with s) (sym is)
time_in s (Succeeded j) at is = ap (λ phase. served s (on_server_time (server_of s) (serving_in phase))) (sym at)
time_in s (Failed j) at is = ap (λ phase. served s (on_server_time (server_of s) (serving_in phase))) (sym at)
time_in s (Applying j) at is = ap (activated_with s) (sym is)

pub time_is : (look : NodeLook) (s : NodeState) → LooksAs look s → on_time s (update_phase s) ≡ time_stepped s (timed (phase_seen look.link look.job))
time_is look s looks = time_in s (update_phase s) refl (phase_has s.session.link s.durable.job) ∙ ap (λ phase. time_stepped s (timed phase)) (sym (phase_is look s looks))

-- ---- the status

number_is : (p : UpdatePhase) → phase_number (kind_of p) ≡ update_number p
number_is Idle = refl
number_is (TransferError j) = refl
number_is (TransferActive j) = refl
number_is (Verifying j) = refl
number_is (Succeeded j) = refl
number_is (Failed j) = refl
number_is (Applying j) = refl

status_in : (status : ℕ) (s : NodeState) (link : Link) (job : Option Job) → phase_seen link (there look_at job) ≡ kind_of (update_phase s) → status_seen status link (there look_at job) ≡ update_status_in status (update_phase s) job
status_in status s link None is = refl
status_in status s link (Some j) is = ap (λ phase. UpdateStatus status (phase_number phase) (Some (shown j))) is ∙ ap (λ number. UpdateStatus status number (Some (shown j))) (number_is (update_phase s))

pub status_is : (look : NodeLook) (s : NodeState) (status : ℕ) → LooksAs look s → status_seen status look.link look.job ≡ update_status status s
status_is look s status looks =
    ap (status_seen status look.link) looks.job
    ∙ status_in status s look.link s.durable.job (ap (phase_seen look.link) (sym looks.job) ∙ phase_is look s looks)

linked_some : (link : Link) → 1 ≤ phase_number (linked_seen link)
linked_some Cut = omega arith
linked_some Ready = omega arith
linked_some Running = omega arith

stored_some : (link : Link) (whole : Bool) (stored : Stored) → 1 ≤ phase_number (stored_seen link whole stored)
stored_some link true Filling = omega arith
stored_some link false Filling = linked_some link
stored_some link whole Verified = omega arith
stored_some link whole Refused = omega arith
stored_some link whole Applied = omega arith

pub number_some : (link : Link) (j : JobLook) → 1 ≤ phase_number (job_seen link j)
number_some link j = stored_some link j.is_whole j.stored
