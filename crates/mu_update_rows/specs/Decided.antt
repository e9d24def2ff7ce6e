-- The table over looks: what each function decides before it is laid beside the model.
use Rattle.std.specs.Prelude.{ℕ, ◌-◌, ◌==◌, nat_lt, nat_le, Bool, false, ◌&&◌, List, map, take, drop, Option, Some, None, Result, Ok, Err, if◌then◌else◌, slice_get}
use Rattle.mu_model_image.specs.declared.Meta.{Meta}
use Rattle.mu_model_image.specs.Meta.{meta_from, firmware_id, own_company}
use Rattle.mu_model_node.specs.UpdateMessages.{UpdateStart, UpdateReply, UpdateStatus}
use Rattle.mu_model_node.specs.UpdateTable.{are_metadata, wrong_firmware_index, metadata_check_failed, success, wrong_phase}
use Rattle.mu_model_node.specs.declared.Link.{Link}
use Rattle.mu_model_node.specs.declared.Link.TheVariants.{Cut}
use Rattle.mu_model_node.specs.declared.Stored.{Stored}
use Rattle.mu_model_node.specs.declared.Stored.TheVariants.{Filling, Verified, Refused, Applied as AppliedStored}
use Rattle.mu_update_rows.specs.Looks.{one_or_two, phase_number}
use Rattle.mu_update_rows.specs.declared.look.ActiveMetas.{ActiveMetas}
use Rattle.mu_update_rows.specs.declared.look.JobLook.{JobLook}
use Rattle.mu_update_rows.specs.declared.look.NodeLook.{NodeLook}
use Rattle.mu_update_rows.specs.declared.phases.Phase.{Phase}
use Rattle.mu_update_rows.specs.declared.phases.Phase.TheVariants.{Idle, TransferError, TransferActive, Verifying, Succeeded, Failed, Applying}
use Rattle.mu_update_rows.specs.declared.table.UpdateStep.{UpdateStep}
use Rattle.mu_update_rows.specs.declared.table.UpdateStep.TheVariants.{MakeReady, Hear, Take, Lose, Apply, Answer}
use Rattle.mu_update_rows.specs.declared.table.TimeStep.{TimeStep}
use Rattle.mu_update_rows.specs.declared.table.TimeStep.TheVariants.{Activate, Judge, Serve}

-- ---- phases

abbrev pub linked_seen : Link → Phase
linked_seen Cut = TransferError
linked_seen _ = TransferActive

abbrev pub stored_seen : Link → Bool → Stored → Phase
stored_seen link is_whole Filling = if is_whole then Verifying else linked_seen link
stored_seen link is_whole Verified = Succeeded
stored_seen link is_whole Refused = Failed
stored_seen link is_whole AppliedStored = Applying

abbrev pub job_seen : Link → JobLook → Phase
job_seen link job = stored_seen link job.is_whole job.stored

abbrev pub phase_seen : Link → Option JobLook → Phase
phase_seen link None = Idle
phase_seen link (Some job) = job_seen link job

-- ---- an Update Start

abbrev pub same_seen : UpdateStart → JobLook → Bool
same_seen u j = (u.ttl == j.ttl) && (u.base == j.base) && (u.id == j.id) && (u.index == j.index) && are_metadata (meta_from u.metadata) j.meta

abbrev pub has_same : UpdateStart → Option JobLook → Bool
has_same u None = false
has_same u (Some j) = same_seen u j

abbrev pub check_metas : ℕ → Option Meta → Option Meta → Result Meta ℕ
check_metas capacity None meta = Err wrong_firmware_index
check_metas capacity (Some active) None = Err metadata_check_failed
check_metas capacity (Some active) (Some meta) =
    if nat_lt capacity meta.size then Err metadata_check_failed
    else if nat_le meta.version active.version then Err metadata_check_failed
    else Ok meta

abbrev pub check_seen : NodeLook → ℕ → List ℕ → Result Meta ℕ
check_seen look index metadata = check_metas look.capacity (slice_get (one_or_two look.active) index) (meta_from metadata)

abbrev pub taken : UpdateStart → Result Meta ℕ → UpdateStep
taken u (Err status) = Answer status
taken u (Ok meta) = Take (record { id = u.id; index = u.index; meta = meta; ttl = u.ttl; base = u.base })

abbrev pub started_in : Phase → Bool → UpdateStep → UpdateStep
started_in Idle is_same take = take
started_in TransferError is_same take = if is_same then MakeReady else take
started_in TransferActive is_same take = if is_same then Hear else Answer wrong_phase
started_in Failed is_same take = take
started_in _ is_same take = if is_same then Answer success else Answer wrong_phase

abbrev pub started : NodeLook → UpdateStart → UpdateStep
started look u = started_in (phase_seen look.link look.job) (has_same u look.job) (taken u (check_seen look u.index u.metadata))

-- ---- the others

abbrev pub canceled : Phase → UpdateStep
canceled Idle = Answer success
canceled Applying = Answer wrong_phase
canceled _ = Lose

abbrev pub applied : Phase → UpdateStep
applied Succeeded = Apply
applied Applying = Answer success
applied _ = Answer wrong_phase

abbrev pub timed : Phase → TimeStep
timed Applying = Activate
timed Verifying = Judge
timed _ = Serve

abbrev pub status_seen : ℕ → Link → Option JobLook → UpdateReply
status_seen status link None = UpdateStatus status 0 None
status_seen status link (Some j) =
    UpdateStatus status (phase_number (job_seen link j)) (Some (record { ttl = j.ttl; base = j.base; id = j.id; index = j.index }))

-- ---- images

-- whether an index is one of those from the first on, at most as many as the limit
abbrev pub is_shown : ℕ → ℕ → ℕ → Bool
is_shown index first limit = nat_le first index && nat_lt (index - first) limit

abbrev pub ids_seen : ActiveMetas → ℕ → ℕ → List (List ℕ)
ids_seen active first limit = take limit (drop first (map (λ meta. firmware_id own_company meta) (one_or_two active)))
