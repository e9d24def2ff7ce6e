-- The table of a Firmware Update Server: a definition for each message, by the phase that it comes in (MshDFU, Firmware Update
-- Server behavior; what is compared and kept as this profile sets it).
use Rattle.std.specs.Prelude.{ℕ, ◌==◌, nat_lt, nat_le, Bool, false, ◌&&◌, List, [], ◌∷◌, Option, Some, None, Result, Ok, Err, if◌then◌else◌, length, take, drop, map, slice_get, bytes_eq}
pub use Rattle.mu_model_wire.specs.Statuses.{success, wrong_phase}
use Rattle.mu_model_image.specs.declared.Meta.{Meta}
use Rattle.mu_model_image.specs.Meta.{Image, meta_from, firmware_id, own_company}
use Rattle.mu_model_node.specs.UpdateMessages.{UpdateStart, UpdateRequest, InformationGet, MetadataCheck, UpdateGet, StartUpdate, UpdateCancel, UpdateApply, ShownJob, UpdateReply, InformationStatus, MetadataStatus, UpdateStatus}
use Rattle.mu_model_node.specs.NodeMessages.{ByUpdate}
use Rattle.mu_model_node.specs.BlobServer.{unlinked, heard_at, made_ready}
use Rattle.mu_model_node.specs.FlashWork.{FlashWork, Untouched, Recorded}
use Rattle.mu_model_node.specs.NodeState.{Filling, Applied, Job, NodeDurable, NodeState, UpdatePhase, Idle, TransferError, TransferActive, Verifying, Succeeded, Failed, Applying, update_phase, update_number}
use Rattle.mu_model_node.specs.NodeOutcome.{Outcome, with_session, recorded, with_job}

-- ---- statuses (MshDFU, Status)

abbrev pub wrong_firmware_index : ℕ
wrong_firmware_index = 4

abbrev pub metadata_check_failed : ℕ
metadata_check_failed = 5

-- ---- replies

abbrev pub replying : NodeState → FlashWork → ℕ → UpdateReply → Outcome
replying s work to reply = record { next = s; replies = (to, ByUpdate reply) ∷ []; work = work }

abbrev pub shown : Job → ShownJob
shown j = record { ttl = j.ttl; base = j.base; id = j.id; index = j.index }

abbrev pub update_status_in : ℕ → UpdatePhase → Option Job → UpdateReply
update_status_in status phase None = UpdateStatus status 0 None
update_status_in status phase (Some j) = UpdateStatus status (update_number phase) (Some (shown j))

-- the Update Status of a state
abbrev pub update_status : ℕ → NodeState → UpdateReply
update_status status s = update_status_in status (update_phase s) s.durable.job

-- a state, and its Update Status
abbrev pub answer : NodeState → FlashWork → ℕ → ℕ → Outcome
answer s work to status = replying s work to (update_status status s)

-- ---- the check of what is offered

abbrev pub check_image : NodeDurable → Option Image → Option Meta → Result Meta ℕ
check_image d None meta = Err wrong_firmware_index
check_image d (Some active) None = Err metadata_check_failed
check_image d (Some active) (Some meta) =
    if nat_lt d.capacity meta.size then Err metadata_check_failed
    else if nat_le meta.version active.meta.version then Err metadata_check_failed
    else Ok meta

-- the metadata that are offered for an image, or the status that refuses them: there is an image of this index, the octets are
-- metadata, the new image fits a bank, and its version is greater than that of the active one
abbrev pub check : NodeDurable → ℕ → List ℕ → Result Meta ℕ
check d index metadata = check_image d (slice_get d.images index) (meta_from metadata)

abbrev pub status_of : Result Meta ℕ → ℕ
status_of (Ok meta) = success
status_of (Err status) = status

-- ---- Firmware Update Information Get

-- the number of images, first as asked, and the Firmware IDs of the active images from index first on, at most as many as the
-- limit
abbrev pub on_information_get : NodeState → ℕ → ℕ → ℕ → Outcome
on_information_get s to first limit =
    replying s Untouched to (InformationStatus (length s.durable.images) first (take limit (drop first (map (λ image. firmware_id own_company image.meta) s.durable.images))))

-- ---- Firmware Update Firmware Metadata Check

abbrev pub on_metadata_check : NodeState → ℕ → ℕ → List ℕ → Outcome
on_metadata_check s to index metadata = replying s Untouched to (MetadataStatus (status_of (check s.durable index metadata)) index)

-- ---- Firmware Update Get

abbrev pub on_update_get : NodeState → ℕ → Outcome
on_update_get s to = answer s Untouched to success

-- ---- Firmware Update Start

abbrev pub same_meta : Meta → Meta → Bool
same_meta a b = (a.size == b.size) && (a.version == b.version) && bytes_eq a.digest b.digest

abbrev pub are_metadata : Option Meta → Meta → Bool
are_metadata None meta = false
are_metadata (Some offered) meta = same_meta offered meta

-- whether all fields are equal to the job's
abbrev pub same_start : UpdateStart → Job → Bool
same_start u j = (u.ttl == j.ttl) && (u.base == j.base) && (u.id == j.id) && (u.index == j.index) && are_metadata (meta_from u.metadata) j.meta

abbrev pub new_job : UpdateStart → Meta → Job
new_job u meta = record { id = u.id; index = u.index; meta = meta; ttl = u.ttl; base = u.base; stored = Filling; parameters = None; held = [] }

abbrev pub takes_checked : NodeState → ℕ → UpdateStart → Result Meta ℕ → Outcome
takes_checked s to u (Err status) = answer s Untouched to status
takes_checked s to u (Ok meta) =
    answer (with_session (with_job s (new_job u meta)) (made_ready s.moment (unlinked s.session))) (Recorded false) to success

-- a new job is written, in one record, where the check is passed
abbrev pub takes : NodeState → ℕ → UpdateStart → Outcome
takes s to u = takes_checked s to u (check s.durable u.index u.metadata)

-- an equal start is answered alone
abbrev pub repeated : NodeState → ℕ → UpdateStart → Job → Outcome
repeated s to u j = answer s Untouched to (if same_start u j then success else wrong_phase)

abbrev pub on_update_start : NodeState → ℕ → UpdateStart → UpdatePhase → Outcome
on_update_start s to u Idle = takes s to u
on_update_start s to u (TransferError j) =
    if same_start u j then answer (with_session s (made_ready s.moment s.session)) Untouched to success else takes s to u
on_update_start s to u (TransferActive j) =
    if same_start u j then answer (with_session s (heard_at s.moment s.session)) Untouched to success
    else answer s Untouched to wrong_phase
on_update_start s to u (Verifying j) = repeated s to u j
on_update_start s to u (Succeeded j) = repeated s to u j
on_update_start s to u (Failed j) = takes s to u
on_update_start s to u (Applying j) = repeated s to u j

-- ---- Firmware Update Cancel

abbrev pub without_job : NodeState → NodeState
without_job s = with_session (recorded s s.durable.images None) (unlinked s.session)

abbrev pub on_update_cancel : NodeState → ℕ → UpdatePhase → Outcome
on_update_cancel s to Idle = answer s Untouched to success
on_update_cancel s to (Applying j) = answer s Untouched to wrong_phase
on_update_cancel s to _ = answer (without_job s) (Recorded false) to success

-- ---- Firmware Update Apply

abbrev pub on_update_apply : NodeState → ℕ → UpdatePhase → Outcome
on_update_apply s to (Succeeded j) = answer (with_job s (record j { stored = Applied })) (Recorded false) to success
on_update_apply s to (Applying j) = answer s Untouched to success
on_update_apply s to _ = answer s Untouched to wrong_phase

-- ---- all messages

abbrev pub on_update : NodeState → ℕ → UpdateRequest → Outcome
on_update s to (InformationGet first limit) = on_information_get s to first limit
on_update s to (MetadataCheck index metadata) = on_metadata_check s to index metadata
on_update s to UpdateGet = on_update_get s to
on_update s to (StartUpdate u) = on_update_start s to u (update_phase s)
on_update s to UpdateCancel = on_update_cancel s to (update_phase s)
on_update s to UpdateApply = on_update_apply s to (update_phase s)
