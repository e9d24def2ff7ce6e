-- The table over what is looked at: what each function decides before it is laid beside the model.
use Rattle.std.specs.Prelude.{ℕ, ◌+◌, ◌==◌, nat_lt, nat_le, Bool, true, false, not, ◌&&◌, ◌||◌, List, [], ◌∷◌, length, map, Option, Some, None, Result, Ok, Err, if◌then◌else◌, bytes_eq, is_none}
use Rattle.std.specs.List.{list_any, filter}
use Rattle.mu_model_image.specs.declared.Meta.{Meta}
use Rattle.mu_model_image.specs.Meta.{meta_octets}
use Rattle.mu_model_node.specs.UpdateTable.{same_meta}
use Rattle.mu_model_distributor.specs.declared.Settings.{Settings}
use Rattle.mu_model_distributor.specs.declared.DistPhase.{DistPhase}
use Rattle.mu_model_distributor.specs.declared.DistPhase.TheVariants.{Idle, TransferActive, TransferSuccess, ApplyingUpdate, Completed, Failed, CancelingUpdate, TransferSuspended}
use Rattle.mu_model_distributor.specs.Requests.{UploadStart}
use Rattle.mu_model_distributor.specs.Replies.{ShownUpload}
use Rattle.mu_model_distributor.specs.DistState.{is_at_rest}
use Rattle.mu_model_distributor.specs.Receivers.{banks, insufficient_resources, wrong_phase, internal_error, firmware_not_found, receivers_list_empty, busy_with_distribution, busy_with_upload}
use Rattle.mu_model_distributor.specs.Distribution.{are_settings, last_counter}
use Rattle.mu_model_distributor.specs.Uploads.{own_id, offered_meta, shown_at}
use Rattle.mu_model_represents.specs.Images.{is_among}
use Rattle.mu_distributor_kept.specs.declared.phase.UploadPhase.{UploadPhase}
use Rattle.mu_distributor_kept.specs.declared.phase.UploadPhase.TheVariants.{Idle as UploadIdle, TransferActive as UploadActive, TransferError as UploadError, TransferSuccess as UploadSuccess}
use Rattle.mu_distributor_rows.specs.declared.looks.UploadLook.{UploadLook}
use Rattle.mu_distributor_rows.specs.declared.distribution.DistributionStep.{DistributionStep}
use Rattle.mu_distributor_rows.specs.declared.distribution.DistributionStep.TheVariants.{Keep, Begin, Resume, Suspend, Cancel, Rest, Apply, Refuse}
use Rattle.mu_distributor_rows.specs.declared.uploads.UploadStep.{UploadStep}
use Rattle.mu_distributor_rows.specs.declared.uploads.UploadStep.TheVariants.{Keep as KeepUpload, Resume as ResumeUpload, Store, Take, Refuse as RefuseUpload}
use Rattle.mu_distributor_rows.specs.Looks.{Seen, run_phase}

-- ---- banks

abbrev pub is_taken_by : Option UploadLook → ℕ → Bool
is_taken_by None bank = false
is_taken_by (Some j) bank = j.has_parameters && (j.bank == bank)

abbrev pub free_banks : List ℕ → Option UploadLook → List ℕ
free_banks stored job = filter (λ bank. not (is_among stored bank || is_taken_by job bank)) banks

abbrev pub lowest : List ℕ → Option ℕ
lowest [] = None
lowest (bank ∷ others) = Some bank

-- ---- uploads

abbrev pub run_seen : Seen → UploadPhase
run_seen v = run_phase v.lags v.recorded

abbrev pub same_start : Seen → UploadStart → UploadLook → Bool
same_start v u j =
    (u.ttl == v.upload_ttl) && (u.base == j.base) && (u.id == j.id) && (u.size == j.size) && bytes_eq u.metadata (meta_octets v.upload_meta)
    && bytes_eq u.fwid (own_id v.upload_meta)

abbrev pub has_meta : List Meta → Meta → Bool
has_meta metas meta = list_any (λ (x : Meta). bytes_eq (own_id x) (own_id meta)) metas

abbrev pub taken_into : Seen → UploadStart → Meta → Option ℕ → UploadStep
taken_into v u meta None = RefuseUpload insufficient_resources
taken_into v u meta (Some bank) = if nat_lt v.capacity u.size then RefuseUpload insufficient_resources else Take meta bank

abbrev pub taken : Seen → UploadStart → Meta → UploadStep
taken v u meta = taken_into v u meta (lowest (free_banks v.banks None))

abbrev pub taken_or_resumed : Seen → UploadStart → Meta → UploadPhase → Option UploadLook → UploadStep
taken_or_resumed v u meta UploadError (Some j) = if same_start v u j then ResumeUpload else taken v u meta
taken_or_resumed v u meta phase job = taken v u meta

abbrev pub offered : Seen → UploadStart → UploadPhase → Option UploadLook → Option Meta → UploadStep
offered v u phase job None = RefuseUpload internal_error
offered v u phase job (Some meta) = if has_meta v.metas meta then Store meta else taken_or_resumed v u meta phase job

abbrev pub started_at_rest : Seen → UploadStart → UploadPhase → Option UploadLook → UploadStep
started_at_rest v u phase job = if is_at_rest v.phase then offered v u phase job (offered_meta u) else RefuseUpload busy_with_distribution

abbrev pub started_in : Seen → UploadStart → UploadPhase → Option UploadLook → UploadStep
started_in v u UploadActive (Some j) = if same_start v u j then KeepUpload else RefuseUpload busy_with_upload
started_in v u phase job = started_at_rest v u phase job

abbrev pub upload_started : Seen → UploadStart → UploadStep
upload_started v u = started_in v u (run_seen v) v.job

abbrev pub progress_seen : UploadPhase → Option UploadLook → ℕ
progress_seen UploadSuccess job = 100
progress_seen phase (Some j) = j.progress
progress_seen phase None = 0

abbrev pub shown_seen : UploadPhase → Option UploadLook → Meta → Option ShownUpload
shown_seen UploadIdle job meta = None
shown_seen phase job meta = shown_at (progress_seen phase job) meta

abbrev pub is_some_upload : UploadPhase → Bool
is_some_upload UploadIdle = false
is_some_upload phase = true

-- whether what is kept changes where an image is stored
abbrev pub storing_changes : UploadPhase → (same_ttl same_meta : Bool) → Bool
storing_changes UploadSuccess same_ttl same_meta = not (same_ttl && same_meta)
storing_changes phase same_ttl same_meta = true

abbrev pub resuming_changes : UploadPhase → Bool
resuming_changes UploadActive = false
resuming_changes phase = true

abbrev pub step_changes : Seen → UploadStart → UploadStep → Bool
step_changes v u KeepUpload = false
step_changes v u ResumeUpload = resuming_changes v.recorded
step_changes v u (Store meta) = storing_changes v.recorded (u.ttl == v.upload_ttl) (same_meta meta v.upload_meta)
step_changes v u (Take meta bank) = true
step_changes v u (RefuseUpload status) = false

-- an upload that came in part
abbrev pub is_in_part : UploadPhase → Bool
is_in_part UploadActive = true
is_in_part UploadError = true
is_in_part phase = false

-- ---- images

abbrev pub has_id : List ℕ → Meta → Bool
has_id fwid meta = bytes_eq (own_id meta) fwid

abbrev pub place_from : ℕ → List Meta → List ℕ → Option ℕ
place_from n [] fwid = None
place_from n (meta ∷ metas) fwid = if has_id fwid meta then Some n else place_from (n + 1) metas fwid

abbrev pub deletion : Seen → List ℕ → Result (Unit {0}) ℕ
deletion v fwid =
    if not (is_at_rest v.phase) then Err busy_with_distribution
    else if is_in_part (run_seen v) then Err busy_with_upload
    else if is_none (place_from 0 v.metas fwid) then Err firmware_not_found
    else Ok tt

-- with whether there is one
abbrev pub whole_deletion : Seen → Result Bool ℕ
whole_deletion v =
    if not (is_at_rest v.phase) then Err busy_with_distribution
    else if is_in_part (run_seen v) then Err busy_with_upload
    else Ok (not (length v.metas == 0))

-- what stands beside metadata without this ID
abbrev pub kept_beside : {A : Type 0} → List ℕ → List A → List Meta → List A
kept_beside fwid [] metas = []
kept_beside fwid (a ∷ more) [] = []
kept_beside fwid (a ∷ more) (meta ∷ metas) = if has_id fwid meta then kept_beside fwid more metas else a ∷ kept_beside fwid more metas

-- ---- a distribution

abbrev pub is_uploading : UploadPhase → Bool
is_uploading UploadActive = true
is_uploading phase = false

abbrev pub begun : Seen → Option Settings → DistributionStep
begun v None = Refuse insufficient_resources
begun v (Some ask) =
    if is_uploading (run_seen v) then Refuse busy_with_upload
    else if nat_le (length v.metas) ask.image then Refuse firmware_not_found
    else if v.receivers == 0 then Refuse receivers_list_empty
    else if v.counter == last_counter then Refuse insufficient_resources
    else Begin ask

abbrev pub distribution_started : Seen → Option Settings → DistPhase → DistributionStep
distribution_started v ask Idle = begun v ask
distribution_started v ask Completed = begun v ask
distribution_started v ask Failed = begun v ask
distribution_started v ask TransferSuspended = if are_settings ask v.settings then Resume else Refuse wrong_phase
distribution_started v ask _ = if are_settings ask v.settings then Keep else Refuse busy_with_distribution

abbrev pub distribution_suspended : DistPhase → DistributionStep
distribution_suspended TransferActive = Suspend
distribution_suspended TransferSuspended = Keep
distribution_suspended _ = Refuse wrong_phase

abbrev pub distribution_canceled : DistPhase → DistributionStep
distribution_canceled TransferActive = Cancel
distribution_canceled TransferSuccess = Cancel
distribution_canceled TransferSuspended = Cancel
distribution_canceled Completed = Rest
distribution_canceled Failed = Rest
distribution_canceled ApplyingUpdate = Refuse wrong_phase
distribution_canceled _ = Keep

abbrev pub distribution_applied : DistPhase → DistributionStep
distribution_applied TransferSuccess = Apply
distribution_applied ApplyingUpdate = Keep
distribution_applied _ = Refuse wrong_phase
