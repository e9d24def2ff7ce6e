-- What a request comes to: the state that its step leads to or the status that refuses it, and its answer over what stands then.
use Rattle.std.specs.Prelude.{◌≡◌, ℕ, Bool, true, false, [], List, Some, None, Result, Ok, Err}
use Rattle.mu_distmsg.specs.declared.message.ReceiverRow.{ReceiverRow}
use Rattle.mu_model_distributor.specs.Requests.{DistRequest, ReceiversAdd, ReceiversDeleteAll, ReceiversGet, CapabilitiesGet, DistributionGet, DistributionStart, DistributionSuspend, DistributionCancel, DistributionApply, UploadGet, StartUpload, StartUploadOob, UploadCancel, FirmwareGet, FirmwareGetByIndex, FirmwareDelete, FirmwareDeleteAll}
use Rattle.mu_model_distributor.specs.Replies.{DistReply}
use Rattle.mu_model_distributor.specs.DistState.{DistState}
use Rattle.mu_model_distributor.specs.Commit.{answered}
use Rattle.mu_model_distributor.specs.DistTable.{on_request}
use Rattle.mu_model_distributor.specs.Receivers.{receivers_status, receivers_list, capabilities}
use Rattle.mu_model_distributor.specs.Distribution.{distribution_status}
use Rattle.mu_model_distributor.specs.Uploads.{upload_status, upload_cancel}
use Rattle.mu_model_distributor.specs.Firmware.{no_index, firmware_status, firmware_get, firmware_get_by_index, with_images}
use Rattle.mu_distributor_rows.specs.declared.distribution.DistributionStep.{DistributionStep}
use Rattle.mu_distributor_rows.specs.declared.distribution.DistributionStep.TheVariants.{Refuse}
use Rattle.mu_distributor_rows.specs.declared.uploads.UploadStep.{UploadStep}
use Rattle.mu_distributor_rows.specs.declared.uploads.UploadStep.TheVariants.{Refuse as RefuseUpload}
use Rattle.mu_distributor_rows.specs.Receivers.{with_rows}
use Rattle.mu_distributor_rows.specs.Messages.{upload_start_of}
use Rattle.mu_distributor_rows.specs.Rows.{upload_stepped, deleted, distribution_stepped}
use Rattle.mu_distributor_answers.specs.declared.steps.DistStep.{DistStep}
use Rattle.mu_distributor_answers.specs.declared.steps.DistStep.TheVariants.{Tell, Receivers, Distribution, Upload, CancelUpload, DeleteImages, DeleteAllImages}

-- the state that a step leads to, or the status that is answered where nothing changes
abbrev pub stepped : ℕ → DistState → List ReceiverRow → DistStep → Result DistState ℕ
stepped address s rows (Tell status) = Err status
stepped address s rows Receivers = Ok (with_rows s rows)
stepped address s rows (Distribution step) = distribution_stepped address s step
stepped address s rows (Upload u step) = upload_stepped s (upload_start_of u) step
stepped address s rows CancelUpload = Ok (upload_cancel s)
stepped address s rows (DeleteImages fwid) = deleted s fwid.now (Ok tt)
stepped address s rows DeleteAllImages = Ok (with_images s [])

-- the status that refuses, else 0
abbrev pub refusal : DistributionStep → ℕ
refusal (Refuse status) = status
refusal _ = 0

abbrev pub upload_refusal : UploadStep → ℕ
upload_refusal (RefuseUpload status) = status
upload_refusal _ = 0

-- the status of what is answered
abbrev pub status_of : DistStep → ℕ
status_of (Tell status) = status
status_of (Distribution step) = refusal step
status_of (Upload u step) = upload_refusal step
status_of _ = 0

-- a step that leaves the receivers leaves them
abbrev pub KeepsRows : DistStep → (old new : List ReceiverRow) → Type 0
KeepsRows Receivers old new = Unit {0}
KeepsRows _ old new = new ≡ old

-- requests on the distribution itself, and its steps
abbrev pub is_on_distribution : DistRequest → Bool
is_on_distribution (DistributionStart settings) = true
is_on_distribution DistributionSuspend = true
is_on_distribution DistributionCancel = true
is_on_distribution DistributionApply = true
is_on_distribution _ = false

abbrev pub is_of_distribution : DistStep → Bool
is_of_distribution (Distribution step) = true
is_of_distribution _ = false

-- what answers a request, with a status, over what stands when it is answered
abbrev pub shown_to : DistRequest → ℕ → DistState → DistReply
shown_to (ReceiversAdd entries) = receivers_status
shown_to ReceiversDeleteAll = receivers_status
shown_to (ReceiversGet first limit) = λ status. receivers_list first limit
shown_to CapabilitiesGet = λ status. capabilities
shown_to DistributionGet = distribution_status
shown_to (DistributionStart settings) = distribution_status
shown_to DistributionSuspend = distribution_status
shown_to DistributionCancel = distribution_status
shown_to DistributionApply = distribution_status
shown_to UploadGet = upload_status
shown_to (StartUpload u) = upload_status
shown_to StartUploadOob = upload_status
shown_to UploadCancel = upload_status
shown_to (FirmwareGet fwid) = λ status. firmware_get fwid
shown_to (FirmwareGetByIndex index) = λ status. firmware_get_by_index index
shown_to (FirmwareDelete fwid) = firmware_status no_index (Some fwid)
shown_to FirmwareDeleteAll = firmware_status no_index None

-- a request of the model comes to this step: next state, replies and flash work are those of what is answered
pub record ComesTo (address : ℕ) (s : DistState) (request : DistRequest) (rows : List ReceiverRow) (step : DistStep) : Type 0 where
  pub is : (to : ℕ) → on_request address s to request ≡ answered s to (shown_to request) (stepped address s rows step)
