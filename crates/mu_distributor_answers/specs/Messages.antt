-- Requests in memory as the model's.
use Rattle.std.specs.Prelude.{ℕ, List, Option, Some, None, Result, Ok, Err}
use Rattle.mu_model_wire.specs.Fields.{Message}
use Rattle.mu_model_wire.specs.declared.Refusal.{Refusal}
use Rattle.mu_model_distributor.specs.declared.Settings.{Settings}
use Rattle.mu_model_distributor.specs.Requests.{DistRequest, ReceiversAdd, ReceiversDeleteAll, ReceiversGet, CapabilitiesGet, DistributionGet, DistributionStart, DistributionSuspend, DistributionCancel, DistributionApply, UploadGet, StartUpload, StartUploadOob, UploadCancel, FirmwareGet, FirmwareGetByIndex, FirmwareDelete, FirmwareDeleteAll}
use Rattle.mu_model_distributor.specs.Requests.{dist_request_of as asks}
use Rattle.mu_distributor_rows.specs.Receivers.{entries_of}
use Rattle.mu_distributor_rows.specs.Messages.{upload_start_of}
use Rattle.mu_distributor_answers.specs.declared.messages.DistRequest.{DistRequest as DistRequestHere}
use Rattle.mu_distributor_answers.specs.declared.messages.DistRequest.TheVariants.{ReceiversAdd as ReceiversAddHere, ReceiversDeleteAll as ReceiversDeleteAllHere, ReceiversGet as ReceiversGetHere, CapabilitiesGet as CapabilitiesGetHere, DistributionGet as DistributionGetHere, DistributionStart as DistributionStartHere, DistributionSuspend as DistributionSuspendHere, DistributionCancel as DistributionCancelHere, DistributionApply as DistributionApplyHere, UploadGet as UploadGetHere, StartUpload as StartUploadHere, StartUploadOob as StartUploadOobHere, UploadCancel as UploadCancelHere, FirmwareGet as FirmwareGetHere, FirmwareGetByIndex as FirmwareGetByIndexHere, FirmwareDelete as FirmwareDeleteHere, FirmwareDeleteAll as FirmwareDeleteAllHere}

abbrev pub dist_request_of : DistRequestHere → DistRequest
dist_request_of (ReceiversAddHere entries) = ReceiversAdd (entries_of entries.items)
dist_request_of ReceiversDeleteAllHere = ReceiversDeleteAll
dist_request_of (ReceiversGetHere first limit) = ReceiversGet first limit
dist_request_of CapabilitiesGetHere = CapabilitiesGet
dist_request_of DistributionGetHere = DistributionGet
dist_request_of (DistributionStartHere settings) = DistributionStart settings
dist_request_of DistributionSuspendHere = DistributionSuspend
dist_request_of DistributionCancelHere = DistributionCancel
dist_request_of DistributionApplyHere = DistributionApply
dist_request_of UploadGetHere = UploadGet
dist_request_of (StartUploadHere u) = StartUpload (upload_start_of u)
dist_request_of StartUploadOobHere = StartUploadOob
dist_request_of UploadCancelHere = UploadCancel
dist_request_of (FirmwareGetHere fwid) = FirmwareGet fwid.now
dist_request_of (FirmwareGetByIndexHere index) = FirmwareGetByIndex index
dist_request_of (FirmwareDeleteHere fwid) = FirmwareDelete fwid.now
dist_request_of FirmwareDeleteAllHere = FirmwareDeleteAll

-- the request of a message that is read
abbrev pub asked_in : Result Message Refusal → Option DistRequest
asked_in (Ok m) = asks m
asked_in (Err e) = None

-- the settings of a start: none to a label, and group 0 where none is named
abbrev pub settings_of : Option (List ℕ) → Option ℕ → Settings → Option Settings
settings_of (Some label) group s = None
settings_of None (Some group) s = Some (record s { group = group })
settings_of None None s = Some (record s { group = 0 })
