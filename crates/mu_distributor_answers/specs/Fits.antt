-- What a request says, and the statuses that answer it, are in the ranges of the grammar, and what it comes to can be done.
use Rattle.std.specs.Prelude.{◌≡◌, ◌≤◌, Bool, false, length}
use Rattle.mu_distributor_rows.specs.Decided.{run_seen, is_in_part}
use Rattle.mu_distributor_rows.specs.Fits.{IsKnown, IsKnownUpload, CanUpload, IsUploadWritten}
use Rattle.mu_distributor_rows.specs.Looks.{Seen}
use Rattle.mu_distributor_rows.specs.Messages.{upload_start_of}
use Rattle.mu_distributor_answers.specs.declared.messages.DistRequest.{DistRequest}
use Rattle.mu_distributor_answers.specs.declared.messages.DistRequest.TheVariants.{FirmwareGet, FirmwareDelete}
use Rattle.mu_distributor_answers.specs.declared.steps.DistStep.{DistStep}
use Rattle.mu_distributor_answers.specs.declared.steps.DistStep.TheVariants.{Tell, Distribution, Upload, DeleteImages, DeleteAllImages}

-- a Firmware ID that is asked for
abbrev pub HasFirmwareId : DistRequest → Type 0
HasFirmwareId (FirmwareGet fwid) = (2 ≤ length fwid.now) × (length fwid.now ≤ 108)
HasFirmwareId (FirmwareDelete fwid) = (2 ≤ length fwid.now) × (length fwid.now ≤ 108)
HasFirmwareId _ = Unit {0}

-- steps refuse with known statuses alone (MshDFU, Status)
abbrev pub IsKnownStep : DistStep → Type 0
IsKnownStep (Tell status) = status ≤ 13
IsKnownStep (Distribution step) = IsKnown step
IsKnownStep (Upload u step) = IsKnownUpload step
IsKnownStep _ = Unit {0}

-- an upload can do what it comes to, and images go while no upload is in part
abbrev pub CanStep : Seen → DistStep → Type 0
CanStep v (Upload u step) = CanUpload v (upload_start_of u) step
CanStep v (DeleteImages fwid) = is_in_part (run_seen v) ≡ false
CanStep v DeleteAllImages = is_in_part (run_seen v) ≡ false
CanStep v _ = Unit {0}

-- an image that comes is written, and nothing where a request tells something or is refused
abbrev pub IsWritten : DistStep → Bool → Type 0
IsWritten (Tell status) due = due ≡ false
IsWritten (Upload u step) due = IsUploadWritten step due
IsWritten _ due = Unit {0}
