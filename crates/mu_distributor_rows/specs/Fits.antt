-- Rows refuse with known statuses alone (MshDFU, Status), and what they lead to can be done.
use Rattle.std.specs.Prelude.{ℕ, ◌≡◌, ◌<◌, ◌≤◌, Bool, true, false, Option, Some, None, is_some}
use Rattle.mu_model_distributor.specs.Requests.{UploadStart}
use Rattle.mu_distributor_rows.specs.declared.looks.UploadLook.{UploadLook}
use Rattle.mu_distributor_rows.specs.declared.distribution.DistributionStep.{DistributionStep}
use Rattle.mu_distributor_rows.specs.declared.distribution.DistributionStep.TheVariants.{Refuse}
use Rattle.mu_distributor_rows.specs.declared.uploads.UploadStep.{UploadStep}
use Rattle.mu_distributor_rows.specs.declared.uploads.UploadStep.TheVariants.{Resume, Take, Refuse as RefuseUpload}
use Rattle.mu_distributor_rows.specs.Looks.{Seen}

abbrev pub IsKnown : DistributionStep → Type 0
IsKnown (Refuse status) = status ≤ 13
IsKnown _ = Unit {0}

abbrev pub IsKnownUpload : UploadStep → Type 0
IsKnownUpload (RefuseUpload status) = status ≤ 13
IsKnownUpload _ = Unit {0}

-- a job goes on where there is one, and an image comes into one of the four banks, which has room for it
abbrev pub CanUpload : Seen → UploadStart → UploadStep → Type 0
CanUpload v u Resume = is_some v.job ≡ true
CanUpload v u (Take meta bank) = (bank < 4) × (1 ≤ u.size) × (u.size ≤ v.capacity)
CanUpload v u _ = Unit {0}

-- an image that comes is written, and nothing where a request is refused
abbrev pub IsUploadWritten : UploadStep → Bool → Type 0
IsUploadWritten (Take meta bank) due = due ≡ true
IsUploadWritten (RefuseUpload status) due = due ≡ false
IsUploadWritten _ due = Unit {0}

abbrev pub IsPercent : Option UploadLook → Type 0
IsPercent None = Unit {0}
IsPercent (Some j) = j.progress ≤ 100
