-- What the steps of the table come to at a distributor.
use Rattle.std.specs.Prelude.{ℕ, ◌≡◌, ◌&&◌, ◌==◌, Bool, true, false, not, List, [], ◌∷◌, Option, Some, None, Result, Ok, Err}
use Rattle.std.specs.List.{filter}
use Rattle.mu_model_image.specs.declared.Meta.{Meta}
use Rattle.mu_model_node.specs.BlobServer.{unlinked, made_ready}
use Rattle.mu_model_node.specs.UpdateTable.{same_meta}
use Rattle.mu_model_distributor.specs.Requests.{UploadStart}
use Rattle.mu_model_distributor.specs.declared.DistPhase.TheVariants.{Idle, TransferSuspended}
use Rattle.mu_model_distributor.specs.DistState.{StoredImage, UploadJob, Uploading, DistState, job_of}
use Rattle.mu_model_distributor.specs.Distribution.{begun, resumes, in_phase, cancels, at_rest, applies}
use Rattle.mu_model_distributor.specs.Uploads.{with_upload, with_fields, with_session, finds, new_job, resumes as takes_up, upload_cancel}
use Rattle.mu_model_distributor.specs.Firmware.{has_id, with_images}
use Rattle.mu_distributor_kept.specs.declared.phase.UploadPhase.{UploadPhase}
use Rattle.mu_distributor_kept.specs.declared.phase.UploadPhase.TheVariants.{TransferError, TransferSuccess}
use Rattle.mu_distributor_rows.specs.declared.distribution.DistributionStep.{DistributionStep}
use Rattle.mu_distributor_rows.specs.declared.distribution.DistributionStep.TheVariants.{Keep, Begin, Resume, Suspend, Cancel, Rest, Apply, Refuse}
use Rattle.mu_distributor_rows.specs.declared.uploads.UploadStep.{UploadStep}
use Rattle.mu_distributor_rows.specs.declared.uploads.UploadStep.TheVariants.{Keep as KeepUpload, Resume as ResumeUpload, Store, Take, Refuse as RefuseUpload}
use Rattle.mu_distributor_rows.specs.Looks.{Seen}

-- ---- uploads

-- the job goes on, where there is one
abbrev pub taken_up : DistState → Option UploadJob → DistState
taken_up s None = s
taken_up s (Some j) = takes_up s j

-- a new job goes into a bank
abbrev pub taken_in : DistState → UploadStart → Meta → ℕ → DistState
taken_in s u meta bank = with_session (with_fields (with_upload s (Uploading (new_job u bank))) u.ttl meta) (made_ready s.moment (unlinked s.session))

abbrev pub upload_stepped : DistState → UploadStart → UploadStep → Result DistState ℕ
upload_stepped s u KeepUpload = Ok s
upload_stepped s u ResumeUpload = Ok (taken_up s (job_of s.durable.upload))
upload_stepped s u (Store meta) = Ok (finds s u meta)
upload_stepped s u (Take meta bank) = Ok (taken_in s u meta bank)
upload_stepped s u (RefuseUpload status) = Err status

-- ---- images

abbrev pub deleted : DistState → List ℕ → Result (Unit {0}) ℕ → Result DistState ℕ
deleted s fwid (Ok done) = Ok (with_images s (filter (λ (x : StoredImage). not (has_id fwid x)) s.durable.images))
deleted s fwid (Err status) = Err status

abbrev pub all_deleted : DistState → Result Bool ℕ → Result DistState ℕ
all_deleted s (Ok due) = Ok (with_images s [])
all_deleted s (Err status) = Err status

-- ---- a distribution

abbrev pub distribution_stepped : ℕ → DistState → DistributionStep → Result DistState ℕ
distribution_stepped address s Keep = Ok s
distribution_stepped address s (Begin ask) = Ok (begun address s ask)
distribution_stepped address s Resume = Ok (resumes address s)
distribution_stepped address s Suspend = Ok (in_phase s TransferSuspended)
distribution_stepped address s Cancel = Ok (cancels s s.client)
distribution_stepped address s Rest = Ok (at_rest s Idle)
distribution_stepped address s Apply = Ok (applies s s.client)
distribution_stepped address s (Refuse status) = Err status
