-- What steps make of what is in memory.
use Rattle.std.specs.Prelude.{◌≡◌, ◌<◌, ◌++◌, ◌∷◌, [], ℕ, false, Bool, true, List, length}
use Rattle.mu_model_image.specs.declared.Meta.{Meta}
use Rattle.mu_model_distributor.specs.Requests.{UploadStart}
use Rattle.mu_distributor_kept.specs.declared.phase.UploadPhase.{UploadPhase}
use Rattle.mu_distributor_kept.specs.declared.phase.UploadPhase.TheVariants.{Idle, TransferActive, TransferError, TransferSuccess}
use Rattle.mu_distributor_rows.specs.declared.uploads.UploadStep.{UploadStep}
use Rattle.mu_distributor_rows.specs.declared.uploads.UploadStep.TheVariants.{Keep, Resume, Store, Take, Refuse}
use Rattle.mu_distributor_answers.specs.declared.steps.DistStep.{DistStep}
use Rattle.mu_distributor_answers.specs.declared.steps.DistStep.TheVariants.{Upload, CancelUpload}
use Rattle.mu_distributor_note.specs.declared.note.NoteHead.{NoteHead}
use Rattle.mu_distributor_memory.specs.declared.memory.Memory.{Memory}
use Rattle.mu_distributor_memory.specs.Shows.{rows_in}

-- the fields that a step of an upload may change
pub record UploadFields : Type 0 where
  pub upload : UploadPhase
  pub lags : Bool
  pub ttl : ℕ
  pub meta : Meta

abbrev pub upload_fields : Memory → UploadFields
upload_fields m = record { upload = m.head.upload; lags = m.lags; ttl = m.head.upload_ttl; meta = m.head.upload_meta }

abbrev pub fields_after : UploadStart → UploadStep → UploadFields → UploadFields
fields_after u Keep f = f
fields_after u Resume f = record { upload = TransferActive; lags = false; ttl = f.ttl; meta = f.meta }
fields_after u (Store meta) f = record { upload = TransferSuccess; lags = false; ttl = u.ttl; meta = meta }
fields_after u (Take meta bank) f = record { upload = TransferActive; lags = false; ttl = u.ttl; meta = meta }
fields_after u (Refuse status) f = f

-- the phase of the upload after a step
abbrev pub phase_by : UploadStep → UploadPhase → UploadPhase
phase_by Resume phase = TransferActive
phase_by (Store meta) phase = TransferSuccess
phase_by (Take meta bank) phase = TransferActive
phase_by _ phase = phase

abbrev pub phase_after : DistStep → UploadPhase → UploadPhase
phase_after (Upload u step) phase = phase_by step phase
phase_after CancelUpload phase = Idle
phase_after _ phase = phase

-- all but these, and but the images
pub record SameBesideUpload (old new : Memory) : Type 0 where
  pub phase : new.head.phase ≡ old.head.phase
  pub counter : new.head.counter ≡ old.head.counter
  pub settings : new.head.settings ≡ old.head.settings
  pub rows : rows_in new ≡ rows_in old

-- the images too
pub record SameImages (old new : Memory) : Type 0 where
  pub banks : new.head.banks ≡ old.head.banks
  pub metas : new.metas ≡ old.metas
