-- What the rows look at of a distributor in the model.
use Rattle.std.specs.Prelude.{ℕ, ◌≡◌, Bool, true, false, List, length, map, Option, is_some}
use Rattle.std.specs.Option.{option_map}
use Rattle.mu_model_image.specs.declared.Meta.{Meta}
use Rattle.mu_model_distributor.specs.declared.Settings.{Settings}
use Rattle.mu_model_distributor.specs.declared.DistPhase.{DistPhase}
use Rattle.mu_model_distributor.specs.DistState.{StoredImage, UploadJob, Upload, NoUpload, Uploading, Broken, Uploaded, DistState, job_of}
use Rattle.mu_model_distributor.specs.Uploads.{transfer_progress}
use Rattle.mu_model_represents_distributor.specs.RepresentsDistributor.{bank_of}
use Rattle.mu_distributor_kept.specs.declared.phase.UploadPhase.{UploadPhase}
use Rattle.mu_distributor_kept.specs.declared.phase.UploadPhase.TheVariants.{Idle, TransferActive, TransferError, TransferSuccess}
use Rattle.mu_distributor_rows.specs.declared.looks.UploadLook.{UploadLook}
use Rattle.mu_distributor_rows.specs.declared.looks.DistLook.{DistLook}

-- what is looked at, wherever the lists stand
pub record Seen : Type 0 where
  pub capacity : ℕ
  pub phase : DistPhase
  pub counter : ℕ
  pub settings : Settings
  pub receivers : ℕ
  pub banks : List ℕ
  pub metas : List Meta
  pub recorded : UploadPhase
  pub lags : Bool
  pub job : Option UploadLook
  pub upload_ttl : ℕ
  pub upload_meta : Meta

abbrev pub seen : DistLook → Seen
seen v = record {
  capacity = v.capacity;
  phase = v.phase;
  counter = v.counter;
  settings = v.settings;
  receivers = v.receivers;
  banks = v.banks.now;
  metas = v.metas.now;
  recorded = v.recorded;
  lags = v.lags;
  job = v.job;
  upload_ttl = v.upload_ttl;
  upload_meta = v.upload_meta;
}

abbrev pub meta_of : StoredImage → Meta
meta_of x = x.image.meta

abbrev pub job_look : UploadJob → UploadLook
job_look j = record {
  id = j.transfer.id;
  size = j.transfer.size;
  base = j.transfer.base;
  bank = j.bank;
  has_parameters = is_some j.transfer.parameters;
  progress = transfer_progress j.transfer;
}

-- the phase of an upload without its job
abbrev pub phase_of : Upload → UploadPhase
phase_of NoUpload = Idle
phase_of (Uploading j) = TransferActive
phase_of (Broken job) = TransferError
phase_of Uploaded = TransferSuccess

-- that of the run
abbrev pub run_phase : Bool → UploadPhase → UploadPhase
run_phase true TransferActive = TransferError
run_phase lags phase = phase

abbrev pub seen_of : DistState → Seen
seen_of s = record {
  capacity = s.durable.capacity;
  phase = s.durable.phase;
  counter = s.durable.counter;
  settings = s.durable.settings;
  receivers = length s.durable.receivers;
  banks = map bank_of s.durable.images;
  metas = map meta_of s.durable.images;
  recorded = phase_of s.durable.upload;
  lags = s.lags;
  job = option_map job_look (job_of s.durable.upload);
  upload_ttl = s.durable.upload_ttl;
  upload_meta = s.durable.upload_meta;
}

-- what is looked at is the distributor's
pub record LooksAs (look : DistLook) (s : DistState) : Type 0 where
  pub same : seen look ≡ seen_of s
