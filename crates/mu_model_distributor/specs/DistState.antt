-- A distributor: what it keeps over a power cut, and what it has while it runs (MshDFU, Firmware Distribution Server states).
use Rattle.std.specs.Prelude.{ℕ, ◌+◌, ◌*◌, ◌^◌, Bool, true, false, List, [], ◌∷◌, ◌++◌, map, Option, Some, None, slice_get}
use Rattle.byteorder.specs.Endian.{little_bytes}
use Rattle.mu_model_image.specs.declared.Meta.{Meta}
use Rattle.mu_model_image.specs.Meta.{Image}
use Rattle.mu_model_node.specs.BlobServer.{Transfer, Session, Serving, NoJob, serving_of, Server}
use Rattle.mu_model_distributor.specs.Requests.{Settings}
use Rattle.mu_model_client.specs.Rows.{Row}
use Rattle.mu_model_client.specs.Client.{Client}
pub use Rattle.mu_model_distributor.specs.declared.DistPhase.{DistPhase}
pub use Rattle.mu_model_distributor.specs.declared.DistPhase.TheVariants.{Idle, TransferActive, TransferSuccess, ApplyingUpdate, Completed, Failed, CancelingUpdate, TransferSuspended}

-- ---- kept

-- an image, and the bank that has it
pub record StoredImage : Type 0 where
  pub bank : ℕ
  pub image : Image

-- a receiver, and what is known of it
pub record Receiver : Type 0 where
  pub address : ℕ
  -- the index of the image that it is to update
  pub index : ℕ
  -- its update phase, or a verdict (this profile)
  pub phase : ℕ
  pub update_status : ℕ
  pub transfer_status : ℕ

-- a receiver in a record (this profile)
abbrev pub receiver_octets : Receiver → List ℕ
receiver_octets r = little_bytes 2 r.address ++ (r.index ∷ r.phase ∷ r.update_status ∷ r.transfer_status ∷ [])

-- an image that comes, and the bank that takes it
pub record UploadJob : Type 0 where
  pub transfer : Transfer
  pub bank : ℕ

-- each with its job (MshDFU, Upload Phase)
pub data Upload : Type 0 where
  NoUpload : Upload
  Uploading : UploadJob → Upload
  -- what came was broken off, or isn't the image that was offered: then there is no job
  Broken : Option UploadJob → Upload
  Uploaded : Upload

pub record DistDurable : Type 0 where
  -- how many records were written
  pub count : ℕ
  -- octets of a bank
  pub capacity : ℕ
  -- in the order in which they were stored
  pub images : List StoredImage
  pub phase : DistPhase
  -- how many distributions were started
  pub counter : ℕ
  -- those of the last one
  pub settings : Settings
  pub receivers : List Receiver
  pub upload_ttl : ℕ
  pub upload_meta : Meta
  pub upload : Upload

-- ---- running

pub record DistState : Type 0 where
  pub durable : DistDurable
  -- slots after the present record that this run may still use, 0 to 3
  pub fresh : ℕ
  -- the record says that the upload is active, and the run that it was broken off
  pub lags : Bool
  pub session : Session
  -- none in the phases Idle, Completed and Failed
  pub client : Option Client
  -- per cent, for each receiver
  pub progress : List ℕ
  -- the greatest moment that it was handed, in milliseconds
  pub moment : ℕ

-- ---- on the wire

abbrev pub dist_number : DistPhase → ℕ
dist_number Idle = 0
dist_number TransferActive = 1
dist_number TransferSuccess = 2
dist_number ApplyingUpdate = 3
dist_number Completed = 4
dist_number Failed = 5
dist_number CancelingUpdate = 6
dist_number TransferSuspended = 7

abbrev pub upload_number : Upload → ℕ
upload_number NoUpload = 0
upload_number (Uploading j) = 1
upload_number (Broken job) = 2
upload_number Uploaded = 3

-- ---- the upload

abbrev pub job_of : Upload → Option UploadJob
job_of (Uploading j) = Some j
job_of (Broken job) = job
job_of _ = None

-- the upload of the run
abbrev pub run_by : Bool → Upload → Upload
run_by true (Uploading j) = Broken (Some j)
run_by _ upload = upload

abbrev pub run_upload : DistState → Upload
run_upload s = run_by s.lags s.durable.upload

-- what the distributor says of its job
abbrev pub serving_job : Option UploadJob → Serving
serving_job None = NoJob
serving_job (Some j) = serving_of j.transfer

abbrev pub server_of : DistState → Server
server_of s = record {
  capacity = s.durable.capacity;
  serving = serving_job (job_of s.durable.upload);
  session = s.session;
  now = s.moment;
}

-- ---- the distribution

-- no distribution: Idle, Completed and Failed
abbrev pub is_at_rest : DistPhase → Bool
is_at_rest Idle = true
is_at_rest Completed = true
is_at_rest Failed = true
is_at_rest _ = false

-- the BLOB ID of the present transfer (this profile)
abbrev pub transfer_id : ℕ → DistDurable → ℕ
transfer_id address d = address * 2 ^ 48 + d.counter

-- the image that is distributed
abbrev pub offered : DistDurable → Option StoredImage
offered d = slice_get d.images d.settings.image

-- ---- rows

-- a receiver with its progress
abbrev pub row_of : Receiver → ℕ → Row
row_of r progress = record {
  address = r.address;
  phase = r.phase;
  update_status = r.update_status;
  transfer_status = r.transfer_status;
  progress = progress;
  index = r.index;
}

abbrev pub rows_by : List Receiver → List ℕ → List Row
rows_by [] progress = []
rows_by (r ∷ receivers) [] = row_of r 0 ∷ rows_by receivers []
rows_by (r ∷ receivers) (n ∷ progress) = row_of r n ∷ rows_by receivers progress

abbrev pub rows_of : DistState → List Row
rows_of s = rows_by s.durable.receivers s.progress

-- what is kept of a row
abbrev pub receiver_of : Row → Receiver
receiver_of row = record {
  address = row.address;
  index = row.index;
  phase = row.phase;
  update_status = row.update_status;
  transfer_status = row.transfer_status;
}

abbrev pub progress_of : Row → ℕ
progress_of row = row.progress

-- no progress yet
abbrev pub no_progress : List Receiver → List ℕ
no_progress receivers = map (λ (r : Receiver). 0) receivers
