-- What a distributor keeps, as a function of a store's state: its tag is read by place and width.
use Rattle.std.specs.Prelude.{◌≡◌, ◌==◌, ◌+◌, ◌*◌, ◌/◌, ◌%◌, ℕ, List, [], ◌∷◌, Option, Some, None, map, take, slice_index, if◌then◌else◌}
use Rattle.std.specs.List.{range_with_len}
use Rattle.mu_model_image.specs.Meta.{meta_of}
use Rattle.mu_model_flash.specs.Bits.{part_of}
use Rattle.mu_model_record.specs.Record.{number_at, capacity_of}
use Rattle.mu_model_record.specs.Store.{StoreState}
use Rattle.mu_model_distributor.specs.declared.Settings.{Settings}
use Rattle.mu_model_distributor.specs.declared.DistPhase.{DistPhase}
use Rattle.mu_model_distributor.specs.declared.DistPhase.TheVariants.{Idle, TransferActive, TransferSuccess, ApplyingUpdate, Completed, Failed, CancelingUpdate, TransferSuspended}
use Rattle.mu_model_distributor.specs.DistState.{StoredImage, Receiver, DistDurable}
use Rattle.mu_model_represents.specs.BlobPart.{blob_part, note_part}
use Rattle.mu_model_represents_distributor.specs.DistributorNote.{UploadPhase, UploadIdle, UploadActive, UploadError, UploadSuccess, DistributorNote, SpellsDistributor}
use Rattle.mu_model_represents_distributor.specs.RepresentsDistributor.{upload_job_in, upload_by, IsDistributor}
pub use Rattle.mu_model_jobs.specs.Images.{no_meta, meta_in, octets_in, image_in}
use Rattle.mu_model_jobs.specs.Parts.{part_in}

-- ---- the note

-- (MshDFU, Distribution Phase and Upload Phase)
abbrev pub phase_in : ℕ → DistPhase
phase_in n =
    if n == 0 then Idle else if n == 1 then TransferActive else if n == 2 then TransferSuccess else if n == 3 then ApplyingUpdate
    else if n == 4 then Completed else if n == 5 then Failed else if n == 6 then CancelingUpdate else TransferSuspended

abbrev pub upload_in : ℕ → UploadPhase
upload_in n = if n == 0 then UploadIdle else if n == 1 then UploadActive else if n == 2 then UploadError else UploadSuccess

abbrev pub settings_in : List ℕ → Settings
settings_in octets = record {
  appkey = number_at 2 octets 24;
  ttl = slice_index octets 16;
  base = number_at 2 octets 17;
  mode = slice_index octets 19 % 4;
  policy = slice_index octets 19 / 4;
  image = number_at 2 octets 20;
  group = number_at 2 octets 22;
}

abbrev pub receiver_in : List ℕ → Receiver
receiver_in octets = record {
  address = number_at 2 octets 0;
  index = slice_index octets 2;
  phase = slice_index octets 3;
  update_status = slice_index octets 4;
  transfer_status = slice_index octets 5;
}

-- the row of six octets of receiver k
abbrev pub row_in : List ℕ → ℕ → Receiver
row_in octets k = receiver_in (part_of octets (128 + 6 * k) 6)

abbrev pub bank_in : List ℕ → ℕ → ℕ
bank_in octets k = slice_index octets (4 + k)

abbrev pub note_in : List ℕ → DistributorNote
note_in octets = record {
  phase = phase_in (slice_index octets 1);
  upload = upload_in (slice_index octets 2);
  banks = map (bank_in octets) (range_with_len 0 (slice_index octets 3));
  counter = number_at 8 octets 8;
  settings = settings_in octets;
  receivers = map (row_in octets) (range_with_len 0 (slice_index octets 26));
  upload_ttl = slice_index octets 27;
  upload_meta = meta_of (part_of octets 28 40);
}

-- what the octets say is what the function gives
abbrev pub DistributorNoteIsRead : Type 0
DistributorNoteIsRead = (n : DistributorNote) (octets : List ℕ) → SpellsDistributor n octets → note_in octets ≡ n

-- ---- the distributor

abbrev pub stored_in : StoreState → ℕ → StoredImage
stored_in s bank = record { bank = bank; image = image_in s bank }

abbrev pub note_of_store : StoreState → DistributorNote
note_of_store s = note_in (note_part s.present.tag)

abbrev pub distributor_by : StoreState → DistributorNote → DistDurable
distributor_by s n = record {
  count = s.present.count;
  capacity = capacity_of s.present;
  images = map (stored_in s) n.banks;
  phase = n.phase;
  counter = n.counter;
  settings = n.settings;
  receivers = n.receivers;
  upload_ttl = n.upload_ttl;
  upload_meta = n.upload_meta;
  upload = upload_by n.upload (upload_job_in s (part_in (blob_part s.present.tag)));
}

abbrev pub distributor_in : StoreState → DistDurable
distributor_in s = distributor_by s (note_of_store s)

-- a store that represents a distributor represents this one
abbrev pub DistributorIsRead : Type 0
DistributorIsRead = (s : StoreState) (d : DistDurable) → IsDistributor s d → distributor_in s ≡ d
