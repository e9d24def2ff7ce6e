-- Records that are a distributor's, octet by octet, at the ends of the ranges of their fields.
use Rattle.std.specs.Prelude.{ℕ, List, [], ◌∷◌, ◌++◌, replicate, Option, Some, None}
use Rattle.mu_model_record.specs.declared.Record.{Record}
use Rattle.mu_model_record.specs.declared.BankState.TheVariants.{Empty}
use Rattle.mu_model_record.specs.Record.{zeros}
use Rattle.mu_model_distributor.specs.declared.DistPhase.TheVariants.{Idle, TransferActive, Completed, Failed, TransferSuspended}
use Rattle.mu_model_represents.specs.BlobPart.{BlobJob}
use Rattle.mu_model_represents_distributor.specs.DistributorNote.{UploadIdle, UploadActive, UploadError, UploadSuccess, DistributorNote}
use Rattle.mu_model_represents_distributor.specs.RepresentsDistributor.{IsDistributorRecord}
use Rattle.mu_model_represents_rows.specs.NodeRecords.{first, record_of}

-- nothing but the four banks
abbrev pub least_written : List ℕ
least_written = (2 ∷ 0 ∷ 0 ∷ 0 ∷ 0 ∷ 0 ∷ 0 ∷ 0 ∷ 0 ∷ 0 ∷ 0 ∷ 0 ∷ 0 ∷ 0 ∷ 0 ∷ 0 ∷ 0 ∷ 0 ∷ 0 ∷ 0 ∷ 0 ∷ 0 ∷ 0 ∷ 0 ∷ 0 ∷ 0 ∷ 0 ∷ 0 ∷ 0 ∷ 0 ∷ 0 ∷ 0 ∷ 0 ∷ 0 ∷ 0 ∷ 0 ∷ []) ++ (zeros 32 ++ zeros 60)

abbrev pub least_record : Record
least_record = record_of 4 (Empty ∷ Empty ∷ Empty ∷ Empty ∷ []) (zeros 64 ++ (least_written ++ zeros 1600))

abbrev pub least_note : DistributorNote
least_note = record {
  phase = Idle;
  upload = UploadIdle;
  banks = [];
  counter = 0;
  settings = record { appkey = 0; ttl = 0; base = 0; mode = 0; policy = 0; image = 0; group = 0 };
  receivers = [];
  upload_ttl = 0;
  upload_meta = record { size = 0; version = 0; digest = zeros 32 };
}

-- each number at its greatest: a counter of 2^48 - 1, push and pull as on the wire, a group FFFF, an AppKey index of 4095, a row of 7FFF
abbrev pub most_written : List ℕ
most_written = (2 ∷ 4 ∷ 3 ∷ 4 ∷ 3 ∷ 2 ∷ 1 ∷ 0 ∷ 255 ∷ 255 ∷ 255 ∷ 255 ∷ 255 ∷ 255 ∷ 0 ∷ 0 ∷ 255 ∷ 255 ∷ 255 ∷ 6 ∷ 255 ∷ 255 ∷ 255 ∷ 255 ∷ 255 ∷ 15 ∷ 1 ∷ 255 ∷ 255 ∷ 255 ∷ 255 ∷ 255 ∷ 255 ∷ 255 ∷ 255 ∷ 255 ∷ []) ++ (replicate 32 255 ++ (zeros 60 ++ (255 ∷ 127 ∷ 255 ∷ 10 ∷ 7 ∷ 10 ∷ [])))

abbrev pub most_record : Record
most_record = record_of 4 (first ∷ first ∷ first ∷ first ∷ []) (zeros 64 ++ (most_written ++ zeros 1594))

abbrev pub most_note : DistributorNote
most_note = record {
  phase = Completed;
  upload = UploadSuccess;
  banks = (3 ∷ 2 ∷ 1 ∷ 0 ∷ []);
  counter = 281474976710655;
  settings = record { appkey = 4095; ttl = 255; base = 65535; mode = 2; policy = 1; image = 65535; group = 65535 };
  receivers = record { address = 32767; index = 255; phase = 10; update_status = 7; transfer_status = 10 } ∷ [];
  upload_ttl = 255;
  upload_meta = record { size = 4294967295; version = 4294967295; digest = replicate 32 255 };
}

-- a suspended distribution of the last of four images, each other number at its least
abbrev pub last_image_written : List ℕ
last_image_written = (2 ∷ 7 ∷ 2 ∷ 4 ∷ 0 ∷ 1 ∷ 2 ∷ 3 ∷ 1 ∷ 0 ∷ 0 ∷ 0 ∷ 0 ∷ 0 ∷ 0 ∷ 0 ∷ 0 ∷ 0 ∷ 0 ∷ 1 ∷ 3 ∷ 0 ∷ 0 ∷ 192 ∷ 0 ∷ 0 ∷ 1 ∷ 0 ∷ 0 ∷ 0 ∷ 0 ∷ 0 ∷ 0 ∷ 0 ∷ 0 ∷ 0 ∷ []) ++ (zeros 32 ++ (zeros 60 ++ (1 ∷ 0 ∷ 0 ∷ 0 ∷ 0 ∷ 0 ∷ [])))

abbrev pub last_image_record : Record
last_image_record = record_of 4 (first ∷ first ∷ first ∷ first ∷ []) (zeros 64 ++ (last_image_written ++ zeros 1594))

abbrev pub last_image_note : DistributorNote
last_image_note = record {
  phase = TransferSuspended;
  upload = UploadError;
  banks = (0 ∷ 1 ∷ 2 ∷ 3 ∷ []);
  counter = 1;
  settings = record { appkey = 0; ttl = 0; base = 0; mode = 1; policy = 0; image = 3; group = 49152 };
  receivers = record { address = 1; index = 0; phase = 0; update_status = 0; transfer_status = 0 } ∷ [];
  upload_ttl = 0;
  upload_meta = record { size = 0; version = 0; digest = zeros 32 };
}

-- an upload into the last bank, beside a distribution that has failed
abbrev pub uploading_written : List ℕ
uploading_written = (2 ∷ 5 ∷ 1 ∷ 0 ∷ 0 ∷ 0 ∷ 0 ∷ 0 ∷ 1 ∷ 0 ∷ 0 ∷ 0 ∷ 0 ∷ 0 ∷ 0 ∷ 0 ∷ 0 ∷ 0 ∷ 0 ∷ 1 ∷ 0 ∷ 0 ∷ 0 ∷ 0 ∷ 0 ∷ 0 ∷ 0 ∷ 1 ∷ 0 ∷ 16 ∷ 0 ∷ 0 ∷ 0 ∷ 0 ∷ 0 ∷ 0 ∷ []) ++ (replicate 32 17 ++ zeros 60)

abbrev pub uploading_record : Record
uploading_record = record_of 4 (Empty ∷ Empty ∷ Empty ∷ Empty ∷ []) (((1 ∷ 0 ∷ 0 ∷ 0 ∷ 7 ∷ 0 ∷ 0 ∷ 0 ∷ 0 ∷ 0 ∷ 0 ∷ 0 ∷ 0 ∷ 16 ∷ 0 ∷ 0 ∷ 255 ∷ 255 ∷ 3 ∷ 0 ∷ []) ++ zeros 44) ++ (uploading_written ++ zeros 1600))

abbrev pub uploading_note : DistributorNote
uploading_note = record {
  phase = Failed;
  upload = UploadActive;
  banks = [];
  counter = 1;
  settings = record { appkey = 0; ttl = 0; base = 0; mode = 1; policy = 0; image = 0; group = 0 };
  receivers = [];
  upload_ttl = 1;
  upload_meta = record { size = 4096; version = 0; digest = replicate 32 17 };
}

abbrev pub uploading_part : Option BlobJob
uploading_part = Some (record { id = 7; size = 4096; base = 65535; bank = 3; parameters = None })

-- one that was broken off, during a distribution
abbrev pub broken_written : List ℕ
broken_written = (2 ∷ 1 ∷ 2 ∷ 1 ∷ 0 ∷ 0 ∷ 0 ∷ 0 ∷ 1 ∷ 0 ∷ 0 ∷ 0 ∷ 0 ∷ 0 ∷ 0 ∷ 0 ∷ 0 ∷ 0 ∷ 0 ∷ 1 ∷ 0 ∷ 0 ∷ 0 ∷ 0 ∷ 0 ∷ 0 ∷ 1 ∷ 1 ∷ 1 ∷ 0 ∷ 0 ∷ 0 ∷ 0 ∷ 0 ∷ 0 ∷ 0 ∷ []) ++ (replicate 32 17 ++ (zeros 60 ++ (1 ∷ 0 ∷ 0 ∷ 0 ∷ 0 ∷ 0 ∷ [])))

abbrev pub broken_record : Record
broken_record = record_of 4 (first ∷ Empty ∷ Empty ∷ Empty ∷ []) (((1 ∷ 0 ∷ 0 ∷ 0 ∷ 7 ∷ 0 ∷ 0 ∷ 0 ∷ 0 ∷ 0 ∷ 0 ∷ 0 ∷ 1 ∷ 0 ∷ 0 ∷ 0 ∷ 0 ∷ 0 ∷ 1 ∷ 0 ∷ []) ++ zeros 44) ++ (broken_written ++ zeros 1594))

abbrev pub broken_note : DistributorNote
broken_note = record {
  phase = TransferActive;
  upload = UploadError;
  banks = (0 ∷ []);
  counter = 1;
  settings = record { appkey = 0; ttl = 0; base = 0; mode = 1; policy = 0; image = 0; group = 0 };
  receivers = record { address = 1; index = 0; phase = 0; update_status = 0; transfer_status = 0 } ∷ [];
  upload_ttl = 1;
  upload_meta = record { size = 1; version = 0; digest = replicate 32 17 };
}

abbrev pub broken_part : Option BlobJob
broken_part = Some (record { id = 7; size = 1; base = 0; bank = 1; parameters = None })

pub record DistributorRecords : Type 0 where
  pub least : IsDistributorRecord least_record None least_note
  pub most : IsDistributorRecord most_record None most_note
  pub last_image : IsDistributorRecord last_image_record None last_image_note
  pub uploading : IsDistributorRecord uploading_record uploading_part uploading_note
  pub broken : IsDistributorRecord broken_record broken_part broken_note
