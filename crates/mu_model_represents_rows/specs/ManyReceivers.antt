-- Notes of a distributor with as many receivers as there may be, at 0001 to 0080, and with one more, octet by octet.
use Rattle.std.specs.Prelude.{ℕ, List, [], ◌∷◌, ◌++◌, map, None}
use Rattle.std.specs.List.{flat_map, range_with_len}
use Rattle.mu_model_record.specs.declared.Record.{Record}
use Rattle.mu_model_record.specs.declared.BankState.TheVariants.{Empty}
use Rattle.mu_model_record.specs.Record.{zeros}
use Rattle.mu_model_distributor.specs.DistState.{Receiver}
use Rattle.mu_model_distributor.specs.declared.DistPhase.TheVariants.{Idle}
use Rattle.mu_model_represents_distributor.specs.DistributorNote.{UploadIdle, DistributorNote}
use Rattle.mu_model_represents_distributor.specs.RepresentsDistributor.{IsDistributorRecord, IsNoDistributorRecord}
use Rattle.mu_model_represents_rows.specs.NodeRecords.{record_of}

-- the six octets of a receiver of which nothing was learnt yet
abbrev pub row_octets : ℕ → List ℕ
row_octets address = address ∷ 0 ∷ 0 ∷ 10 ∷ 0 ∷ 0 ∷ []

abbrev pub receiver_at : ℕ → Receiver
receiver_at address = record { address = address; index = 0; phase = 10; update_status = 0; transfer_status = 0 }

-- what stands before the rows, with so many receivers
abbrev pub written_for : ℕ → List ℕ
written_for receivers = (2 ∷ 0 ∷ 0 ∷ 0 ∷ 0 ∷ 0 ∷ 0 ∷ 0 ∷ 0 ∷ 0 ∷ 0 ∷ 0 ∷ 0 ∷ 0 ∷ 0 ∷ 0 ∷ 0 ∷ 0 ∷ 0 ∷ 0 ∷ 0 ∷ 0 ∷ 0 ∷ 0 ∷ 0 ∷ 0 ∷ receivers ∷ 0 ∷ 0 ∷ 0 ∷ 0 ∷ 0 ∷ 0 ∷ 0 ∷ 0 ∷ 0 ∷ []) ++ (zeros 32 ++ zeros 60)

abbrev pub record_for : ℕ → List ℕ → Record
record_for receivers rows = record_of 4 (Empty ∷ Empty ∷ Empty ∷ Empty ∷ []) (zeros 64 ++ (written_for receivers ++ rows))

abbrev pub most_record : Record
most_record = record_for 128 (flat_map row_octets (range_with_len 1 128) ++ zeros 832)

abbrev pub most_note : DistributorNote
most_note = record {
  phase = Idle;
  upload = UploadIdle;
  banks = [];
  counter = 0;
  settings = record { appkey = 0; ttl = 0; base = 0; mode = 0; policy = 0; image = 0; group = 0 };
  receivers = map receiver_at (range_with_len 1 128);
  upload_ttl = 0;
  upload_meta = record { size = 0; version = 0; digest = zeros 32 };
}

abbrev pub longer_record : Record
longer_record = record_for 129 (flat_map row_octets (range_with_len 1 129) ++ zeros 826)

pub record ManyReceivers : Type 0 where
  pub most : IsDistributorRecord most_record None most_note
  -- whatever it would say
  pub one_more : IsNoDistributorRecord longer_record
