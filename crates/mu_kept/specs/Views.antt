-- What callers see of a store that keeps a job.
use Rattle.std.specs.Prelude.{ℕ, Bool, true, false, List, [], replicate, Option, Some, None, if◌then◌else◌, length, slice_index_or}
use Rattle.std.specs.List.{list_all}
use Rattle.std.specs.Option.{option_map}
use Rattle.mu_model_image.specs.Pieces.{block_count}
use Rattle.mu_model_record.specs.declared.BankState.{BankState}
use Rattle.mu_model_record.specs.declared.BankState.TheVariants.{Empty, Filling, Sealed}
use Rattle.mu_model_record.specs.Record.{entry_of, capacity_of}
use Rattle.mu_model_node.specs.declared.Parameters.{Parameters}
use Rattle.mu_model_represents.specs.BlobPart.{BlobJob as PartJob}
use Rattle.mu_note.specs.declared.blob.BlobJob.{BlobJob}
use Rattle.mu_note.specs.Views.{part_job}
use Rattle.mu_place.specs.declared.place.Place.{Place}
use Rattle.mu_place.specs.Place.{place_record, place_held}
use Rattle.mu_blob_rows.specs.declared.looks.TransferLook.{TransferLook}
use Rattle.mu_blob_rows.specs.declared.looks.Serving.{Serving}
use Rattle.mu_blob_rows.specs.declared.looks.Serving.TheVariants.{NoJob, Lacking, Whole}
use Rattle.mu_blob_rows.specs.declared.table.BlocksLook.{BlocksLook}
use Rattle.mu_blob_session.specs.declared.session.Kept.{Kept}
use Rattle.mu_kept.specs.declared.store.Expect.{Expect}
use Rattle.mu_kept.specs.declared.store.JobStore.{JobStore}

-- the store that it owns, and the job that its tag says
abbrev pub place_in : {F : Type 0} {g : _} → JobStore F g → Place F g
place_in store = store.place

abbrev pub job_in : {F : Type 0} {g : _} → JobStore F g → Option BlobJob
job_in store = store.job

-- the job as the definitions of the tag's octets speak of it
abbrev pub part_in : {F : Type 0} {g : _} → JobStore F g → Option PartJob
part_in store = option_map part_job (job_in store)

-- ---- jobs

-- the bank that a job's image comes into
abbrev pub bank_of : Option BlobJob → ℕ
bank_of None = 0
bank_of (Some j) = j.bank

abbrev pub bank_in : {F : Type 0} {g : _} → JobStore F g → ℕ
bank_in store = bank_of (job_in store)

abbrev pub with_parameters : Option Parameters → BlobJob → BlobJob
with_parameters parameters j = record { id = j.id; size = j.size; base = j.base; bank = j.bank; parameters = parameters }

-- what is expected for a job, and the job that is written for it: one without parameters
abbrev pub expect_of : BlobJob → Expect
expect_of j = record { id = j.id; size = j.size; base = j.base; bank = j.bank }

abbrev pub expected : Expect → BlobJob
expected what = record { id = what.id; size = what.size; base = what.base; bank = what.bank; parameters = None }

abbrev pub are_there : Option Parameters → Bool
are_there None = false
are_there (Some p) = true

abbrev pub has_parameters : Option BlobJob → Bool
has_parameters None = false
has_parameters (Some j) = are_there j.parameters

-- ---- the job's blocks

abbrev pub is_filling : BankState → Bool
is_filling Empty = false
is_filling (Filling size log) = true
is_filling (Sealed meta) = false

-- whether the job's bank is being filled
abbrev pub fills_by : {F : Type 0} {g : _} → Place F g → Option BlobJob → Bool
fills_by place None = false
fills_by place (Some j) = is_filling (entry_of (place_record place) j.bank)

abbrev pub fills_in : {F : Type 0} {g : _} → JobStore F g → Bool
fills_in store = fills_by (place_in store) (job_in store)

-- whether each block is held: as it is marked where the bank is being filled, and all are where it is Sealed
abbrev pub flags_by : BankState → List Bool → Parameters → List Bool
flags_by Empty marks p = []
flags_by (Filling size log) marks p = marks
flags_by (Sealed meta) marks p = replicate (block_count p.size p.log) true

-- there is none without parameters
abbrev pub flags_with : BankState → List Bool → Option Parameters → List Bool
flags_with entry marks None = []
flags_with entry marks (Some p) = flags_by entry marks p

abbrev pub flags_of : {F : Type 0} {g : _} → Place F g → Option BlobJob → List Bool
flags_of place None = []
flags_of place (Some j) = flags_with (entry_of (place_record place) j.bank) (place_held place) j.parameters

abbrev pub flags_in : {F : Type 0} {g : _} → JobStore F g → List Bool
flags_in store = flags_of (place_in store) (job_in store)

-- ---- what the rows look at

abbrev pub transfer_look : BlobJob → TransferLook
transfer_look j = record { id = j.id; size = j.size; base = j.base; parameters = j.parameters }

-- a job without parameters lacks its blocks
abbrev pub serving_by : TransferLook → Option Parameters → List Bool → Serving
serving_by t None flags = Lacking t
serving_by t (Some p) flags = if list_all (λ held. held) flags then Whole t else Lacking t

abbrev pub serving_of : Option BlobJob → List Bool → Serving
serving_of None flags = NoJob
serving_of (Some j) flags = serving_by (transfer_look j) j.parameters flags

abbrev pub serving_in : {F : Type 0} {g : _} → JobStore F g → Serving
serving_in store = serving_of (job_in store) (flags_in store)

abbrev pub kept_in : {F : Type 0} {g : _} → JobStore F g → Kept
kept_in store = record { capacity = capacity_of (place_record (place_in store)); serving = serving_in store }

abbrev pub is_whole : Serving → Bool
is_whole NoJob = false
is_whole (Lacking t) = false
is_whole (Whole t) = true

abbrev pub blocks_in : {F : Type 0} {g : _} → JobStore F g → ℕ → BlocksLook
blocks_in store block = record { count = length (flags_in store); is_held = slice_index_or (flags_in store) block false }
