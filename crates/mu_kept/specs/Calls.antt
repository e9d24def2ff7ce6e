-- What a call on a store that keeps a job does and answers.
use Rattle.std.specs.Prelude.{◌≡◌, ℕ, ◌<◌, Bool, true, false, List, [], Option, Some, None, IfSome, Result, Err, slice_index_or, slice_set}
use Rattle.mu_model_image.specs.Pieces.{block_count, block_length}
use Rattle.mu_model_record.specs.declared.Record.{Record}
use Rattle.mu_model_record.specs.declared.BankState.{BankState}
use Rattle.mu_model_record.specs.declared.BankState.TheVariants.{Empty}
use Rattle.mu_model_record.specs.Store.{StoreState}
use Rattle.mu_model_record.specs.Changes.{tagged, emptied}
use Rattle.mu_model_node.specs.declared.Parameters.{Parameters}
use Rattle.mu_model_represents.specs.BlobPart.{note_part}
use Rattle.mu_store.specs.declared.faults.StoreFault.{StoreFault}
use Rattle.mu_note.specs.declared.blob.BlobJob.{BlobJob}
use Rattle.mu_place.specs.declared.place.FillingBank.{FillingBank}
use Rattle.mu_place.specs.declared.place.Place.{Place}
use Rattle.mu_place.specs.Place.{place_fault, place_record, place_filling, IsSamePlace}
use Rattle.mu_blob_rows.specs.declared.looks.Serving.{Serving}
use Rattle.mu_blob_rows.specs.declared.looks.Serving.TheVariants.{NoJob, Lacking, Whole}
pub use Rattle.mu_kept.specs.Tags.{tag_with}
use Rattle.mu_kept.specs.declared.store.JobStore.{JobStore}
use Rattle.mu_kept.specs.Views.{place_in, job_in, with_parameters, flags_in, serving_in, is_whole, fills_in}

-- where a fault was kept before, it is answered and nothing changes
abbrev pub KeepsStore : {F T : Type 0} {g : _} → JobStore F g → JobStore F g → Result T StoreFault → Type 0
KeepsStore old new result = (why : StoreFault) → place_fault (place_in old) ≡ Some why → (result ≡ Err why) × (new ≡ old)

-- the flash alone is another
pub record IsSameStore {F : Type 0} {g : _} (old new : JobStore F g) : Type 0 where
  pub place : IsSamePlace (place_in old) (place_in new)
  pub job : job_in new ≡ job_in old

-- ---- what is written

-- the note of the present record
abbrev pub note_in : {F : Type 0} {g : _} → JobStore F g → List ℕ
note_in store = note_part (place_record (place_in store)).tag

-- the bank that was being filled, if one was, becomes Empty
abbrev pub banks_given_up : Option FillingBank → List BankState → List BankState
banks_given_up None banks = banks
banks_given_up (Some f) banks = slice_set banks f.bank Empty

abbrev pub given_up : Option FillingBank → StoreState → List ℕ → StoreState
given_up None s tag = tagged s tag
given_up (Some f) s tag = emptied s f.bank tag

-- ---- when a call can be made

-- a block of the job, of so many octets, of which it lacks some
abbrev pub IsBlockBy : Option Parameters → ℕ → ℕ → Type 0
IsBlockBy None i size = ⊥
IsBlockBy (Some p) i size = (i < block_count p.size p.log) × (size ≡ block_length p.size p.log i)

abbrev pub IsBlockFor : Serving → ℕ → ℕ → Type 0
IsBlockFor NoJob i size = ⊥
IsBlockFor (Lacking t) i size = IsBlockBy t.parameters i size
IsBlockFor (Whole t) i size = ⊥

pub record CanPutBlock {F : Type 0} {g : _} (store : JobStore F g) (i size : ℕ) : Type 0 where
  pub block : IsBlockFor (serving_in store) i size
  pub lacks : slice_index_or (flags_in store) i false ≡ false

-- the job's bank is being filled, and all blocks are held
pub record CanVerify {F : Type 0} {g : _} (store : JobStore F g) : Type 0 where
  pub fills : fills_in store ≡ true
  pub whole : is_whole (serving_in store) ≡ true

-- the bank of a job with parameters isn't named
abbrev pub StaysBy : Option Parameters → Bool → Type 0
StaysBy None named = Unit {0}
StaysBy (Some p) named = named ≡ false

abbrev pub JobStays : List Bool → Option BlobJob → Type 0
JobStays named job = IfSome job (λ j. StaysBy j.parameters (slice_index_or named j.bank false))

-- ---- verification

-- The job goes, or stays where it is to be kept: after octets that don't fit without parameters.
abbrev pub verified_job : Bool → Bool → BlobJob → Option BlobJob
verified_job false fit j = None
verified_job true true j = Some j
verified_job true false j = Some (with_parameters None j)

abbrev pub verified : Bool → Bool → Option BlobJob → Option BlobJob
verified keep fit None = None
verified keep fit (Some j) = verified_job keep fit j

abbrev pub verified_flags : Bool → Bool → List Bool → List Bool
verified_flags true true flags = flags
verified_flags true false flags = []
verified_flags false fit flags = []

-- ---- the bank that is being filled

-- the one that is being filled for a job
abbrev pub bank_begun : BlobJob → Option Parameters → Option FillingBank
bank_begun j None = None
bank_begun j (Some p) = Some (record { bank = j.bank; size = p.size; log = p.log })

abbrev pub bank_for : Option BlobJob → Option FillingBank
bank_for None = None
bank_for (Some j) = bank_begun j j.parameters
