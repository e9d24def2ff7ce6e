-- What the calls on a store make of what a distributor keeps. With the distributor's tag in the record that is written, the state after it is the
-- distributor's (the tag is read back).
use Rattle.std.specs.Prelude.{◌≡◌, ◌+◌, ◌++◌, ◌↔◌, ℕ, ◌<◌, not, false, Bool, List, [], ◌∷◌, Option, Some, None, slice_index_or}
use Rattle.std.specs.List.{AllByRecursion, filter}
use Rattle.mu_model_image.specs.declared.Meta.{Meta}
use Rattle.mu_model_record.specs.declared.BankState.TheVariants.{Empty}
use Rattle.mu_model_record.specs.Record.{IsRecord, IsFilling, entry_of, capacity_of}
use Rattle.mu_model_record.specs.Store.{StoreState, content_of_bank}
use Rattle.mu_model_record.specs.Changes.{tagged, begun, emptied, sealed_up, released, with_block}
use Rattle.mu_model_node.specs.declared.Parameters.{Parameters}
use Rattle.mu_model_node.specs.BlobServer.{Begins, Puts, changed}
use Rattle.mu_model_distributor.specs.DistState.{StoredImage, UploadJob, DistDurable, job_of}
use Rattle.mu_model_represents.specs.BlobPart.{BlobJob, NoneFilling, held_by}
use Rattle.mu_model_represents.specs.Blocks.{TakesBlocks}
use Rattle.mu_model_represents.specs.Images.{HasImage}
use Rattle.mu_model_represents.specs.StoreStates.{IsStoreState}
use Rattle.mu_model_represents_distributor.specs.DistributorNote.{DistributorNote}
use Rattle.mu_model_represents_distributor.specs.RepresentsDistributor.{IsDistributorOf, part_of_upload, note_of_distributor}
use Rattle.mu_model_represents_distributor.specs.Written.{KeepsDistributor}

-- a store that represents a distributor keeps it
abbrev pub DistributorIsKept : Type 0
DistributorIsKept =
    (s : StoreState) (part : Option BlobJob) (n : DistributorNote) (d : DistDurable) → IsStoreState s → IsDistributorOf s part n d → KeepsDistributor s d

-- What is kept after one record has these images and this job of an upload. All else may be another: the tag says it.
pub record IsAfter (d : DistDurable) (images : List StoredImage) (job : Option UploadJob) (e : DistDurable) : Type 0 where
  pub count : e.count ≡ d.count + 1
  pub capacity : e.capacity ≡ d.capacity
  pub stored : e.images ≡ images
  pub upload : job_of e.upload ≡ job

-- a distributor that has this job of an upload
pub record TakesUpload (s : StoreState) (d : DistDurable) (j : UploadJob) : Type 0 where
  pub keeps : KeepsDistributor s d
  pub job : job_of d.upload ≡ Some j
  pub there : j.bank < 4

-- ---- a commit

abbrev pub UploadStays : Type 0
UploadStays =
    (s : StoreState) (tag : List ℕ) (d e : DistDurable) → KeepsDistributor s d → IsRecord (tagged s tag).present → IsAfter d d.images (job_of d.upload) e
    → KeepsDistributor (tagged s tag) e

-- where no bank was being filled, the job goes
abbrev pub NoUploadIsLeft : Type 0
NoUploadIsLeft =
    (s : StoreState) (tag : List ℕ) (d e : DistDurable) → KeepsDistributor s d → IsRecord (tagged s tag).present → NoneFilling s.present
    → IsAfter d d.images None e → KeepsDistributor (tagged s tag) e

-- a job that was just offered
pub record IsOffered (j : UploadJob) : Type 0 where
  pub parameters : j.transfer.parameters ≡ None
  pub held : j.transfer.held ≡ []

-- or one comes, for an Empty bank
abbrev pub FirstUploadComes : Type 0
FirstUploadComes =
    (s : StoreState) (tag : List ℕ) (d e : DistDurable) (next : UploadJob) → KeepsDistributor s d → IsRecord (tagged s tag).present → NoneFilling s.present
    → entry_of s.present next.bank ≡ Empty → IsOffered next → IsAfter d d.images (Some next) e → KeepsDistributor (tagged s tag) e

-- ---- the job's bank

-- it is begun
abbrev pub UploadBegins : Type 0
UploadBegins =
    (s : StoreState) (p : Parameters) (tag : List ℕ) (d e : DistDurable) (j : UploadJob) → IsStoreState s → TakesUpload s d j
    → IsRecord (begun s j.bank p.size p.log tag).present
    → IsAfter d d.images (Some (record { transfer = changed (Begins p) j.transfer; bank = j.bank })) e
    → KeepsDistributor (begun s j.bank p.size p.log tag) e

-- it is given up: no job is left
abbrev pub UploadGoes : Type 0
UploadGoes =
    (s : StoreState) (tag : List ℕ) (d e : DistDurable) (j : UploadJob) → IsStoreState s → TakesUpload s d j
    → IsRecord (emptied s j.bank tag).present → IsFilling (entry_of s.present j.bank) → IsAfter d d.images None e → KeepsDistributor (emptied s j.bank tag) e

-- or one without parameters, be it another or the same, for a bank that is Empty then
abbrev pub UploadComes : Type 0
UploadComes =
    (s : StoreState) (tag : List ℕ) (d e : DistDurable) (j next : UploadJob) → IsStoreState s → TakesUpload s d j
    → IsRecord (emptied s j.bank tag).present → IsFilling (entry_of s.present j.bank) → entry_of (emptied s j.bank tag).present next.bank ≡ Empty
    → IsOffered next → IsAfter d d.images (Some next) e → KeepsDistributor (emptied s j.bank tag) e

-- it is Sealed: its image is the last one then, and the job goes
abbrev pub UploadIsStored : Type 0
UploadIsStored =
    (s : StoreState) (meta : Meta) (octets tag : List ℕ) (d e : DistDurable) (j : UploadJob) → IsStoreState s → TakesUpload s d j
    → IsRecord (sealed_up s j.bank meta octets tag).present → IsFilling (entry_of s.present j.bank)
    → IsAfter d (d.images ++ record { bank = j.bank; image = record { octets = octets; meta = meta } } ∷ []) None e
    → KeepsDistributor (sealed_up s j.bank meta octets tag) e

-- a block of it is held: no record says so
abbrev pub upload_part : UploadJob → BlobJob
upload_part j = record { id = j.transfer.id; size = j.transfer.size; base = j.transfer.base; bank = j.bank; parameters = j.transfer.parameters }

pub record IsUnrecorded (d : DistDurable) (job : Option UploadJob) (e : DistDurable) : Type 0 where
  pub count : e.count ≡ d.count
  pub capacity : e.capacity ≡ d.capacity
  pub stored : e.images ≡ d.images
  pub upload : job_of e.upload ≡ job

abbrev pub UploadTakesABlock : Type 0
UploadTakesABlock =
    (s : StoreState) (i : ℕ) (octets : List ℕ) (d e : DistDurable) (j : UploadJob) → IsStoreState s → TakesUpload s d j → TakesBlocks s (upload_part j)
    → IsUnrecorded d (Some (record { transfer = changed (Puts i octets) j.transfer; bank = j.bank })) e → KeepsDistributor (with_block s j.bank i octets) e

-- ---- other banks

-- an image is put into an Empty bank, where there is no job
abbrev pub ImageIsStocked : Type 0
ImageIsStocked =
    (s : StoreState) (bank : ℕ) (meta : Meta) (octets tag : List ℕ) (d e : DistDurable) → IsStoreState s → KeepsDistributor s d
    → IsRecord (sealed_up s bank meta octets tag).present → bank < 4 → entry_of s.present bank ≡ Empty → NoneFilling s.present
    → IsAfter d (d.images ++ record { bank = bank; image = record { octets = octets; meta = meta } } ∷ []) None e
    → KeepsDistributor (sealed_up s bank meta octets tag) e

-- those of the named banks go
abbrev pub unnamed_images : List Bool → List StoredImage → List StoredImage
unnamed_images named images = filter (λ (x : StoredImage). not (slice_index_or named x.bank false)) images

abbrev pub JobIsUnnamed : List Bool → Option UploadJob → Type 0
JobIsUnnamed named None = Unit {0}
JobIsUnnamed named (Some j) = slice_index_or named j.bank false ≡ false

abbrev pub ImagesAreReleased : Type 0
ImagesAreReleased =
    (s : StoreState) (named : List Bool) (tag : List ℕ) (d e : DistDurable) → KeepsDistributor s d → IsRecord (released s named tag).present
    → JobIsUnnamed named (job_of d.upload) → IsAfter d (unnamed_images named d.images) (job_of d.upload) e → KeepsDistributor (released s named tag) e

-- ---- when a commit is due

-- what a store holds beside the tag is as this says: the images of its banks, and the blocks of its job
abbrev pub HoldsBlocks : StoreState → Option UploadJob → Type 0
HoldsBlocks s None = Unit {0}
HoldsBlocks s (Some j) = j.transfer.held ≡ held_by j.transfer.parameters (content_of_bank s j.bank)

pub record SpeaksOf (s : StoreState) (d : DistDurable) : Type 0 where
  pub count : d.count ≡ s.present.count
  pub capacity : d.capacity ≡ capacity_of s.present
  pub images : AllByRecursion (λ (x : StoredImage). HasImage s x.bank x.image) d.images
  pub blocks : HoldsBlocks s (job_of d.upload)

-- What is kept is another exactly where the note or the job is: so a commit is due there, and nowhere else, since one is made where what is kept
-- would be another.
abbrev pub ChangesShowInTheTag : Type 0
ChangesShowInTheTag =
    (s : StoreState) (d e : DistDurable) → SpeaksOf s d → SpeaksOf s e
    → (d ≡ e) ↔ ((note_of_distributor d ≡ note_of_distributor e) × (part_of_upload (job_of d.upload) ≡ part_of_upload (job_of e.upload)))
