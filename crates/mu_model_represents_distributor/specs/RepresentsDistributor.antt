-- When a store, or the octets of a flash, represent what a distributor keeps (this profile).
use Rattle.std.specs.Prelude.{◌≡◌, ◌++◌, ◌^◌, ℕ, ◌<◌, true, false, List, Option, Some, None, is_some, length, map}
use Rattle.std.specs.List.{AllByRecursion, AllZip}
use Rattle.mu_model_image.specs.declared.Meta.{Meta}
use Rattle.mu_model_record.specs.declared.Record.{Record}
use Rattle.mu_model_record.specs.declared.BankState.{BankState}
use Rattle.mu_model_record.specs.declared.BankState.TheVariants.{Empty}
use Rattle.mu_model_record.specs.Record.{entry_of, capacity_of, IsFilling}
use Rattle.mu_model_record.specs.Store.{StoreState}
use Rattle.mu_model_record.specs.Represents.{RepresentsStore}
use Rattle.mu_model_node.specs.declared.Parameters.{Parameters}
use Rattle.mu_model_distributor.specs.declared.DistPhase.{DistPhase}
use Rattle.mu_model_distributor.specs.declared.DistPhase.TheVariants.{Idle}
use Rattle.mu_model_distributor.specs.DistState.{StoredImage, UploadJob, Upload, NoUpload, Uploading, Broken, Uploaded, job_of, DistDurable, is_at_rest}
use Rattle.mu_model_distributor.specs.Sound.{AreSettings, no_settings, AreReceivers, AddressesDiffer}
use Rattle.mu_model_represents.specs.BlobPart.{BlobJob, note_part, IsBlobRecord, transfer_in, blob_octets}
use Rattle.mu_model_represents.specs.Images.{IsSealed, is_among, AllDiffer, HasImage}
use Rattle.mu_model_represents_distributor.specs.DistributorNote.{UploadPhase, UploadIdle, UploadActive, UploadError, UploadSuccess, DistributorNote, SpellsDistributor, distributor_octets}

-- ---- the rules on a distributor's record

-- the job's bank is Filling where there are parameters, and Empty where there are none
abbrev pub UploadBank : Option Parameters → BankState → Type 0
UploadBank None bank = bank ≡ Empty
UploadBank (Some p) bank = IsFilling bank

-- and the upload's metadata have its size
pub record IsUploadOf (r : Record) (offered : Meta) (b : BlobJob) : Type 0 where
  pub bank : UploadBank b.parameters (entry_of r b.bank)
  pub size : offered.size ≡ b.size

abbrev pub HasUploadOf : Record → Meta → Option BlobJob → Type 0
HasUploadOf r offered None = Unit {0}
HasUploadOf r offered (Some b) = IsUploadOf r offered b

-- An upload is active with a job, and only while there is no distribution. Where it is idle or a success there is no job.
abbrev pub UploadGoesWith : UploadPhase → DistPhase → Option BlobJob → Type 0
UploadGoesWith UploadIdle phase part = part ≡ None
UploadGoesWith UploadActive phase part = (is_some part ≡ true) × (is_at_rest phase ≡ true)
UploadGoesWith UploadError phase part = Unit {0}
UploadGoesWith UploadSuccess phase part = part ≡ None

-- a record that is a distributor's, with the two parts of its tag
pub record IsDistributorRecord (r : Record) (part : Option BlobJob) (n : DistributorNote) : Type 0 where
  pub four_banks : r.number ≡ 4
  pub blob : IsBlobRecord r part
  pub note_octets : SpellsDistributor n (note_part r.tag)
  -- the images' banks are different, and are all the Sealed ones
  pub banks_differ : AllDiffer n.banks
  pub banks_sealed : AllByRecursion (λ (b : ℕ). IsSealed (entry_of r b)) n.banks
  pub all_sealed : (b : ℕ) → IsSealed (entry_of r b) → is_among n.banks b ≡ true
  -- before the first distribution, and from then on
  pub counter : n.counter < 2 ^ 48
  pub unbegun : n.counter ≡ 0 → (n.phase ≡ Idle) × (n.settings ≡ no_settings)
  pub begun : 0 < n.counter → AreSettings n.settings
  -- a distribution has an image and a receiver
  pub image : is_at_rest n.phase ≡ false → n.settings.image < length n.banks
  pub some_receiver : is_at_rest n.phase ≡ false → 0 < length n.receivers
  pub receivers : AreReceivers n.receivers
  pub addresses : AddressesDiffer n.receivers
  pub upload : UploadGoesWith n.upload n.phase part
  pub upload_job : HasUploadOf r n.upload_meta part

-- a record that is no distributor's
abbrev pub IsNoDistributorRecord : Record → Type 0
IsNoDistributorRecord r = (part : Option BlobJob) (n : DistributorNote) → ¬ IsDistributorRecord r part n

-- ---- what a distributor keeps

-- an image of a bank
pub record HasStored (s : StoreState) (bank : ℕ) (x : StoredImage) : Type 0 where
  pub there : x.bank ≡ bank
  pub image : HasImage s bank x.image

abbrev pub upload_job_in : StoreState → Option BlobJob → Option UploadJob
upload_job_in s None = None
upload_job_in s (Some b) = Some (record { transfer = transfer_in s b; bank = b.bank })

abbrev pub upload_by : UploadPhase → Option UploadJob → Upload
upload_by UploadActive (Some j) = Uploading j
upload_by UploadError job = Broken job
upload_by UploadSuccess job = Uploaded
upload_by _ job = NoUpload

-- The images are those of the images' banks, in order.
pub record IsDistributorOf (s : StoreState) (part : Option BlobJob) (n : DistributorNote) (d : DistDurable) : Type 0 where
  pub is_record : IsDistributorRecord s.present part n
  pub count : d.count ≡ s.present.count
  pub capacity : d.capacity ≡ capacity_of s.present
  pub images : AllZip (HasStored s) n.banks d.images
  pub phase : d.phase ≡ n.phase
  pub counter : d.counter ≡ n.counter
  pub settings : d.settings ≡ n.settings
  pub receivers : d.receivers ≡ n.receivers
  pub upload_ttl : d.upload_ttl ≡ n.upload_ttl
  pub upload_meta : d.upload_meta ≡ n.upload_meta
  pub upload : d.upload ≡ upload_by n.upload (upload_job_in s part)

-- a state of a store represents what a distributor keeps
abbrev pub IsDistributor : StoreState → DistDurable → Type 0
IsDistributor s d = (part : Option BlobJob) × (n : DistributorNote) × IsDistributorOf s part n d

-- the octets of a flash represent it
abbrev pub RepresentsDistributor : DistDurable → List ℕ → Type 0
RepresentsDistributor d image = (s : StoreState) × RepresentsStore s image × IsDistributor s d

-- ---- what is written

abbrev pub part_of_upload : Option UploadJob → Option BlobJob
part_of_upload None = None
part_of_upload (Some j) =
    Some (record { id = j.transfer.id; size = j.transfer.size; base = j.transfer.base; bank = j.bank; parameters = j.transfer.parameters })

abbrev pub phase_of_upload : Upload → UploadPhase
phase_of_upload NoUpload = UploadIdle
phase_of_upload (Uploading j) = UploadActive
phase_of_upload (Broken job) = UploadError
phase_of_upload Uploaded = UploadSuccess

abbrev pub bank_of : StoredImage → ℕ
bank_of x = x.bank

abbrev pub note_of_distributor : DistDurable → DistributorNote
note_of_distributor d = record {
  phase = d.phase;
  upload = phase_of_upload d.upload;
  banks = map bank_of d.images;
  counter = d.counter;
  settings = d.settings;
  receivers = d.receivers;
  upload_ttl = d.upload_ttl;
  upload_meta = d.upload_meta;
}

-- the tag of a distributor
abbrev pub distributor_tag : DistDurable → List ℕ
distributor_tag d = blob_octets (part_of_upload (job_of d.upload)) ++ distributor_octets (note_of_distributor d)
