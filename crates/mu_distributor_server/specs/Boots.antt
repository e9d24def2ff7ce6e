-- What a boot of a distributor finds in the octets of a flash.
use Rattle.std.specs.Prelude.{◌≡◌, ◌==◌, ℕ, Bool, true, false, not, List, Option}
use Rattle.mu_model_node.specs.BlobServer.{BlobPhase, blob_number}
use Rattle.mu_distributor_kept.specs.declared.phase.UploadPhase.{UploadPhase}
use Rattle.mu_distributor_kept.specs.declared.phase.UploadPhase.TheVariants.{TransferActive}
use Rattle.std.specs.List.{AllByRecursion}
use Rattle.mu_model_record.specs.declared.Record.{Record}
use Rattle.mu_model_record.specs.Record.{entry_of}
use Rattle.mu_model_flash.specs.Flash.{Seen}
use Rattle.mu_model_image.specs.declared.Meta.{Meta}
use Rattle.mu_model_record.specs.declared.BankState.{BankState}
use Rattle.mu_model_record.specs.declared.BankState.TheVariants.{Empty, Filling, Sealed}
use Rattle.mu_model_record.specs.Kinds.{IsBlank, IsDamaged}
use Rattle.mu_model_record.specs.Store.{StoreState}
use Rattle.mu_model_distributor.specs.DistState.{DistDurable}
use Rattle.mu_model_distributor.specs.DistEvents.{restarted}
use Rattle.mu_model_distributor.specs.Distribution.{no_meta}
use Rattle.mu_model_represents_distributor.specs.Boots.{IsForeignToDistributors}
use Rattle.mu_model_represents.specs.BlobPart.{BlobJob}
use Rattle.mu_model_represents.specs.Images.{IsSealed, is_among}
use Rattle.mu_model_represents_distributor.specs.DistributorNote.{DistributorNote}
use Rattle.mu_model_represents_distributor.specs.RepresentsDistributor.{UploadGoesWith, HasUploadOf, IsDistributorRecord, IsDistributor}
use Rattle.mu_store.specs.declared.booting.BootWhy.{BootWhy}
use Rattle.mu_store.specs.declared.booting.BootWhy.TheVariants.{Flash, Blank, Foreign, Damaged}
use Rattle.mu_place.specs.Place.{place_record, PlaceHolds}
use Rattle.mu_kept.specs.Views.{part_in}
use Rattle.mu_blobsrv.specs.declared.server.BlobServer.{BlobServer}
use Rattle.mu_blobsrv.specs.Views.{store_of, place_of}
use Rattle.mu_distributor_kept.specs.Views.{upload_phase}
use Rattle.mu_distributor_memory.specs.declared.memory.Memory.{Memory}
use Rattle.mu_distributor_memory.specs.Shows.{upload_in, IsMemoryOf}

-- why it found no distributor; the tag is judged after the marks and the banks
abbrev pub IsDistributorKind : List ℕ → BootWhy → Type 0
IsDistributorKind image Flash = Unit {0}
IsDistributorKind image Blank = IsBlank image
IsDistributorKind image Foreign = IsForeignToDistributors image
IsDistributorKind image (Damaged bank want found) = IsDamaged image bank want found

-- the metadata of a Sealed bank
abbrev pub meta_by : BankState → Meta
meta_by Empty = no_meta
meta_by (Filling size log) = no_meta
meta_by (Sealed meta) = meta

-- A record that is a distributor's, and what is in memory of it: for each distributor that the flash represents by it.
pub record IsBooted {F : Type 0} {g : _} (seen : F → Seen) (server : BlobServer F g) (m : Memory) : Type 0 where
  pub note : DistributorNote
  pub rules : IsDistributorRecord (place_record (place_of server)) (part_in (store_of server)) note
  pub upload : upload_phase (upload_in m) ≡ note.upload
  pub memory : (address : ℕ) (s : StoreState) (d : DistDurable) → PlaceHolds seen (place_of server) s → IsDistributor s d → IsMemoryOf m (restarted address d)

-- ---- the rules on a distributor's record that look at its banks and at the BLOB part

pub record GoesWith (r : Record) (part : Option BlobJob) (n : DistributorNote) : Type 0 where
  pub four_banks : r.number ≡ 4
  pub banks_sealed : AllByRecursion (λ (b : ℕ). IsSealed (entry_of r b)) n.banks
  pub all_sealed : (b : ℕ) → IsSealed (entry_of r b) → is_among n.banks b ≡ true
  pub upload : UploadGoesWith n.upload n.phase part
  pub upload_job : HasUploadOf r n.upload_meta part

-- an upload that is active lags where not each of its blocks is held: the server's phase isn't Complete
abbrev pub lags_in : UploadPhase → BlobPhase → Bool
lags_in TransferActive phase = not (blob_number phase == 4)
lags_in _ phase = false
