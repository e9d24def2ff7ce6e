-- What a record that is written says of the distributor that it was written for: the tag is read back.
use Rattle.std.specs.Prelude.{◌≡◌, ℕ, true, Option, Some, None}
use Rattle.std.specs.List.{AllByRecursion}
use Rattle.mu_model_record.specs.Record.{IsRecord, entry_of, capacity_of}
use Rattle.mu_model_record.specs.Store.{StoreState, content_of_bank}
use Rattle.mu_model_record.specs.ChangeLaws.{IsTag}
use Rattle.mu_model_distributor.specs.DistState.{StoredImage, UploadJob, DistDurable, job_of}
use Rattle.mu_model_distributor.specs.Receivers.{is_stored_in}
use Rattle.mu_model_distributor.specs.Sound.{IsDistDurable}
use Rattle.mu_model_represents.specs.BlobPart.{NoneFilling, BankGoesWith, held_by}
use Rattle.mu_model_represents.specs.Images.{IsSealed, HasImage}
use Rattle.mu_model_represents_distributor.specs.Numbers.{HasDistributorNumbers}
use Rattle.mu_model_represents_distributor.specs.RepresentsDistributor.{UploadBank, IsDistributorOf, part_of_upload, note_of_distributor, distributor_tag}

-- the bank of an upload goes with its parameters, and holds its blocks
pub record KeepsUpload (s : StoreState) (j : UploadJob) : Type 0 where
  pub bank : UploadBank j.transfer.parameters (entry_of s.present j.bank)
  pub goes_with : BankGoesWith s.present j.bank j.transfer.parameters
  pub held : j.transfer.held ≡ held_by j.transfer.parameters (content_of_bank s j.bank)

abbrev pub KeepsUploads : StoreState → Option UploadJob → Type 0
KeepsUploads s None = NoneFilling s.present
KeepsUploads s (Some j) = KeepsUpload s j

-- all but the tag
pub record KeepsDistributor (s : StoreState) (d : DistDurable) : Type 0 where
  pub in_range : IsRecord s.present
  pub four_banks : s.present.number ≡ 4
  pub count : d.count ≡ s.present.count
  pub capacity : d.capacity ≡ capacity_of s.present
  pub images : AllByRecursion (λ (x : StoredImage). HasImage s x.bank x.image) d.images
  -- no other bank is Sealed
  pub no_other : (b : ℕ) → IsSealed (entry_of s.present b) → is_stored_in d.images b ≡ true
  pub upload : KeepsUploads s (job_of d.upload)

abbrev pub DistributorTagIsATag : Type 0
DistributorTagIsATag = (d : DistDurable) → IsDistDurable d → HasDistributorNumbers d → IsTag (distributor_tag d)

abbrev pub DistributorTagIsReadBack : Type 0
DistributorTagIsReadBack =
    (s : StoreState) (d : DistDurable) → IsDistDurable d → HasDistributorNumbers d → KeepsDistributor s d
    → s.present.tag ≡ distributor_tag d → IsDistributorOf s (part_of_upload (job_of d.upload)) (note_of_distributor d) d
