-- Images in memory: their banks, and their metadata beside them.
use Rattle.std.specs.Prelude.{◌≡◌, ℕ, not, List, length, take, map}
use Rattle.std.specs.List.{filter}
use Rattle.mu_model_image.specs.declared.Meta.{Meta}
use Rattle.mu_model_distributor.specs.DistState.{StoredImage}
use Rattle.mu_model_distributor.specs.Firmware.{has_id}
use Rattle.mu_model_represents_distributor.specs.RepresentsDistributor.{bank_of}
use Rattle.mu_distributor_rows.specs.Looks.{meta_of}

pub record AreImages (places : List ℕ) (shown : List Meta) (images : List StoredImage) : Type 0 where
  pub banks : places ≡ map bank_of images
  pub metas : take (length places) shown ≡ map meta_of images

-- the images that a Firmware Delete leaves (MshDFU, Firmware Distribution Firmware Delete)
abbrev pub without_id : List ℕ → List StoredImage → List StoredImage
without_id fwid images = filter (λ (x : StoredImage). not (has_id fwid x)) images
