-- A bank that is filled whole.
use Rattle.std.specs.Prelude.{◌≡◌, ◌≤◌, Result, MatchResult}
use Rattle.mu_model_flash.specs.Cause.{Rose}
use Rattle.mu_model_flash.specs.Flash.{Seen}
use Rattle.mu_store.specs.declared.whole.FillFail.{FillFail}
use Rattle.mu_store.specs.declared.whole.FillWhy.TheVariants.{Flash}
use Rattle.mu_place.specs.Place.{place_seen}
use Rattle.mu_blobsrv.specs.declared.server.BlobServer.{BlobServer}
use Rattle.mu_blobsrv.specs.Views.{place_of}

-- the count of faults of the flash doesn't fall, and has risen where the flash failed
abbrev pub HasRisenIn : {F : Type 0} {g : _} → (F → Seen) → BlobServer F g → Result (BlobServer F g) (FillFail F) → Type 0
HasRisenIn seen old result =
    MatchResult result (λ new. (place_seen seen (place_of old)).faults ≤ (place_seen seen (place_of new)).faults)
    (λ fail. ((place_seen seen (place_of old)).faults ≤ (seen fail.flash).faults) × (fail.why ≡ Flash → Rose (place_seen seen (place_of old)).faults (seen fail.flash).faults))
