-- A bank that is damaged.
use Rattle.std.specs.Prelude.{◌≡◌, ◌≢◌, ℕ, ◌<◌, List}
use Rattle.sha2.specs.Sha256.{sha256}
use Rattle.mu_model_image.specs.declared.Meta.{Meta}
use Rattle.mu_model_record.specs.declared.Record.{Record}
use Rattle.mu_model_record.specs.declared.BankState.TheVariants.{Sealed}
use Rattle.mu_model_record.specs.Record.{entry_of}
use Rattle.mu_model_record.specs.Kinds.{sealed_octets, AreFitBelow}
use Rattle.mu_store.specs.declared.digest.Damage.{Damage}

-- the lowest Sealed bank whose octets haven't the digest of its metadata
pub record IsDamage (r : Record) (damage : Damage) (image : List ℕ) : Type 0 where
  pub there : damage.bank < r.number
  pub meta : Meta
  pub sealed_with : entry_of r damage.bank ≡ Sealed meta
  pub want_is : damage.want ≡ meta.digest
  pub found_is : damage.found ≡ sha256 (sealed_octets r damage.bank meta image)
  pub differ : damage.found ≢ damage.want
  pub lowest : AreFitBelow damage.bank r image
