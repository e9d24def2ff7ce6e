-- The image of a bank, as a function of a store's state: of no metadata and no octets where the bank isn't Sealed.
use Rattle.std.specs.Prelude.{ℕ, List, []}
use Rattle.mu_model_image.specs.declared.Meta.{Meta}
use Rattle.mu_model_image.specs.Meta.{Image}
use Rattle.mu_model_record.specs.declared.BankState.{BankState}
use Rattle.mu_model_record.specs.declared.BankState.TheVariants.{Empty, Filling, Sealed}
use Rattle.mu_model_record.specs.Record.{entry_of}
use Rattle.mu_model_record.specs.Store.{Content, nothing, held, whole, StoreState, content_of_bank}

abbrev pub no_meta : Meta
no_meta = record { size = 0; version = 0; digest = [] }

abbrev pub meta_in : BankState → Meta
meta_in Empty = no_meta
meta_in (Filling size log) = no_meta
meta_in (Sealed meta) = meta

abbrev pub octets_in : Content → List ℕ
octets_in nothing = []
octets_in (held blocks) = []
octets_in (whole octets) = octets

abbrev pub image_in : StoreState → ℕ → Image
image_in s bank = record { octets = octets_in (content_of_bank s bank); meta = meta_in (entry_of s.present bank) }
