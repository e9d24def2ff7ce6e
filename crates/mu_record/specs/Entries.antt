-- The entries of banks in a record.
use Rattle.std.specs.Prelude.{ℕ, ◌*◌, ◌<◌, List, slice_index_or}
use Rattle.mu_model_image.specs.Meta.{IsMeta}
use Rattle.mu_model_flash.specs.Bits.{part_of}
use Rattle.mu_model_record.specs.declared.BankState.{BankState}
use Rattle.mu_model_record.specs.declared.BankState.TheVariants.{Empty, Filling, Sealed}
use Rattle.mu_model_record.specs.Record.{IsEntry}

-- the octets are those of four banks, in order
abbrev pub AreEntries : List BankState → List ℕ → Type 0
AreEntries banks octets = (b : ℕ) → b < 4 → IsEntry (slice_index_or banks b Empty) (part_of octets (48 * b) 48)

-- its metadata, if it has any, can be read back
abbrev pub IsSealable : BankState → Type 0
IsSealable Empty = Unit {0}
IsSealable (Filling size log) = Unit {0}
IsSealable (Sealed meta) = IsMeta meta
