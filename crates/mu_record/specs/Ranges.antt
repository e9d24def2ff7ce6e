-- The ranges of a record's fields, as far as their types don't give them.
use Rattle.std.specs.Prelude.{◌≡◌, ℕ, ◌*◌, ◌<◌, ◌≤◌}
use Rattle.mu_model_record.specs.declared.BankState.{BankState}
use Rattle.mu_model_record.specs.declared.BankState.TheVariants.{Empty, Filling, Sealed}
use Rattle.mu_model_record.specs.declared.Record.{Record}
use Rattle.mu_model_record.specs.Record.{IsFilling, entry_of}

-- the range of an entry of a bank of so many pages
abbrev pub IsInRange : ℕ → BankState → Type 0
IsInRange pages Empty = Unit {0}
IsInRange pages (Filling size log) = (0 < size) × (size ≤ 4096 * pages) × (12 ≤ log) × (log ≤ 14)
IsInRange pages (Sealed meta) = (0 < meta.size) × (meta.size ≤ 4096 * pages)

-- the range of the entry at a place, which is Empty where there is no such bank
pub record IsInPlace (r : Record) (b : ℕ) : Type 0 where
  pub there : b < r.number → IsInRange r.pages (entry_of r b)
  pub not_there : r.number ≤ b → entry_of r b ≡ Empty

abbrev pub AreInRange : Record → Type 0
AreInRange r = (b : ℕ) → b < 4 → IsInPlace r b

abbrev pub HasOneFilling : Record → Type 0
HasOneFilling r = (a b : ℕ) → a < 4 → b < 4 → IsFilling (entry_of r a) → IsFilling (entry_of r b) → a ≡ b

abbrev pub HasNumbers : Record → Type 0
HasNumbers r = (2 ≤ r.number) × (r.number ≤ 4) × (1 ≤ r.pages) × (r.pages ≤ 256) × (1 ≤ r.count)

abbrev pub HasRanges : Record → Type 0
HasRanges r = HasNumbers r × AreInRange r × HasOneFilling r
