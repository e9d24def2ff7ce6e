-- Ranges that have nothing of what a store's banks hold.
use Rattle.std.specs.Prelude.{◌≡◌, ◌⊎◌, ℕ, ◌+◌, ◌<◌, ◌≤◌, Some, None, List, slice_index_or}
use Rattle.mu_model_image.specs.Pieces.{block_count, block_length}
use Rattle.mu_model_record.specs.declared.Record.{Record}
use Rattle.mu_model_record.specs.declared.BankState.{BankState}
use Rattle.mu_model_record.specs.declared.BankState.TheVariants.{Empty, Filling, Sealed}
use Rattle.mu_model_record.specs.Record.{entry_of}
use Rattle.mu_model_record.specs.Store.{Content, nothing, held, whole, StoreState, content_of_bank, mark_place, bank_place, block_place}

-- a range is apart from another
abbrev pub Apart : ℕ → ℕ → ℕ → ℕ → Type 0
Apart at n p m = (p + m ≤ at) ⊎ (at + n ≤ p)

-- a range has nothing of what a bank holds
abbrev pub IsFreeOf : Record → ℕ → BankState → Content → ℕ → ℕ → Type 0
IsFreeOf r b Empty content at n = Unit {0}
IsFreeOf r b (Filling size log) nothing at n = Unit {0}
IsFreeOf r b (Filling size log) (whole octets) at n = Unit {0}
IsFreeOf r b (Filling size log) (held blocks) at n =
    ((i : ℕ) → i < block_count size log → Apart at n (mark_place b i) 1)
    × ((i : ℕ) (octets : List ℕ) → i < block_count size log → slice_index_or blocks i None ≡ Some octets → Apart at n (block_place r b log i) (block_length size log i))
IsFreeOf r b (Sealed meta) content at n = Apart at n (bank_place r b) meta.size

-- a range has nothing of what the banks of a store hold
abbrev pub IsFree : StoreState → ℕ → ℕ → Type 0
IsFree d at n = (b : ℕ) → b < d.present.number → IsFreeOf d.present b (entry_of d.present b) (content_of_bank d b) at n
