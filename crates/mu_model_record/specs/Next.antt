-- What a record that is written next makes of a store's state, and how many operations that takes (this profile).
use Rattle.std.specs.Prelude.{◌≡◌, ℕ, ◌+◌, ◌-◌, ◌<◌, ◌&&◌, if◌then◌else◌, Bool, List, [], ◌∷◌, length, drop, bytes_eq, nat_lt, replicate, ◌++◌}
use Rattle.mu_model_flash.specs.Bits.{SameOutside}
use Rattle.mu_model_record.specs.declared.Record.{Record}
use Rattle.mu_model_record.specs.Record.{IsRecord, entry_of, zeros}
use Rattle.mu_model_record.specs.Store.{StoreState, content_of_bank, BankHolds}

-- The state that the next record gives. What it says of the banks lies in them already, whatever the control pages have.
pub record IsNext (octets : List ℕ) (d e : StoreState) : Type 0 where
  pub counted : e.present.count ≡ d.present.count + 1
  pub number : e.present.number ≡ d.present.number
  pub pages : e.present.pages ≡ d.present.pages
  pub in_range : IsRecord e.present
  pub as_many : length e.contents ≡ e.present.number
  pub banks : (image : List ℕ) → SameOutside 0 8192 octets image
      → (b : ℕ) → b < e.present.number → BankHolds e.present b (entry_of e.present b) (content_of_bank e b) image

-- whether a record that is written is short
abbrev pub is_short : Record → Bool
is_short r = bytes_eq (drop 256 r.tag) (zeros 1536)

-- The states after each operation of a record: one program where it is short and a slot is fresh, else an erase and a program.
abbrev pub record_steps : ℕ → StoreState → StoreState → List StoreState
record_steps fresh d e = if is_short e.present && nat_lt 0 fresh then e ∷ [] else d ∷ e ∷ []

-- the slots that are fresh after it
abbrev pub fresh_after : ℕ → Record → ℕ
fresh_after fresh r = if is_short r then (if nat_lt 0 fresh then fresh - 1 else 3) else 0

-- The states after each operation of a block of so many pages: the pages are erased and programmed, and then its mark is set.
abbrev pub block_steps : ℕ → StoreState → StoreState → List StoreState
block_steps pages d e = replicate (pages + pages) d ++ e ∷ []
