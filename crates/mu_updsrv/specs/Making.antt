-- A store of a node that is being made.
use Rattle.std.specs.Prelude.{◌≡◌, ◌⊎◌, ℕ, suc, ◌+◌, ◌*◌, ◌<◌, ◌≤◌, IsTrue, Option, IfSome, List, [], drop, length, Result, MatchResult}
use Rattle.mu_model_flash.specs.Flash.{Seen}
use Rattle.mu_model_record.specs.Record.{zeros}
use Rattle.mu_model_record.specs.Store.{StoreState}
use Rattle.mu_store.specs.Filled.{Asked, filled_up}
use Rattle.mu_store.specs.Puts.{FailOf}
use Rattle.mu_store.specs.Source.{Gave, IsAtEnd}
use Rattle.mu_store.specs.View.{store_flash, store_record, store_fresh, StoreHolds}
use Rattle.mu_store.specs.declared.store.Store.{Store}
use Rattle.mu_store.specs.declared.whole.FillFail.{FillFail}
use Rattle.mu_updsrv.specs.Made.{image_operations, WasDone, UnmadeBy, GaveOfFirst}

-- records with this tag are short
abbrev pub IsShortTag : List ℕ → Type 0
IsShortTag tag = drop 256 tag ≡ zeros 1536

-- Its state, with so many fresh slots, after so many operations more than those of the first record.
pub record IsMaking {F : Type 0} {g : _} (seen : F → Seen) (flash : F) (d : StoreState) (slots more : ℕ) (store : Store F g) : Type 0 where
  pub fields : store_record store ≡ d.present
  pub slots_are : store_fresh store ≡ slots
  pub holds : IsTrue (seen flash).told → StoreHolds seen store d
  pub done : WasDone more (seen flash) (seen (store_flash store))

-- a bank is filled with an image, all that the source had
pub record Fills {F : Type 0} {g : _} (seen : F → Seen) (old : Store F g) (asked : Asked) (before after : Option (List ℕ)) (new : Store F g) : Type 0 where
  pub octets : List ℕ
  pub some : 0 < length octets
  pub most : length octets ≤ 4096 * (store_record old).pages
  pub gave : Gave before after octets
  pub at_end : IsAtEnd after
  pub makes : (flash : F) (d : StoreState) (slots more : ℕ) → IsMaking seen flash d (suc slots) more old
      → IsMaking seen flash (filled_up d asked octets) slots (more + image_operations (length octets)) new

abbrev pub Unfilled : {F : Type 0} {g : _} → (F → Seen) → Store F g → Option (List ℕ) → Option (List ℕ) → FillFail F → Type 0
Unfilled {F} seen old before after fail =
    (flash : F) (d : StoreState) (slots more : ℕ) → IsMaking seen flash d (suc slots) more old
    → UnmadeBy (Gave before after) (IsAtEnd after) (store_record old).pages more (seen flash) (seen fail.flash) fail.why

-- the same with an image that is the first octets of an input, so many
pub record FillsFirst {F : Type 0} {g : _} (seen : F → Seen) (first : ℕ) (old : Store F g) (asked : Asked) (before after : Option (List ℕ)) (new : Store F g) : Type 0 where
  pub octets : List ℕ
  pub some : 0 < length octets
  pub most : length octets ≤ 4096 * (store_record old).pages
  pub gave : Gave before after octets
  -- there are fewer only where no octet is left
  pub cut : IfSome after (λ rest. (length octets ≤ first) × ((rest ≡ []) ⊎ (length octets ≡ first)))
  pub makes : (flash : F) (d : StoreState) (slots more : ℕ) → IsMaking seen flash d (suc slots) more old
      → IsMaking seen flash (filled_up d asked octets) slots (more + image_operations (length octets)) new

abbrev pub UnfilledFirst : {F : Type 0} {g : _} → (F → Seen) → ℕ → Store F g → Option (List ℕ) → Option (List ℕ) → FillFail F → Type 0
UnfilledFirst {F} seen first old before after fail =
    (flash : F) (d : StoreState) (slots more : ℕ) → IsMaking seen flash d (suc slots) more old
    → UnmadeBy (GaveOfFirst first before after) (IsAtEnd after) (store_record old).pages more (seen flash) (seen fail.flash) fail.why

-- the count of faults of the flash doesn't fall, and has risen where the flash failed
abbrev pub MadeFaults : {F : Type 0} → Seen → (F → Seen) → Result F (FillFail F) → Type 0
MadeFaults old seen result = MatchResult result (λ flash. old.faults ≤ (seen flash).faults) (FailOf old seen)
