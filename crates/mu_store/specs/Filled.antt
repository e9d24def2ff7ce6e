-- A bank that is filled whole, as a source gives its image.
use Rattle.std.specs.Prelude.{◌≡◌, ◌⊎◌, ℕ, ◌*◌, ◌/◌, ◌<◌, ◌≤◌, Option, List, [], ◌++◌, length, slice_set, Result, MatchResult}
use Rattle.mu_model_flash.specs.Cause.{Rose}
use Rattle.mu_model_flash.specs.Flash.{Seen}
use Rattle.mu_model_flash.specs.Run.{either, Ran, Broke}
use Rattle.mu_model_image.specs.Meta.{image_of}
use Rattle.mu_model_record.specs.declared.Record.{Record}
use Rattle.mu_model_record.specs.Store.{StoreState}
use Rattle.mu_model_record.specs.Represents.{RepresentsStore}
use Rattle.mu_model_record.specs.Next.{record_steps}
use Rattle.mu_model_record.specs.Changes.{next_record, sealed_entry, sealed_up}
use Rattle.mu_store.specs.View.{store_flash, store_record, store_fresh, StoreHolds}
use Rattle.mu_store.specs.Source.{Gave, IsAtEnd}
use Rattle.mu_store.specs.Puts.{page_steps, pages_for, FailOf}
use Rattle.mu_store.specs.declared.store.Store.{Store}
use Rattle.mu_store.specs.declared.whole.FillFail.{FillFail}
use Rattle.mu_store.specs.declared.whole.FillWhy.{FillWhy}
use Rattle.mu_store.specs.declared.whole.FillWhy.TheVariants.{Flash, Worn, Read, Empty, TooBig}

-- what is asked for: a bank, a version and a tag
pub record Asked : Type 0 where
  pub bank : ℕ
  pub version : ℕ
  pub tag : List ℕ

-- the present record that says so: the bank is Sealed with the image of these octets
abbrev pub filled_record : Record → Asked → List ℕ → Record
filled_record r asked octets = next_record r (slice_set r.banks asked.bank (sealed_entry (image_of asked.version octets).meta)) asked.tag

-- the state in which the bank holds these octets, Sealed
abbrev pub filled_up : StoreState → Asked → List ℕ → StoreState
filled_up d asked octets = sealed_up d asked.bank (image_of asked.version octets).meta octets asked.tag

-- the states after each operation of an image of so many octets: its pages, and then its record
abbrev pub whole_steps : ℕ → StoreState → ℕ → StoreState → List StoreState
whole_steps fresh d size e = page_steps (pages_for size) d ++ record_steps fresh d e

-- The bank is Sealed with all that the source had.
pub record IsFilled {F : Type 0} {g : _} (seen : F → Seen) (old : Store F g) (asked : Asked) (before after : Option (List ℕ)) (store : Store F g) : Type 0 where
  pub octets : List ℕ
  pub some : 0 < length octets
  pub most : length octets ≤ 4096 * (store_record old).pages
  pub gave : Gave before after octets
  pub at_end : IsAtEnd after
  pub fields : store_record store ≡ filled_record (store_record old) asked octets
  pub runs : (d : StoreState) → StoreHolds seen old d
      → Ran (either RepresentsStore) d (whole_steps (store_fresh old) d (length octets) (filled_up d asked octets)) (seen (store_flash old)) (seen (store_flash store)) × StoreHolds seen store (filled_up d asked octets)

-- The source ended the call: each whole page that it had given lies in the bank, and the state stays.
pub record IsLeft {F : Type 0} {g : _} (seen : F → Seen) (old : Store F g) (before after : Option (List ℕ)) (octets : List ℕ) (new : Seen) : Type 0 where
  pub gave : Gave before after octets
  pub runs : (d : StoreState) → StoreHolds seen old d → Ran (either RepresentsStore) d (page_steps (length octets / 4096) d) (seen (store_flash old)) new

-- The flash failed: at the pages of what the source had given, or at the record, with all that it had in the bank.
pub record IsBroken {F : Type 0} {g : _} (seen : F → Seen) (old : Store F g) (asked : Asked) (before after : Option (List ℕ)) (new : Seen) : Type 0 where
  pub octets : List ℕ
  pub some : 0 < length octets
  pub most : length octets ≤ 4096 * (store_record old).pages
  pub gave : Gave before after octets
  pub runs : (d : StoreState) → StoreHolds seen old d
      → Broke (either RepresentsStore) d (page_steps (pages_for (length octets)) d) (seen (store_flash old)) new
      ⊎ (IsAtEnd after × Broke (either RepresentsStore) d (whole_steps (store_fresh old) d (length octets) (filled_up d asked octets)) (seen (store_flash old)) new)

-- how much the source had given, by the cause
abbrev pub FailsBy : {F : Type 0} {g : _} → (F → Seen) → Store F g → Asked → Option (List ℕ) → Option (List ℕ) → Seen → FillWhy → Type 0
FailsBy seen old asked before after new Worn = Unit {0}
FailsBy seen old asked before after new Flash = IsBroken seen old asked before after new
FailsBy seen old asked before after new Read = (octets : List ℕ) × (length octets ≤ 4096 * (store_record old).pages) × IsLeft seen old before after octets new
FailsBy seen old asked before after new Empty = IsAtEnd after × IsLeft seen old before after [] new
FailsBy seen old asked before after new TooBig = (octets : List ℕ) × (4096 * (store_record old).pages < length octets) × IsLeft seen old before after octets new

-- the count of faults of the flash doesn't fall, and has risen where the flash failed
abbrev pub FilledFaults : {F : Type 0} {g : _} → Seen → (F → Seen) → Result (Store F g) (FillFail F) → Type 0
FilledFaults old seen result =
    MatchResult result (λ store. old.faults ≤ (seen (store_flash store)).faults) (FailOf old seen)

-- the count of faults of the source doesn't fall, and has risen where the source failed
abbrev pub SourceFaults : {T F : Type 0} → ℕ → ℕ → Result T (FillFail F) → Type 0
SourceFaults old new result = (old ≤ new) × MatchResult result (λ _. Unit {0}) (λ fail. fail.why ≡ Read → Rose old new)
