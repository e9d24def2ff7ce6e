-- Octets of a source that are put into the pages of a bank.
use Rattle.std.specs.Prelude.{◌≡◌, ℕ, ◌+◌, ◌*◌, ◌/◌, ◌<◌, ◌≤◌, Option, List, ◌++◌, length, replicate}
use Rattle.mu_image.specs.Digests.{HasTaken}
use Rattle.mu_model_flash.specs.Flash.{Seen}
use Rattle.mu_model_flash.specs.Run.{either, Keeps, Ran, Broke}
use Rattle.mu_model_flash.specs.Cause.{Rose}
use Rattle.mu_model_image.specs.Pieces.{piece_count}
use Rattle.mu_model_record.specs.Free.{IsFree}
use Rattle.mu_model_record.specs.Represents.{RepresentsStore}
use Rattle.mu_model_record.specs.Store.{StoreState, bank_place}
use Rattle.mu_store.specs.Base.{BaseHolds, StaysOutsideOf, IsPut}
use Rattle.mu_store.specs.Source.{Gave, IsAtEnd}
use Rattle.mu_store.specs.declared.base.Base.{Base}
use Rattle.mu_store.specs.declared.whole.Part.{Part}
use Rattle.mu_store.specs.declared.whole.FillFail.{FillFail}
use Rattle.mu_store.specs.declared.whole.FillWhy.{FillWhy}
use Rattle.mu_store.specs.declared.whole.FillWhy.TheVariants.{Flash, Worn, Read, Empty, TooBig}

-- the states after each operation of so many pages, which are each erased and programmed
abbrev pub page_steps : ℕ → StoreState → List StoreState
page_steps pages d = replicate (pages + pages) d

-- so many octets in whole pages
abbrev pub pages_for : ℕ → ℕ
pages_for size = piece_count size 4096

-- a range with nothing of what the banks hold has the pages of so many octets
abbrev pub HasRoom : StoreState → ℕ → ℕ → Type 0
HasRoom d at size = (p n : ℕ) × IsFree d p n × (p ≤ at) × (at + 4096 * pages_for size ≤ p + n)

-- these octets lie at a place, in pages that were erased and programmed, and the state stays
pub record Puts {F : Type 0} {g : _} (seen : F → Seen) (at : ℕ) (octets : List ℕ) (old new : Base F g) : Type 0 where
  pub fields : new.fields ≡ old.fields
  pub place : new.place ≡ old.place
  pub keeps : Keeps (seen old.flash) (seen new.flash)
  pub stays : StaysOutsideOf at (4096 * pages_for (length octets)) (seen old.flash) (seen new.flash)
  pub put : IsPut at octets (seen old.flash) (seen new.flash)
  pub runs : (d : StoreState) → BaseHolds seen old d → HasRoom d at (length octets)
      → Ran (either RepresentsStore) d (page_steps (pages_for (length octets)) d) (seen old.flash) (seen new.flash) × BaseHolds seen new d

-- the flash failed at the pages of these octets
abbrev pub Breaks : {F : Type 0} {g : _} → (F → Seen) → ℕ → List ℕ → Base F g → Seen → Type 0
Breaks seen at octets old new =
    (d : StoreState) → BaseHolds seen old d → HasRoom d at (length octets) → Broke (either RepresentsStore) d (page_steps (pages_for (length octets)) d) (seen old.flash) new

-- one piece more, of at most a page, from the source
pub record TakesPiece {F : Type 0} {g : _} (seen : F → Seen) (at : ℕ) (before after : Option (List ℕ)) (old new : Part F g) : Type 0 where
  pub piece : List ℕ
  pub most : length piece ≤ 4096
  pub gave : Gave before after piece
  pub end : length piece < 4096 → IsAtEnd after
  pub size : new.size ≡ old.size + length piece
  pub taken : (octets : List ℕ) → HasTaken old.digesting octets → HasTaken new.digesting (octets ++ piece)
  pub puts : Puts seen at piece old.base new.base

-- the flash failed at this piece, or the source within it
abbrev pub StopsAt : {F : Type 0} {g : _} → (F → Seen) → ℕ → Option (List ℕ) → Option (List ℕ) → Base F g → FillFail F → FillWhy → Type 0
StopsAt seen at before after old fail Flash = (piece : List ℕ) × (0 < length piece) × (length piece ≤ 4096) × Gave before after piece × Breaks seen at piece old (seen fail.flash)
StopsAt seen at before after old fail Read = (piece : List ℕ) × (length piece < 4096) × Gave before after piece × (fail.flash ≡ old.flash)
StopsAt seen at before after old fail Worn = ⊥
StopsAt seen at before after old fail Empty = ⊥
StopsAt seen at before after old fail TooBig = ⊥

-- all that the source had
pub record TakesAll {F : Type 0} {g : _} (seen : F → Seen) (bank : ℕ) (before after : Option (List ℕ)) (old : Base F g) (part : Part F g) : Type 0 where
  pub octets : List ℕ
  pub most : length octets ≤ 4096 * old.fields.pages
  pub gave : Gave before after octets
  pub at_end : IsAtEnd after
  pub size : part.size ≡ length octets
  pub taken : HasTaken part.digesting octets
  pub puts : Puts seen (bank_place old.fields bank) octets old part.base

-- the source had given these octets, whose whole pages lie in the bank, and the state stays
pub record Leaves {F : Type 0} {g : _} (seen : F → Seen) (bank : ℕ) (before after : Option (List ℕ)) (old : Base F g) (octets : List ℕ) (new : Seen) : Type 0 where
  pub gave : Gave before after octets
  pub runs : (d : StoreState) → BaseHolds seen old d → HasRoom d (bank_place old.fields bank) (4096 * old.fields.pages)
      → Ran (either RepresentsStore) d (page_steps (length octets / 4096) d) (seen old.flash) new

-- why not all that the source had lies in the bank
abbrev pub StopsBefore : {F : Type 0} {g : _} → (F → Seen) → ℕ → Option (List ℕ) → Option (List ℕ) → Base F g → FillFail F → FillWhy → Type 0
StopsBefore seen bank before after old fail Flash =
    (octets : List ℕ) × (0 < length octets) × (length octets ≤ 4096 * old.fields.pages) × Gave before after octets × Breaks seen (bank_place old.fields bank) octets old (seen fail.flash)
StopsBefore seen bank before after old fail Read = (octets : List ℕ) × (length octets ≤ 4096 * old.fields.pages) × Leaves seen bank before after old octets (seen fail.flash)
StopsBefore seen bank before after old fail TooBig = (octets : List ℕ) × (4096 * old.fields.pages < length octets) × Leaves seen bank before after old octets (seen fail.flash)
StopsBefore seen bank before after old fail Worn = ⊥
StopsBefore seen bank before after old fail Empty = ⊥

-- the count of faults doesn't fall, and has risen where the flash failed
abbrev pub FailOf : {F : Type 0} → Seen → (F → Seen) → FillFail F → Type 0
FailOf old seen fail = (old.faults ≤ (seen fail.flash).faults) × (fail.why ≡ Flash → Rose old.faults (seen fail.flash).faults)
