-- What a boot gives.
use Rattle.std.specs.Prelude.{◌≡◌, ◌<◌, ℕ, true, false, Bool, IsTrue, List, Option, Some, None, Result, IfErr, slice_index_or}
use Rattle.mu_model_flash.specs.Cause.{Rose}
use Rattle.mu_model_flash.specs.Flash.{Seen}
use Rattle.mu_model_image.specs.Pieces.{block_count}
use Rattle.mu_model_record.specs.declared.Record.{Record}
use Rattle.mu_model_record.specs.Store.{held, StoreState, content_of_bank}
use Rattle.mu_model_record.specs.Kinds.{IsBlank, IsForeign, IsDamaged}
use Rattle.mu_store.specs.Base.{BaseHolds}
use Rattle.mu_store.specs.View.{StoreHolds}
use Rattle.mu_store.specs.declared.judge.Marks.{Marks}
use Rattle.mu_store.specs.declared.base.Base.{Base}
use Rattle.mu_store.specs.declared.filling.Filling.{Filling}
use Rattle.mu_store.specs.declared.booting.Booted.{Booted}
use Rattle.mu_store.specs.declared.booting.Booted.TheVariants.{Rest, Fill}
use Rattle.mu_store.specs.declared.booting.BootFail.{BootFail}
use Rattle.mu_store.specs.declared.booting.BootWhy.{BootWhy}
use Rattle.mu_store.specs.declared.booting.BootWhy.TheVariants.{Flash, Blank, Foreign, Damaged}

-- whether a block is held
abbrev pub is_held : Option (List ℕ) → Bool
is_held None = false
is_held (Some octets) = true

-- Its flash represents this state, told and with the power on, and the flags are those of the blocks that are held.
pub record FillingHolds {F : Type 0} {g : _} (seen : F → Seen) (filling : Filling F g) (d : StoreState) : Type 0 where
  pub base : BaseHolds seen filling.base d
  pub blocks : List (Option (List ℕ))
  pub content : content_of_bank d filling.bank ≡ held blocks
  pub flags : (i : ℕ) → i < block_count filling.size filling.log → slice_index_or filling.held i false ≡ is_held (slice_index_or blocks i None)

abbrev pub booted_base : {F : Type 0} {g : _} → Booted F g → Base F g
booted_base (Rest store) = store.base
booted_base (Fill filling) = filling.base

-- the flash that it owns
abbrev pub booted_flash : {F : Type 0} {g : _} → Booted F g → F
booted_flash booted = (booted_base booted).flash

-- the fields of its present record
abbrev pub booted_record : {F : Type 0} {g : _} → Booted F g → Record
booted_record booted = (booted_base booted).fields

abbrev pub booted_fresh : {F : Type 0} {g : _} → Booted F g → ℕ
booted_fresh booted = (booted_base booted).place.fresh

abbrev pub BootedHolds : {F : Type 0} {g : _} → (F → Seen) → Booted F g → StoreState → Type 0
BootedHolds seen (Rest store) d = StoreHolds seen store d
BootedHolds seen (Fill filling) d = FillingHolds seen filling d

-- made of these parts
abbrev pub HasMarks : {F : Type 0} {g : _} → Option Marks → Booted F g → Type 0
HasMarks None (Rest store) = Unit {0}
HasMarks None (Fill filling) = ⊥
HasMarks (Some m) (Rest store) = ⊥
HasMarks (Some m) (Fill filling) = (filling.bank ≡ m.bank) × (filling.size ≡ m.size) × (filling.log ≡ m.log) × (filling.held ≡ m.held)

pub record IsMade {F : Type 0} {g : _} (flash : F) (page : ℕ) (r : Record) (marks : Option Marks) (booted : Booted F g) : Type 0 where
  pub flash_is : booted_flash booted ≡ flash
  pub place_is : (booted_base booted).place ≡ record { page = page; fresh = 0 }
  pub record_is : booted_record booted ≡ r
  pub marks_are : HasMarks marks booted

-- what a boot that found no store says of the octets
abbrev pub IsKind : List ℕ → BootWhy → Type 0
IsKind image Flash = Unit {0}
IsKind image Blank = IsBlank image
IsKind image Foreign = IsForeign image
IsKind image (Damaged bank want found) = IsDamaged image bank want found

-- A read failed only where the count of faults rose and, where calls fail by an armed operation alone, the power is off.
abbrev pub BootFaults : {F : Type 0} {g : _} → Seen → (F → Seen) → Result (Booted F g) (BootFail F) → Type 0
BootFaults old seen result = IfErr result (λ fail. fail.why ≡ Flash → Rose old.faults (seen fail.flash).faults × (IsTrue old.only_armed → (seen fail.flash).off ≡ true))
