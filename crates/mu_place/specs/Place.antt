-- A store that is owned: what callers see of it, whichever typed state it is in.
use Rattle.std.specs.Prelude.{◌≡◌, ℕ, Bool, List, [], map, Option, Some, None, is_some}
use Rattle.mu_model_flash.specs.Flash.{Seen}
use Rattle.mu_model_record.specs.declared.Record.{Record}
use Rattle.mu_model_record.specs.Changes.{first_record}
use Rattle.mu_model_record.specs.Store.{held, StoreState, content_of_bank}
use Rattle.mu_store.specs.Booted.{FillingHolds}
use Rattle.mu_store.specs.View.{store_flash, store_record, store_fresh, StoreHolds}
use Rattle.mu_store.specs.FillingView.{filling_flash, filling_record, filling_fresh, filling_bank, filling_size, filling_log, filling_flags}
use Rattle.mu_store.specs.declared.booting.Booted.{Booted}
use Rattle.mu_store.specs.declared.booting.Booted.TheVariants.{Rest as BootRest, Fill as BootFill}
use Rattle.mu_store.specs.declared.filling.Filling.{Filling}
use Rattle.mu_store.specs.declared.faults.StoreFault.{StoreFault}
use Rattle.mu_place.specs.declared.place.FillingBank.{FillingBank}
use Rattle.mu_place.specs.declared.place.Place.{Place}
use Rattle.mu_place.specs.declared.place.Place.TheVariants.{Rest, Fill, Halted}

-- the flash that it owns
abbrev pub place_flash : {F : Type 0} {g : _} → Place F g → F
place_flash (Rest store) = store_flash store
place_flash (Fill filling) = filling_flash filling
place_flash (Halted stopped) = stopped.flash

-- the flash as it is seen
abbrev pub place_seen : {F : Type 0} {g : _} → (F → Seen) → Place F g → Seen
place_seen seen (Rest store) = seen (store_flash store)
place_seen seen (Fill filling) = seen (filling_flash filling)
place_seen seen (Halted stopped) = seen stopped.flash

-- the fault that is kept
abbrev pub place_fault : {F : Type 0} {g : _} → Place F g → Option StoreFault
place_fault (Rest store) = None
place_fault (Fill filling) = None
place_fault (Halted stopped) = Some stopped.why

-- the fields of the present record; a halted place knows none
abbrev pub place_record : {F : Type 0} {g : _} → Place F g → Record
place_record (Rest store) = store_record store
place_record (Fill filling) = filling_record filling
place_record (Halted stopped) = first_record 0 0 []

-- the slots after the present record's that this run may still use
abbrev pub place_fresh : {F : Type 0} {g : _} → Place F g → ℕ
place_fresh (Rest store) = store_fresh store
place_fresh (Fill filling) = filling_fresh filling
place_fresh (Halted stopped) = 0

-- the bank that a store fills, with the size and the log of its image
abbrev pub filling_of : {F : Type 0} {g : _} → Filling F g → FillingBank
filling_of filling = record { bank = filling_bank filling; size = filling_size filling; log = filling_log filling }

-- the bank that is being filled, if one is
abbrev pub place_filling : {F : Type 0} {g : _} → Place F g → Option FillingBank
place_filling (Rest store) = None
place_filling (Fill filling) = Some (filling_of filling)
place_filling (Halted stopped) = None

-- its number, where one is
abbrev pub place_bank : {F : Type 0} {g : _} → Place F g → ℕ
place_bank (Rest store) = 0
place_bank (Fill filling) = filling_bank filling
place_bank (Halted stopped) = 0

-- whether each of its blocks is held, where one is
abbrev pub place_held : {F : Type 0} {g : _} → Place F g → List Bool
place_held (Rest store) = []
place_held (Fill filling) = filling_flags filling
place_held (Halted stopped) = []

-- its flash represents this state, told and with the power on; a halted place holds none
abbrev pub PlaceHolds : {F : Type 0} {g : _} → (F → Seen) → Place F g → StoreState → Type 0
PlaceHolds seen (Rest store) s = StoreHolds seen store s
PlaceHolds seen (Fill filling) s = FillingHolds seen filling s
PlaceHolds seen (Halted stopped) s = ⊥

-- the store that a boot found
abbrev pub placed : {F : Type 0} {g : _} → Booted F g → Place F g
placed (BootRest store) = Rest store
placed (BootFill filling) = Fill filling

-- all but the flash is as before
pub record IsSamePlace {F : Type 0} {g : _} (old new : Place F g) : Type 0 where
  pub fault : place_fault new ≡ place_fault old
  pub fields : place_record new ≡ place_record old
  pub fresh : place_fresh new ≡ place_fresh old
  pub filling : place_filling new ≡ place_filling old
  pub held : place_held new ≡ place_held old

-- a bank of a state has these blocks, of which those are held whose flag is set
abbrev pub HasBlocks : StoreState → ℕ → List Bool → Type 0
HasBlocks s bank flags = (blocks : List (Option (List ℕ))) × (content_of_bank s bank ≡ held blocks) × (map is_some blocks ≡ flags)
