-- What callers see of a store.
use Rattle.std.specs.Prelude.{◌≡◌, ℕ, ◌≤◌, Result, MatchResult}
use Rattle.mu_model_flash.specs.Cause.{Rose}
use Rattle.mu_model_flash.specs.Flash.{Seen}
use Rattle.mu_model_record.specs.declared.Record.{Record}
use Rattle.mu_model_record.specs.Store.{StoreState}
use Rattle.mu_store.specs.Base.{BaseHolds}
use Rattle.mu_store.specs.declared.store.Store.{Store}
use Rattle.mu_store.specs.declared.faults.Stopped.{Stopped}
use Rattle.mu_store.specs.declared.faults.StoreFault.TheVariants.{Flash}

-- the flash that it owns
abbrev pub store_flash : {F : Type 0} {g : _} → Store F g → F
store_flash store = store.base.flash

-- the fields of its present record
abbrev pub store_record : {F : Type 0} {g : _} → Store F g → Record
store_record store = store.base.fields

-- the slots after the present record's that this run may still use
abbrev pub store_fresh : {F : Type 0} {g : _} → Store F g → ℕ
store_fresh store = store.base.place.fresh

-- its flash represents this state, told and with the power on
abbrev pub StoreHolds : {F : Type 0} {g : _} → (F → Seen) → Store F g → StoreState → Type 0
StoreHolds seen store d = BaseHolds seen store.base d

-- the flash that is handed back
abbrev pub stopped_seen : {F : Type 0} → (F → Seen) → Stopped F → Seen
stopped_seen seen stopped = seen stopped.flash

-- the flash failed
abbrev pub ByFlash : {F : Type 0} → Stopped F → Type 0
ByFlash stopped = stopped.why ≡ Flash

-- the count of faults has risen where the flash failed
abbrev pub FaultOf : {F : Type 0} → Seen → (F → Seen) → Stopped F → Type 0
FaultOf old seen stopped = (old.faults ≤ (seen stopped.flash).faults) × (stopped.why ≡ Flash → Rose old.faults (seen stopped.flash).faults)

-- the count of faults doesn't fall, and has risen where the flash failed
abbrev pub StoreFaults : {F : Type 0} {g : _} → Seen → (F → Seen) → Result (Store F g) (Stopped F) → Type 0
StoreFaults old seen result = MatchResult result (λ store. old.faults ≤ (seen store.base.flash).faults) (FaultOf old seen)
