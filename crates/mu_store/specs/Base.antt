-- What every typed state of a store keeps, and what a record that it writes does.
use Rattle.std.specs.Prelude.{List, ℕ, ◌+◌, ◌*◌, length, replicate, ◌≡◌, ◌≤◌, IsTrue, ◌<◌, [], ◌∷◌, Result, MatchResult, IfOk, slice_index}
use Rattle.mu_model_flash.specs.Bits.{part_of, SameOutside}
use Rattle.mu_model_record.specs.Turns.{before, after, MarkTurns}
use Rattle.mu_model_record.specs.Free.{IsFree}
use Rattle.mu_model_flash.specs.Cause.{Rose}
use Rattle.mu_model_flash.specs.Flash.{Seen}
use Rattle.mu_model_flash.specs.Run.{either, Ran, Broke}
use Rattle.mu_model_record.specs.declared.Record.{Record}
use Rattle.mu_model_record.specs.Record.{IsFilling, entry_of}
use Rattle.mu_model_record.specs.Store.{StoreState, mark_place}
use Rattle.mu_model_record.specs.Represents.{RepresentsStore}
use Rattle.mu_model_record.specs.Next.{IsNext, record_steps}
use Rattle.mu_record.specs.Place.{HoldsAt}
use Rattle.mu_store.specs.declared.base.Base.{Base}
use Rattle.mu_store.specs.declared.faults.Stopped.{Stopped}
use Rattle.mu_store.specs.declared.faults.StoreFault.TheVariants.{Flash}

-- The flash represents this state, and the fields are those of its present record.
pub record BaseHolds {F : Type 0} {g : _} (seen : F → Seen) (base : Base F g) (d : StoreState) : Type 0 where
  pub at : HoldsAt (seen base.flash) base.place.page base.place.fresh d
  pub fields : d.present ≡ base.fields

-- all past the control pages is as before
abbrev pub StaysPast : {F : Type 0} {g : _} → Seen → (F → Seen) → Result (Base F g) (Stopped F) → Type 0
StaysPast old seen result = IfOk result (λ base. IsTrue old.told → SameOutside 0 8192 old.octets (seen base.flash).octets)

-- the count of faults doesn't fall, and has risen where the flash failed
abbrev pub Faults : {F : Type 0} {g : _} → Seen → (F → Seen) → Result (Base F g) (Stopped F) → Type 0
Faults old seen result =
    MatchResult result (λ base. old.faults ≤ (seen base.flash).faults) (λ stopped. (old.faults ≤ (seen stopped.flash).faults) × (stopped.why ≡ Flash → Rose old.faults (seen stopped.flash).faults))

-- the record is written next
abbrev pub WritesRecord : {F : Type 0} {g : _} → (F → Seen) → Base F g → Record → Result (Base F g) (Stopped F) → Type 0
WritesRecord seen base fields result =
    (d e : StoreState) → BaseHolds seen base d → IsNext (seen base.flash).octets d e → e.present ≡ fields
    → MatchResult result
    (λ next. Ran (either RepresentsStore) d (record_steps base.place.fresh d e) (seen base.flash) (seen next.flash) × BaseHolds seen next e)
    (λ stopped. Broke (either RepresentsStore) d (record_steps base.place.fresh d e) (seen base.flash) (seen stopped.flash))

-- each octet of a mark page reads FF
abbrev pub AreBlankMarks : ℕ → Seen → Type 0
AreBlankMarks bank f = IsTrue f.told → (i : ℕ) → i < 4096 → slice_index f.octets (mark_place bank i) ≡ 0xFF

-- a mark page is erased, and the state stays
abbrev pub ErasesMarks : {F : Type 0} {g : _} → (F → Seen) → Base F g → Result (Base F g) (Stopped F) → Type 0
ErasesMarks seen base result =
    (d : StoreState) → BaseHolds seen base d → ((b : ℕ) → ¬ IsFilling (entry_of base.fields b))
    → MatchResult result
    (λ next. Ran (either RepresentsStore) d (d ∷ []) (seen base.flash) (seen next.flash) × BaseHolds seen next d)
    (λ stopped. Broke (either RepresentsStore) d (d ∷ []) (seen base.flash) (seen stopped.flash))

-- all outside a range is as before
abbrev pub StaysOutsideOf : ℕ → ℕ → Seen → Seen → Type 0
StaysOutsideOf at n old new = IsTrue old.told → SameOutside at n old.octets new.octets

-- octets lie at a place
abbrev pub IsPut : ℕ → List ℕ → Seen → Seen → Type 0
IsPut at octets old new = IsTrue old.told → part_of new.octets at (length octets) ≡ octets

-- so many pages are erased and programmed, and the state stays
abbrev pub PutsPages : {F : Type 0} {g : _} → (F → Seen) → Base F g → ℕ → ℕ → Result (Base F g) (Stopped F) → Type 0
PutsPages seen base at pages result =
    (d : StoreState) → BaseHolds seen base d → IsFree d at (4096 * pages)
    → MatchResult result
    (λ next. Ran (either RepresentsStore) d (replicate (pages + pages) d) (seen base.flash) (seen next.flash) × BaseHolds seen next d)
    (λ stopped. Broke (either RepresentsStore) d (replicate (pages + pages) d) (seen base.flash) (seen stopped.flash))

-- a mark is set
abbrev pub SetsMark : {F : Type 0} {g : _} → (F → Seen) → Base F g → ℕ → Result (Base F g) (Stopped F) → Type 0
SetsMark seen base at result = MatchResult result
    (λ next. Ran (either (MarkTurns (seen base.flash).octets at)) before (after ∷ []) (seen base.flash) (seen next.flash))
    (λ stopped. Broke (either (MarkTurns (seen base.flash).octets at)) before (after ∷ []) (seen base.flash) (seen stopped.flash))
