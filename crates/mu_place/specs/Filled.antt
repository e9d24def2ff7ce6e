-- A bank of an owned store that is filled whole, as a source gives its image.
use Rattle.std.specs.Prelude.{◌≡◌, ◌⊎◌, ℕ, ◌*◌, ◌/◌, ◌<◌, ◌≤◌, ◌↔◌, ◌^◌, ◌-◌, Option, None, List, [], length, Result, IfErr, IsErrAnd, MatchResult}
use Rattle.mu_model_flash.specs.Cause.{Rose}
use Rattle.mu_model_flash.specs.Flash.{Seen}
use Rattle.mu_model_flash.specs.Run.{either, Ran, Broke}
use Rattle.mu_model_record.specs.Next.{fresh_after}
use Rattle.mu_model_record.specs.Store.{StoreState}
use Rattle.mu_model_record.specs.Represents.{RepresentsStore}
use Rattle.mu_store.specs.Source.{Gave, IsAtEnd}
use Rattle.mu_store.specs.Puts.{page_steps, pages_for}
use Rattle.mu_store.specs.Filled.{Asked, filled_record, filled_up, whole_steps}
use Rattle.mu_store.specs.declared.whole.FillFail.{FillFail}
use Rattle.mu_store.specs.declared.whole.FillWhy.{FillWhy}
use Rattle.mu_store.specs.declared.whole.FillWhy.TheVariants.{Flash, Worn, Read, Empty, TooBig}
use Rattle.mu_place.specs.declared.place.Place.{Place}
use Rattle.mu_place.specs.Place.{place_seen, place_fault, place_record, place_fresh, place_filling, PlaceHolds}

-- The bank is Sealed with all that the source had.
pub record IsFilledWhole {F : Type 0} {g : _} (seen : F → Seen) (old : Place F g) (asked : Asked) (before after : Option (List ℕ)) (new : Place F g) : Type 0 where
  pub octets : List ℕ
  pub some : 0 < length octets
  pub most : length octets ≤ 4096 * (place_record old).pages
  pub gave : Gave before after octets
  pub at_end : IsAtEnd after
  pub fault : place_fault new ≡ None
  pub filling : place_filling new ≡ None
  pub fields : place_record new ≡ filled_record (place_record old) asked octets
  pub fresh : place_fresh new ≡ fresh_after (place_fresh old) (place_record new)
  pub runs : (s : StoreState) → PlaceHolds seen old s
      → Ran (either RepresentsStore) s (whole_steps (place_fresh old) s (length octets) (filled_up s asked octets)) (place_seen seen old) (place_seen seen new) × PlaceHolds seen new (filled_up s asked octets)

-- The source ended the call: each whole page that it had given lies in the bank, and the state stays.
pub record IsLeftWhole {F : Type 0} {g : _} (seen : F → Seen) (old : Place F g) (before after : Option (List ℕ)) (octets : List ℕ) (new : Seen) : Type 0 where
  pub gave : Gave before after octets
  pub runs : (s : StoreState) → PlaceHolds seen old s → Ran (either RepresentsStore) s (page_steps (length octets / 4096) s) (place_seen seen old) new

-- The flash failed: at the pages of what the source had given, or at the record, with all that it had in the bank.
pub record IsBrokenWhole {F : Type 0} {g : _} (seen : F → Seen) (old : Place F g) (asked : Asked) (before after : Option (List ℕ)) (new : Seen) : Type 0 where
  pub octets : List ℕ
  pub some : 0 < length octets
  pub most : length octets ≤ 4096 * (place_record old).pages
  pub gave : Gave before after octets
  pub runs : (s : StoreState) → PlaceHolds seen old s
      → Broke (either RepresentsStore) s (page_steps (pages_for (length octets)) s) (place_seen seen old) new
      ⊎ (IsAtEnd after × Broke (either RepresentsStore) s (whole_steps (place_fresh old) s (length octets) (filled_up s asked octets)) (place_seen seen old) new)

-- how much the source had given, by the cause
abbrev pub FailsWhole : {F : Type 0} {g : _} → (F → Seen) → Place F g → Asked → Option (List ℕ) → Option (List ℕ) → Seen → FillWhy → Type 0
FailsWhole seen old asked before after new Worn = Unit {0}
FailsWhole seen old asked before after new Flash = IsBrokenWhole seen old asked before after new
FailsWhole seen old asked before after new Read = (octets : List ℕ) × (length octets ≤ 4096 * (place_record old).pages) × IsLeftWhole seen old before after octets new
FailsWhole seen old asked before after new Empty = IsAtEnd after × IsLeftWhole seen old before after [] new
FailsWhole seen old asked before after new TooBig = (octets : List ℕ) × (4096 * (place_record old).pages < length octets) × IsLeftWhole seen old before after octets new

-- the count of faults of the flash doesn't fall, and has risen where the flash failed
abbrev pub HasRisenWhole : {F : Type 0} {g : _} → (F → Seen) → Place F g → Result (Place F g) (FillFail F) → Type 0
HasRisenWhole seen old result =
    MatchResult result (λ new. (place_seen seen old).faults ≤ (place_seen seen new).faults)
    (λ fail. ((place_seen seen old).faults ≤ (seen fail.flash).faults) × (fail.why ≡ Flash → Rose (place_seen seen old).faults (seen fail.flash).faults))
