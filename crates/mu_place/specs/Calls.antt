-- What a call on an owned store does and answers.
use Rattle.std.specs.Prelude.{◌≡◌, ◌<◌, ◌≤◌, ◌↔◌, ◌^◌, ◌-◌, ℕ, Bool, true, false, List, Option, Some, None, IfSome, IsSome, IsSomeAnd, IsTrue, IfOk, Result, Err, IfErr, IsErrAnd, MatchResult, slice_index_or, slice_set}
use Rattle.mu_model_flash.specs.Bits.{part_of}
use Rattle.mu_model_flash.specs.Cause.{Rose}
use Rattle.mu_model_flash.specs.Flash.{Seen}
use Rattle.mu_model_flash.specs.Run.{either, Goes}
use Rattle.mu_model_image.specs.Meta.{is_fit}
use Rattle.mu_model_image.specs.Pieces.{block_count, block_length}
use Rattle.mu_model_image.specs.declared.Meta.{Meta}
use Rattle.mu_model_record.specs.declared.Record.{Record}
use Rattle.mu_model_record.specs.declared.BankState.TheVariants.{Empty, Sealed}
use Rattle.mu_model_record.specs.Changes.{next_record}
use Rattle.mu_model_record.specs.Store.{StoreState, bank_place}
use Rattle.mu_model_record.specs.Represents.{RepresentsStore}
use Rattle.mu_store.specs.declared.faults.StoreFault.{StoreFault}
use Rattle.mu_store.specs.declared.faults.StoreFault.TheVariants.{Flash, Worn}
use Rattle.mu_place.specs.declared.place.Place.{Place}
use Rattle.mu_place.specs.Place.{place_flash, place_seen, place_fault, place_record, place_filling, place_held, PlaceHolds}

-- what is answered is the fault that is kept from now on
abbrev pub Answers : {F T : Type 0} {g : _} → Place F g → Result T StoreFault → Type 0
Answers new result = MatchResult result (λ _. place_fault new ≡ None) (λ why. place_fault new ≡ Some why)

-- where a fault was kept before, it is answered and nothing changes
abbrev pub KeepsFault : {F T : Type 0} {g : _} → Place F g → Place F g → Result T StoreFault → Type 0
KeepsFault old new result = (why : StoreFault) → place_fault old ≡ Some why → (result ≡ Err why) × (new ≡ old)

-- `Worn` comes where the present record has the last count
abbrev pub WornAtLast : {F T : Type 0} {g : _} → Place F g → Result T StoreFault → Type 0
WornAtLast old result = place_fault old ≡ None → IsErrAnd result (λ why. why ≡ Worn) ↔ ((place_record old).count ≡ 2 ^ 32 - 1)

-- before anything is written
abbrev pub WornUntouched : {F T : Type 0} {g : _} → Place F g → Place F g → Result T StoreFault → Type 0
WornUntouched old new result = IfErr result (λ why. why ≡ Worn → place_flash new ≡ place_flash old)

-- the count of faults doesn't fall, and has risen where the flash failed in this call
abbrev pub HasRisen : {F T : Type 0} {g : _} → (F → Seen) → Place F g → Place F g → Result T StoreFault → Type 0
HasRisen seen old new result =
    MatchResult result (λ _. (place_seen seen old).faults ≤ (place_seen seen new).faults)
    (λ why. ((place_seen seen old).faults ≤ (place_seen seen new).faults) × (place_fault old ≡ None → why ≡ Flash → Rose (place_seen seen old).faults (place_seen seen new).faults))

abbrev pub IsFlash : StoreFault → Type 0
IsFlash why = why ≡ Flash

-- The run of the flash through these states of the store, or a fault.
abbrev pub PlaceGoes : {F T : Type 0} {g : _} → (F → Seen) → StoreState → List StoreState → Place F g → Place F g → Result T StoreFault → Type 0
PlaceGoes seen s steps old new result =
    Goes (either RepresentsStore) s steps (place_seen seen old) (λ _. place_seen seen new) (λ _. place_seen seen new) (λ _ t. PlaceHolds seen new t) IsFlash result

-- a block of the bank that is being filled isn't held, and has so many octets
abbrev pub CanPut : {F : Type 0} {g : _} → ℕ → ℕ → Place F g → Type 0
CanPut i size place =
    IsSomeAnd (place_filling place) (λ f. (i < block_count f.size f.log) × (size ≡ block_length f.size f.log i) × (slice_index_or (place_held place) i false ≡ false))

-- a bank is being filled, where no fault is kept
abbrev pub Fills : {F : Type 0} {g : _} → Place F g → Type 0
Fills place = place_fault place ≡ None → IsSome (place_filling place)

-- the next record of a bank that was to be sealed: Sealed where it is fit, and else Empty
abbrev pub closed_record : Record → ℕ → Meta → List ℕ → List ℕ → Bool → Record
closed_record r b meta fit unfit true = next_record r (slice_set r.banks b (Sealed meta)) fit
closed_record r b meta fit unfit false = next_record r (slice_set r.banks b Empty) unfit

-- where the flash tells its octets: those of the bank that was being filled fit the metadata, or not
abbrev pub FitsOctets : {F : Type 0} {g : _} → (F → Seen) → Place F g → Meta → Result Bool StoreFault → Type 0
FitsOctets seen old meta result =
    IfSome (place_filling old) (λ f. IsTrue (place_seen seen old).told → IfOk result (λ fit. fit ≡ is_fit (part_of (place_seen seen old).octets (bank_place (place_record old) f.bank) f.size) meta))
