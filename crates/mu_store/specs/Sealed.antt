-- What a bank that was to be sealed became.
use Rattle.std.specs.Prelude.{◌≡◌, ◌≤◌, ℕ, Bool, true, false, List, Result, MatchResult, slice_set}
use Rattle.sha2.specs.Sha256.{sha256}
use Rattle.mu_model_flash.specs.Bits.{part_of}
use Rattle.mu_model_flash.specs.Flash.{Seen}
use Rattle.mu_model_image.specs.declared.Meta.{Meta}
use Rattle.mu_model_record.specs.declared.Record.{Record}
use Rattle.mu_model_record.specs.declared.BankState.TheVariants.{Empty, Sealed}
use Rattle.mu_model_record.specs.Store.{StoreState, bank_place}
use Rattle.mu_model_record.specs.Changes.{next_record}
use Rattle.mu_store.specs.View.{FaultOf, store_flash, store_record, store_fresh, StoreHolds}
use Rattle.mu_store.specs.FillingView.{filling_flash}
use Rattle.mu_store.specs.declared.store.Store.{Store}
use Rattle.mu_store.specs.declared.faults.Stopped.{Stopped}
use Rattle.mu_store.specs.declared.sealing.Hashed.{Hashed}
use Rattle.mu_store.specs.declared.sealing.Sealing.{Sealing}
use Rattle.mu_store.specs.declared.sealing.Sealing.TheVariants.{Fit, Unfit}

abbrev pub sealing_store : {F : Type 0} {g : _} → Sealing F g → Store F g
sealing_store (Fit store) = store
sealing_store (Unfit store) = store

-- whether the bank is Sealed
abbrev pub is_sealed : {F : Type 0} {g : _} → Sealing F g → Bool
is_sealed (Fit store) = true
is_sealed (Unfit store) = false

-- the fields of its present record
abbrev pub sealing_record : {F : Type 0} {g : _} → Sealing F g → Record
sealing_record sealing = store_record (sealing_store sealing)

-- the slots after the present record's that this run may still use
abbrev pub sealing_fresh : {F : Type 0} {g : _} → Sealing F g → ℕ
sealing_fresh sealing = store_fresh (sealing_store sealing)

-- the flash seen after it
abbrev pub sealing_seen : {F : Type 0} {g : _} → (F → Seen) → Sealing F g → Seen
sealing_seen seen sealing = seen (store_flash (sealing_store sealing))

abbrev pub SealingHolds : {F : Type 0} {g : _} → (F → Seen) → Sealing F g → StoreState → Type 0
SealingHolds seen sealing d = StoreHolds seen (sealing_store sealing) d

-- the present record after it
abbrev pub IsClosed : {F : Type 0} {g : _} → Record → ℕ → Meta → List ℕ → List ℕ → Sealing F g → Type 0
IsClosed r b meta fit unfit (Fit store) = store_record store ≡ next_record r (slice_set r.banks b (Sealed meta)) fit
IsClosed r b meta fit unfit (Unfit store) = store_record store ≡ next_record r (slice_set r.banks b Empty) unfit

-- the count of faults doesn't fall, and has risen where the flash failed
abbrev pub SealingFaults : {F : Type 0} {g : _} → Seen → (F → Seen) → Result (Sealing F g) (Stopped F) → Type 0
SealingFaults old seen result = MatchResult result (λ sealing. old.faults ≤ (sealing_seen seen sealing).faults) (FaultOf old seen)

abbrev pub HashedFaults : {F : Type 0} {g : _} → Seen → (F → Seen) → Result (Hashed F g) (Stopped F) → Type 0
HashedFaults old seen result = MatchResult result (λ hashed. old.faults ≤ (seen (filling_flash hashed.filling)).faults) (FaultOf old seen)

-- the octets of the bank have this size and this digest
abbrev pub HasDigest : Record → ℕ → ℕ → Meta → List ℕ → Type 0
HasDigest r bank size meta image = (size ≡ meta.size) × (sha256 (part_of image (bank_place r bank) size) ≡ meta.digest)
