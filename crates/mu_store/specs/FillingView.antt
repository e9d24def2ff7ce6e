-- What callers see of a store of which a bank is being filled.
use Rattle.std.specs.Prelude.{◌≡◌, ℕ, ◌≤◌, Bool, List, take, Result, MatchResult}
use Rattle.mu_model_flash.specs.Flash.{Seen}
use Rattle.mu_model_image.specs.Pieces.{block_count}
use Rattle.mu_model_record.specs.declared.Record.{Record}
use Rattle.mu_store.specs.View.{FaultOf}
use Rattle.mu_store.specs.declared.filling.Filling.{Filling}
use Rattle.mu_store.specs.declared.faults.Stopped.{Stopped}

-- the flash that it owns
abbrev pub filling_flash : {F : Type 0} {g : _} → Filling F g → F
filling_flash filling = filling.base.flash

-- the fields of its present record
abbrev pub filling_record : {F : Type 0} {g : _} → Filling F g → Record
filling_record filling = filling.base.fields

-- the slots after the present record's that this run may still use
abbrev pub filling_fresh : {F : Type 0} {g : _} → Filling F g → ℕ
filling_fresh filling = filling.base.place.fresh

-- the bank that is being filled
abbrev pub filling_bank : {F : Type 0} {g : _} → Filling F g → ℕ
filling_bank filling = filling.bank

-- the size and the log of its image
abbrev pub filling_size : {F : Type 0} {g : _} → Filling F g → ℕ
filling_size filling = filling.size

abbrev pub filling_log : {F : Type 0} {g : _} → Filling F g → ℕ
filling_log filling = filling.log

-- whether each block is held: a flag for each block of the image, and none past the last
abbrev pub filling_flags : {F : Type 0} {g : _} → Filling F g → List Bool
filling_flags filling = take (block_count filling.size filling.log) filling.held

-- this bank is being filled with an image of this size and log, and these blocks are held
abbrev pub IsFillingOf : {F : Type 0} {g : _} → ℕ → ℕ → ℕ → List Bool → Filling F g → Type 0
IsFillingOf bank size log flags filling = (filling_bank filling ≡ bank) × (filling_size filling ≡ size) × (filling_log filling ≡ log) × (filling_flags filling ≡ flags)

-- all but the flash is as before
pub record IsSameFilling {F : Type 0} {g : _} (old new : Filling F g) : Type 0 where
  pub fields : new.base.fields ≡ old.base.fields
  pub place : new.base.place ≡ old.base.place
  pub bank : new.bank ≡ old.bank
  pub size : new.size ≡ old.size
  pub log : new.log ≡ old.log
  pub flags : new.held ≡ old.held

-- the count of faults doesn't fall, and has risen where the flash failed
abbrev pub FillingFaults : {F : Type 0} {g : _} → Seen → (F → Seen) → Result (Filling F g) (Stopped F) → Type 0
FillingFaults old seen result = MatchResult result (λ filling. old.faults ≤ (seen filling.base.flash).faults) (FaultOf old seen)
