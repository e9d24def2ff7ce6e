-- What holds of the octets of a flash that has a store, or of which a boot finds something else.
use Rattle.std.specs.Prelude.{◌≡◌, ℕ, ◌≤◌, List, length}
use Rattle.mu_model_flash.specs.Bits.{SameOutside}
use Rattle.mu_model_record.specs.declared.Record.{Record}
use Rattle.mu_model_record.specs.Page.{Word}
use Rattle.mu_model_record.specs.Record.{IsRecord, IsSpelled, IsWordOf}
use Rattle.mu_model_record.specs.Store.{StoreState}
use Rattle.mu_model_record.specs.Represents.{RepresentsAt, RepresentsStore}
use Rattle.mu_model_record.specs.Free.{IsFree}
use Rattle.mu_model_record.specs.Kinds.{IsPresent, IsBlank, IsForeign, IsDamaged, IsStore}

-- octets spell one record of four entries at most
abbrev pub OctetsSpellOneRecord : Type 0
OctetsSpellOneRecord = (format : ℕ) (r s : Record) (octets : List ℕ) → length r.banks ≡ 4 → length s.banks ≡ 4 → IsSpelled format r octets → IsSpelled format s octets → r ≡ s

-- a word is of one record at most
abbrev pub WordIsOfOneRecord : Type 0
WordIsOfOneRecord = (word : Word) (r s : Record) → IsRecord r → IsRecord s → IsWordOf word r → IsWordOf word s → r ≡ s

-- an image has one present record at most, in one place
abbrev pub PresentRecordIsOne : Type 0
PresentRecordIsOne = (image : List ℕ) (p q : ℕ) (w v : Word) (r s : Record) → IsPresent image p w r → IsPresent image q v s → (p ≡ q) × (w ≡ v) × (r ≡ s)

-- an image represents one state of a store at most
abbrev pub RepresentedStateIsOne : Type 0
RepresentedStateIsOne = (image : List ℕ) (d e : StoreState) → RepresentsStore d image → RepresentsStore e image → d ≡ e

-- the record of that state is the present one, where the state says that it lies
abbrev pub RepresentedIsPresent : Type 0
RepresentedIsPresent = (page : ℕ) (word : Word) (d : StoreState) (image : List ℕ) → RepresentsAt page word d image → IsPresent image page word d.present

-- what a boot may find
pub data Finding : Type 0 where
  blank : Finding
  foreign : Finding
  damaged : ℕ → List ℕ → List ℕ → Finding
  store : Record → Finding

abbrev pub Finds : List ℕ → Finding → Type 0
Finds image blank = IsBlank image
Finds image foreign = IsForeign image
Finds image (damaged bank want found) = IsDamaged image bank want found
Finds image (store r) = IsStore image r

-- it finds one of them at most
abbrev pub OneThingIsFound : Type 0
OneThingIsFound = (image : List ℕ) (this that : Finding) → Finds image this → Finds image that → this ≡ that

-- of an image that represents a state it finds the store
abbrev pub RepresentedIsFound : Type 0
RepresentedIsFound = (d : StoreState) (image : List ℕ) → RepresentsStore d image → Finds image (store d.present)

-- a change of a range that has nothing of what the state says of the flash leaves the state represented
abbrev pub FreeRangeMayChange : Type 0
FreeRangeMayChange =
    (page : ℕ) (word : Word) (d : StoreState) (old new : List ℕ) (at n : ℕ) → 8192 ≤ at → IsFree d at n → SameOutside at n old new → RepresentsAt page word d old → RepresentsAt page word d new
