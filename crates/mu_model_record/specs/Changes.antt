-- What the calls on a store make of its state (this profile).
use Rattle.std.specs.Prelude.{ℕ, ◌+◌, if◌then◌else◌, Bool, List, [], ◌∷◌, ◌++◌, Option, Some, None, replicate, slice_set}
use Rattle.mu_model_image.specs.declared.Meta.{Meta}
use Rattle.mu_model_image.specs.Meta.{is_fit}
use Rattle.mu_model_image.specs.Pieces.{block_count}
pub use Rattle.mu_model_image.specs.Pieces.{joined}
use Rattle.mu_model_record.specs.declared.Record.{Record}
use Rattle.mu_model_record.specs.declared.BankState.{BankState}
use Rattle.mu_model_record.specs.declared.BankState.TheVariants.{Empty, Filling, Sealed}
use Rattle.mu_model_record.specs.Store.{Content, nothing, held, whole, StoreState, content_of_bank}

-- the next record, with these entries and this tag
abbrev pub next_record : Record → List BankState → List ℕ → Record
next_record r entries tag = record { count = r.count + 1; pages = r.pages; number = r.number; banks = entries; tag = tag }

-- record 1, with every bank Empty
abbrev pub first_record : ℕ → ℕ → List ℕ → Record
first_record banks pages tag = record { count = 1; pages = pages; number = banks; banks = Empty ∷ Empty ∷ Empty ∷ Empty ∷ []; tag = tag }

abbrev pub first_state : ℕ → ℕ → List ℕ → StoreState
first_state banks pages tag = record { present = first_record banks pages tag; contents = replicate banks nothing }

-- the next record says this tag, and all else as before
abbrev pub tagged : StoreState → List ℕ → StoreState
tagged d tag = record { present = next_record d.present d.present.banks tag; contents = d.contents }

-- the next record says this of a bank, which holds this
abbrev pub with_bank : StoreState → ℕ → BankState → Content → List ℕ → StoreState
with_bank d b entry content tag = record {
  present = next_record d.present (slice_set d.present.banks b entry) tag;
  contents = slice_set d.contents b content;
}

-- the entries of a bank that is Filling and of one that is Sealed
abbrev pub filling_entry : ℕ → ℕ → BankState
filling_entry size log = Filling size log

abbrev pub sealed_entry : Meta → BankState
sealed_entry meta = Sealed meta

-- the bank is Filling, and no block is held
abbrev pub begun : StoreState → ℕ → ℕ → ℕ → List ℕ → StoreState
begun d b size log tag = with_bank d b (Filling size log) (held (replicate (block_count size log) None)) tag

-- the bank is Sealed with an image
abbrev pub sealed_up : StoreState → ℕ → Meta → List ℕ → List ℕ → StoreState
sealed_up d b meta octets tag = with_bank d b (Sealed meta) (whole octets) tag

-- the bank is Empty
abbrev pub emptied : StoreState → ℕ → List ℕ → StoreState
emptied d b tag = with_bank d b Empty nothing tag

-- those that are named are replaced
abbrev pub cleared : {X : Type 0} → X → List Bool → List X → List X
cleared none [] xs = xs
cleared none (n ∷ named) [] = []
cleared none (n ∷ named) (x ∷ xs) = (if n then none else x) ∷ cleared none named xs

-- the named banks are Empty
abbrev pub released : StoreState → List Bool → List ℕ → StoreState
released d named tag = record {
  present = next_record d.present (cleared Empty named d.present.banks) tag;
  contents = cleared nothing named d.contents;
}

-- the blocks of a bank that is Filling
abbrev pub blocks_in : Content → List (Option (List ℕ))
blocks_in nothing = []
blocks_in (held blocks) = blocks
blocks_in (whole octets) = []

-- one block more is held; no record says so, but its mark
abbrev pub with_block : StoreState → ℕ → ℕ → List ℕ → StoreState
with_block d b i octets = record {
  present = d.present;
  contents = slice_set d.contents b (held (slice_set (blocks_in (content_of_bank d b)) i (Some octets)));
}

-- The bank is Sealed where what it holds is fit for the metadata, and else Empty.
abbrev pub sealed_or_not : StoreState → ℕ → Meta → List ℕ → List ℕ → StoreState
sealed_or_not d b meta fit unfit =
    if is_fit (joined (blocks_in (content_of_bank d b))) meta then sealed_up d b meta (joined (blocks_in (content_of_bank d b))) fit else emptied d b unfit
