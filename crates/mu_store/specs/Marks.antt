-- Marks as flags.
use Rattle.std.specs.Prelude.{◌≡◌, ◌≢◌, ℕ, ◌<◌, Bool, true, false, List, length, replicate, slice_index, slice_index_or}
use Rattle.mu_model_record.specs.Store.{mark_place}

-- no block is held
unfoldable pub no_flags : List Bool
no_flags = replicate 256 false

-- a mark is FE where its block is held, and else FF
abbrev pub MarkIs : Bool → ℕ → Type 0
MarkIs true octet = octet ≡ 0xFE
MarkIs false octet = octet ≡ 0xFF

-- marks as flags
abbrev pub AreFlags : List ℕ → List Bool → Type 0
AreFlags marks held = (i : ℕ) → i < length marks → MarkIs (slice_index_or held i false) (slice_index marks i)

-- one of the marks is neither
abbrev pub HasOther : List ℕ → Type 0
HasOther marks = (i : ℕ) × (i < length marks) × (slice_index marks i ≢ 0xFF) × (slice_index marks i ≢ 0xFE)

-- the first marks of a bank, as flags
abbrev pub AreHeld : ℕ → ℕ → List Bool → List ℕ → Type 0
AreHeld bank count held image = (i : ℕ) → i < count → MarkIs (slice_index_or held i false) (slice_index image (mark_place bank i))

-- one of the first marks is neither
abbrev pub HasOtherMark : ℕ → ℕ → List ℕ → Type 0
HasOtherMark bank count image = (i : ℕ) × (i < count) × (slice_index image (mark_place bank i) ≢ 0xFF) × (slice_index image (mark_place bank i) ≢ 0xFE)
