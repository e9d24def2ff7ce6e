-- What counts for a row, and what it makes of it one after the other.
use Rattle.std.specs.Prelude.{ℕ, ◌≡◌, ◌↔◌, ◌++◌, Bool, true, false, List, [], ◌∷◌, ⊤}
use Rattle.std.specs.List.{list_any}
use Rattle.mu_model_image.specs.declared.Meta.{Meta}
use Rattle.mu_model_client.specs.Answers.{Answer}
use Rattle.mu_model_client.specs.Rows.{Row, new_row, with_phase, row_after, row_canceled, row_unconfirmed, phase_unknown}
use Rattle.mu_model_rows.specs.Clients.{tells_phase}

pub data Counted : Type 0 where
  -- a packet that is handled from its receiver while its transfer is present
  Told : Answer → Counted
  -- its distribution is canceled
  Canceled : Counted
  -- it was asked to confirm through five silent rounds
  Unconfirmed : Counted

-- a row of an image of this index, in this phase
abbrev pub row_in : (index phase : ℕ) → Row
row_in index phase = with_phase phase (new_row 0 index)

-- the phase after it, of a transfer with this BLOB ID that offers these metadata
abbrev pub phase_by : ℕ → Meta → (index phase : ℕ) → Counted → ℕ
phase_by id offered index phase (Told answer) = (row_after id offered (row_in index phase) answer).phase
phase_by id offered index phase Canceled = (row_canceled (row_in index phase)).phase
phase_by id offered index phase Unconfirmed = (row_unconfirmed (row_in index phase)).phase

abbrev pub folded : ℕ → Meta → (index phase : ℕ) → List Counted → ℕ
folded id offered index phase [] = phase
folded id offered index phase (c ∷ cs) = folded id offered index (phase_by id offered index phase c) cs

-- ---- all rows

-- a row is of the same receiver and image as it was, in the phase that this has made of it
pub record IsFolded (id : ℕ) (offered : Meta) (before : Row) (counted : List Counted) (after : Row) : Type 0 where
  pub address_same : after.address ≡ before.address
  pub index_same : after.index ≡ before.index
  pub phase_is : after.phase ≡ folded id offered before.index before.phase counted

-- each row, by what counted for the row at its place
abbrev pub Folds : ℕ → Meta → List Row → List (List Counted) → List Row → Type 0
Folds id offered [] [] [] = ⊤
Folds id offered (row ∷ before) (counted ∷ more) (now ∷ after) = IsFolded id offered row counted now × Folds id offered before more after
Folds id offered _ _ _ = ⊥

-- what counted for each row, and then what counted for each
abbrev pub joined : List (List Counted) → List (List Counted) → List (List Counted)
joined [] _ = []
joined (c ∷ cs) [] = []
joined (c ∷ cs) (d ∷ ds) = (c ++ d) ∷ joined cs ds

-- ---- Phase Unknown

-- it takes a row from Phase Unknown: an Update Status of the transfer with a phase of 1 to 6, or a verdict
abbrev pub teaches : ℕ → Counted → Bool
teaches id (Told answer) = tells_phase id answer
teaches id Canceled = true
teaches id Unconfirmed = true

-- it stands exactly where nothing of what counted does
abbrev pub UnknownIsExactInRuns : Type 0
UnknownIsExactInRuns =
    (id : ℕ) (offered : Meta) (index : ℕ) (counted : List Counted)
    → (folded id offered index phase_unknown counted ≡ phase_unknown) ↔ (list_any (teaches id) counted ≡ false)
