-- The ranges of a record's fields, at both ends of each and one past it.
use Rattle.std.specs.Prelude.{ℕ, List, [], ◌∷◌, replicate}
use Rattle.mu_model_image.specs.declared.Meta.{Meta}
use Rattle.mu_model_record.specs.declared.Record.{Record}
use Rattle.mu_model_record.specs.declared.BankState.{BankState}
use Rattle.mu_model_record.specs.declared.BankState.TheVariants.{Empty, Filling, Sealed}
use Rattle.mu_model_record.specs.Record.{IsRecord, IsEntryInRange}

abbrev pub record_of : (count pages number : ℕ) → List BankState → Record
record_of count pages number banks = record { count = count; pages = pages; number = number; banks = banks; tag = replicate 1792 0 }

abbrev pub no_banks : List BankState
no_banks = Empty ∷ Empty ∷ Empty ∷ Empty ∷ []

abbrev pub meta_of : (size : ℕ) → Meta
meta_of size = record { size = size; version = 1; digest = replicate 32 0x5a }

abbrev pub of_numbers : (count pages number : ℕ) → Record
of_numbers count pages number = record_of count pages number no_banks

-- two banks of one page
abbrev pub of_banks : (first second third : BankState) → Record
of_banks first second third = record_of 1 1 2 (first ∷ second ∷ third ∷ Empty ∷ [])

-- the entry of a bank of one page
abbrev pub IsEntryOfPage : BankState → Type 0
IsEntryOfPage entry = IsEntryInRange (of_numbers 1 1 2) entry

pub record EachRange : Type 0 where
  -- count 1.., pages 1..256, banks 2..4
  pub least : IsRecord (of_numbers 1 1 2)
  pub most : IsRecord (of_numbers 4294967295 256 4)
  pub no_count : IsRecord (of_numbers 0 1 2) → ⊥
  pub past_count : IsRecord (of_numbers 4294967296 1 2) → ⊥
  pub no_page : IsRecord (of_numbers 1 0 2) → ⊥
  pub page_257 : IsRecord (of_numbers 1 257 2) → ⊥
  pub one_bank : IsRecord (of_numbers 1 1 1) → ⊥
  pub five_banks : IsRecord (of_numbers 1 1 5) → ⊥
  -- the place of a bank that isn't there is Empty, and at most one bank is Filling
  pub bank_past : IsRecord (of_banks Empty Empty (Filling 1 12)) → ⊥
  pub one_filling : IsRecord (of_banks Empty (Filling 1 12) Empty)
  pub two_filling : IsRecord (of_banks (Filling 1 12) (Filling 1 12) Empty) → ⊥
  -- Filling has a size 1..capacity and log 12..14, Sealed has metadata of such a size
  pub least_filling : IsEntryOfPage (Filling 1 12)
  pub most_filling : IsEntryOfPage (Filling 4096 14)
  pub no_size : IsEntryOfPage (Filling 0 12) → ⊥
  pub past_bank : IsEntryOfPage (Filling 4097 12) → ⊥
  pub log_11 : IsEntryOfPage (Filling 1 11) → ⊥
  pub log_15 : IsEntryOfPage (Filling 1 15) → ⊥
  pub least_sealed : IsEntryOfPage (Sealed (meta_of 1))
  pub most_sealed : IsEntryOfPage (Sealed (meta_of 4096))
  pub sealed_none : IsEntryOfPage (Sealed (meta_of 0)) → ⊥
  pub sealed_past : IsEntryOfPage (Sealed (meta_of 4097)) → ⊥
