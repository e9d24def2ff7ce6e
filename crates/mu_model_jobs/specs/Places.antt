-- Banks after a change: those that are changed, and the others.
use Rattle.std.specs.Prelude.{◌≡◌, ◌≢◌, ℕ, ◌<◌, true, false, Bool, List, slice_index_or}
use Rattle.mu_model_record.specs.declared.BankState.{BankState}
use Rattle.mu_model_record.specs.declared.BankState.TheVariants.{Empty}
use Rattle.mu_model_record.specs.Record.{entry_of}
use Rattle.mu_model_record.specs.Store.{Content, StoreState, content_of_bank}
use Rattle.mu_model_record.specs.Changes.{with_bank, released}
use Rattle.mu_model_represents.specs.StoreStates.{IsStoreState}

pub record BanksChange : Type 0 where
  pub entry_here : (s : StoreState) (bank b : ℕ) (entry : BankState) (content : Content) (tag : List ℕ) → IsStoreState s → bank < s.present.number → b ≡ bank
      → entry_of (with_bank s bank entry content tag).present b ≡ entry
  pub content_here : (s : StoreState) (bank b : ℕ) (entry : BankState) (content : Content) (tag : List ℕ) → IsStoreState s → bank < s.present.number → b ≡ bank
      → content_of_bank (with_bank s bank entry content tag) b ≡ content
  pub entry_other : (s : StoreState) (bank b : ℕ) (entry : BankState) (content : Content) (tag : List ℕ) → b ≢ bank
      → entry_of (with_bank s bank entry content tag).present b ≡ entry_of s.present b
  pub content_other : (s : StoreState) (bank b : ℕ) (entry : BankState) (content : Content) (tag : List ℕ) → b ≢ bank
      → content_of_bank (with_bank s bank entry content tag) b ≡ content_of_bank s b
  -- banks that are released
  pub entry_named : (s : StoreState) (named : List Bool) (tag : List ℕ) (b : ℕ) → slice_index_or named b false ≡ true → entry_of (released s named tag).present b ≡ Empty
  pub entry_unnamed : (s : StoreState) (named : List Bool) (tag : List ℕ) (b : ℕ) → slice_index_or named b false ≡ false
      → entry_of (released s named tag).present b ≡ entry_of s.present b
  pub content_unnamed : (s : StoreState) (named : List Bool) (tag : List ℕ) (b : ℕ) → slice_index_or named b false ≡ false
      → content_of_bank (released s named tag) b ≡ content_of_bank s b
