-- The states that the calls on a store give are states that a store can be in.
use Rattle.std.specs.Prelude.{◌≡◌, ℕ, ◌*◌, ◌<◌, ◌≤◌, Bool, List, length}
use Rattle.mu_model_image.specs.declared.Meta.{Meta}
use Rattle.mu_model_image.specs.Meta.{IsMeta, IsFit}
use Rattle.mu_model_image.specs.Pieces.{block_count, block_length}
use Rattle.mu_model_record.specs.declared.BankState.{BankState}
use Rattle.mu_model_record.specs.declared.BankState.TheVariants.{Filling}
use Rattle.mu_model_record.specs.Record.{entry_of, capacity_of, IsEntryInRange, IsFilling}
use Rattle.mu_model_record.specs.Store.{Content, held, StoreState, content_of_bank}
use Rattle.mu_model_record.specs.Changes.{tagged, with_bank, begun, emptied, sealed_up, released, with_block}
use Rattle.mu_model_record.specs.ChangeLaws.{IsTag, IsNotLast}
use Rattle.mu_model_node.specs.Slots.{Slots}
use Rattle.mu_model_represents.specs.StoreStates.{ContentOf, IsStoreState}

abbrev pub TaggedIsAState : Type 0
TaggedIsAState = (s : StoreState) (tag : List ℕ) → IsStoreState s → IsNotLast s.present → IsTag tag → IsStoreState (tagged s tag)

-- a bank that is to hold something else: its entry is in its range, it holds what the entry says, and no other bank is Filling beside it
pub record TakesEntry (s : StoreState) (bank : ℕ) (entry : BankState) (content : Content) : Type 0 where
  pub there : bank < s.present.number
  pub in_range : IsEntryInRange s.present entry
  pub alone : IsFilling entry → (a : ℕ) → IsFilling (entry_of s.present a) → a ≡ bank
  pub holds : ContentOf entry content

abbrev pub BankIsAState : Type 0
BankIsAState =
    (s : StoreState) (bank : ℕ) (entry : BankState) (content : Content) (tag : List ℕ) → IsStoreState s → IsNotLast s.present → IsTag tag
    → TakesEntry s bank entry content → IsStoreState (with_bank s bank entry content tag)

-- a bank that is begun: its image has a size within it, and no other bank is Filling
pub record CanBegin (s : StoreState) (bank size log : ℕ) : Type 0 where
  pub there : bank < s.present.number
  pub size_least : 0 < size
  pub size_most : size ≤ capacity_of s.present
  pub log_least : 12 ≤ log
  pub log_most : log ≤ 14
  pub alone : (a : ℕ) → IsFilling (entry_of s.present a) → a ≡ bank

abbrev pub BegunIsAState : Type 0
BegunIsAState =
    (s : StoreState) (bank size log : ℕ) (tag : List ℕ) → IsStoreState s → IsNotLast s.present → IsTag tag
    → CanBegin s bank size log → IsStoreState (begun s bank size log tag)

abbrev pub EmptiedIsAState : Type 0
EmptiedIsAState =
    (s : StoreState) (bank : ℕ) (tag : List ℕ) → IsStoreState s → IsNotLast s.present → IsTag tag
    → bank < s.present.number → IsStoreState (emptied s bank tag)

-- a bank that is sealed, or filled as a whole: with an image that fits its metadata and the bank
pub record CanSeal (s : StoreState) (bank : ℕ) (meta : Meta) (octets : List ℕ) : Type 0 where
  pub there : bank < s.present.number
  pub ranges : IsMeta meta
  pub room : meta.size ≤ capacity_of s.present
  pub fit : IsFit octets meta

abbrev pub SealedIsAState : Type 0
SealedIsAState =
    (s : StoreState) (bank : ℕ) (meta : Meta) (octets tag : List ℕ) → IsStoreState s → IsNotLast s.present → IsTag tag
    → CanSeal s bank meta octets → IsStoreState (sealed_up s bank meta octets tag)

abbrev pub ReleasedIsAState : Type 0
ReleasedIsAState =
    (s : StoreState) (named : List Bool) (tag : List ℕ) → IsStoreState s → IsNotLast s.present → IsTag tag → IsStoreState (released s named tag)

-- a block of a bank that is Filling, with its length
pub record CanPut (s : StoreState) (bank i : ℕ) (octets : List ℕ) : Type 0 where
  pub there : bank < s.present.number
  pub size : ℕ
  pub log : ℕ
  pub entry : entry_of s.present bank ≡ Filling size log
  pub blocks : Slots
  pub content : content_of_bank s bank ≡ held blocks
  pub within : i < block_count size log
  pub long : length octets ≡ block_length size log i

abbrev pub BlockIsAState : Type 0
BlockIsAState = (s : StoreState) (bank i : ℕ) (octets : List ℕ) → IsStoreState s → CanPut s bank i octets → IsStoreState (with_block s bank i octets)
