-- The ways in which the octets of a flash with a store are read as states.
use Rattle.std.specs.Prelude.{ℕ, List}
use Rattle.mu_model_flash.specs.Run.{Reading, exact, either}
use Rattle.mu_model_record.specs.Page.{Word}
use Rattle.mu_model_record.specs.Store.{StoreState}
use Rattle.mu_model_record.specs.Represents.{RepresentsStore}
use Rattle.mu_model_record.specs.Turns.{Turn, PageErases, PageTurns, SlotTurns, MarkTurns, StaysOutside, NoNewWord, NoOtherWord, Anything}

pub data Way : Type 0 where
  as_octets : Way
  as_anything : Way
  outside : ℕ → ℕ → List ℕ → Way
  page_erase : List ℕ → ℕ → Way
  page_write : List ℕ → ℕ → List ℕ → Way
  slot_write : List ℕ → ℕ → ℕ → List ℕ → Way
  mark_write : List ℕ → ℕ → Way
  no_new_word : List ℕ → ℕ → Way
  no_other_word : List ℕ → ℕ → Word → Way
  as_store : Way

abbrev pub StateOf : Way → Type 0
StateOf as_octets = List ℕ
StateOf as_anything = Unit {0}
StateOf (outside at n old) = Unit {0}
StateOf (page_erase old page) = Turn
StateOf (page_write old page octets) = Turn
StateOf (slot_write old page slot octets) = Turn
StateOf (mark_write old at) = Turn
StateOf (no_new_word old page) = Unit {0}
StateOf (no_other_word old page new) = Unit {0}
StateOf as_store = StoreState

abbrev pub reading_of : (way : Way) → Reading (StateOf way)
reading_of as_octets = exact
reading_of as_anything = either Anything
reading_of (outside at n old) = either (StaysOutside at n old)
reading_of (page_erase old page) = either (PageErases old page)
reading_of (page_write old page octets) = either (PageTurns old page octets)
reading_of (slot_write old page slot octets) = either (SlotTurns old page slot octets)
reading_of (mark_write old at) = either (MarkTurns old at)
reading_of (no_new_word old page) = either (NoNewWord old page)
reading_of (no_other_word old page new) = either (NoOtherWord old page new)
reading_of as_store = either RepresentsStore
