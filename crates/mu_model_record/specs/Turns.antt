-- How a page, a slot or a mark turns from what it was to what is written, as states that octets stand for.
use Rattle.std.specs.Prelude.{◌≡◌, ◌⊎◌, ℕ, ◌*◌, List, [], ◌∷◌}
use Rattle.mu_model_image.specs.Sizes.{page_octets}
use Rattle.mu_model_flash.specs.Bits.{blank, written, SameOutside}
use Rattle.mu_model_record.specs.Code.{coded, HasPairOfOnes}
use Rattle.mu_model_record.specs.Page.{page_of, slot_of, slot_place, Word, IsWord, IsDead, PageFades}

pub data Turn : Type 0 where
  before : Turn
  after : Turn

-- An erase. Before it is done each word of the page is as it was or gone.
abbrev pub PageErases : List ℕ → ℕ → Turn → List ℕ → Type 0
PageErases old page before c = SameOutside (page_octets * page) page_octets old c × PageFades (page_of old page) (page_of c page)
PageErases old page after c = c ≡ written old (page_octets * page) (blank page_octets)

-- A page that is written whole. Before it is done each word of the page is as it was or gone, or there is none.
abbrev pub PageTurns : List ℕ → ℕ → List ℕ → Turn → List ℕ → Type 0
PageTurns old page octets before c = SameOutside (page_octets * page) page_octets old c × (PageFades (page_of old page) (page_of c page) ⊎ IsDead (page_of c page))
PageTurns old page octets after c = c ≡ written old (page_octets * page) (coded octets)

-- A slot that is written. Before it is done it has a pair of ones, so that it is no code word.
abbrev pub SlotTurns : List ℕ → ℕ → ℕ → List ℕ → Turn → List ℕ → Type 0
SlotTurns old page slot octets before c = SameOutside (slot_place page slot) 1024 old c × HasPairOfOnes (slot_of c page slot)
SlotTurns old page slot octets after c = c ≡ written old (slot_place page slot) (coded octets)

-- A mark that is set: it is FF or FE.
abbrev pub MarkTurns : List ℕ → ℕ → Turn → List ℕ → Type 0
MarkTurns old at before c = c ≡ old
MarkTurns old at after c = c ≡ written old at (254 ∷ [])

-- Whatever happens to a range, all octets outside it are as before.
abbrev pub StaysOutside : ℕ → ℕ → List ℕ → Unit {0} → List ℕ → Type 0
StaysOutside at n old here c = SameOutside at n old c

-- The page has no word that it hadn't.
abbrev pub NoNewWord : List ℕ → ℕ → Unit {0} → List ℕ → Type 0
NoNewWord old page here c = (word : Word) → IsWord (page_of c page) word → IsWord (page_of old page) word

-- The page has no word that it hadn't, but the new one.
abbrev pub NoOtherWord : List ℕ → ℕ → Word → Unit {0} → List ℕ → Type 0
NoOtherWord old page new here c = (word : Word) → IsWord (page_of c page) word → IsWord (page_of old page) word ⊎ (word ≡ new)

-- Whatever the octets are.
abbrev pub Anything : Unit {0} → List ℕ → Type 0
Anything here c = Unit {0}
