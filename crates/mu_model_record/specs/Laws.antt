-- What holds of code words and of the words of a page.
use Rattle.std.specs.Prelude.{◌≡◌, ◌⊎◌, ◌↔◌, ℕ, ◌+◌, ◌-◌, ◌*◌, ◌<◌, ◌≤◌, List, [], ◌∷◌, ◌++◌, length, slice_index}
use Rattle.mu_model_image.specs.Sizes.{page_octets}
use Rattle.mu_model_flash.specs.Bits.{AreOctets, blank, Between}
use Rattle.mu_model_record.specs.Code.{coded, IsCodeWord, content_of, HasPairOfOnes}
use Rattle.mu_model_record.specs.Page.{page_of, slot_of, slot_in, format_of, Word, page_word, slot_word, IsWord, IsSafePage, IsDead, PageFades, CanWriteSlot, SlotChanges}
use Rattle.mu_model_record.specs.Turns.{before, after, PageTurns, SlotTurns}

-- what is coded is a code word, and is read back
abbrev pub CodedIsReadBack : Type 0
CodedIsReadBack = (xs : List ℕ) → AreOctets xs → IsCodeWord (coded xs) × (content_of (coded xs) ≡ xs)

-- a code word is the coded content
abbrev pub CodeWordsAreCoded : Type 0
CodeWordsAreCoded = (word : List ℕ) → IsCodeWord word → coded (content_of word) ≡ word

-- it has two octets for each one
abbrev pub CodedHasItsLength : Type 0
CodedHasItsLength = (xs : List ℕ) → length (coded xs) ≡ 2 * length xs

-- one octet more is one pair more: the octet and its complement
abbrev pub OneOctetIsOnePair : Type 0
OneOctetIsOnePair = (xs : List ℕ) (x : ℕ) → coded (xs ++ x ∷ []) ≡ coded xs ++ x ∷ (255 - x) ∷ []

-- a code word is made of pairs whose sum is 255
abbrev pub PairsMakeACodeWord : Type 0
PairsMakeACodeWord = (word : List ℕ) (n : ℕ) → length word ≡ 2 * n → IsCodeWord word ↔ ((i : ℕ) → i < n → slice_index word (2 * i) + slice_index word (2 * i + 1) ≡ 255)

-- its content is made of the first ones of its pairs
abbrev pub ContentIsEveryFirst : Type 0
ContentIsEveryFirst = (word : List ℕ) (n : ℕ) → length word ≡ 2 * n → (length (content_of word) ≡ n) × ((i : ℕ) → i < n → slice_index (content_of word) i ≡ slice_index word (2 * i))

-- a pair of ones is in no code word
abbrev pub PairOfOnesIsNoCodeWord : Type 0
PairOfOnesIsNoCodeWord = (word : List ℕ) → HasPairOfOnes word → ¬ IsCodeWord word

-- a torn erase of a safe page leaves each word as it was or none
abbrev pub TornEraseFades : Type 0
TornEraseFades = (old new : List ℕ) → length old ≡ page_octets → IsSafePage old → Between old (blank page_octets) new → PageFades old new

-- what fades has no word that wasn't there, and is safe
abbrev pub FadedHasNoNewWord : Type 0
FadedHasNoNewWord = (old new : List ℕ) → PageFades old new ⊎ IsDead new → (word : Word) → IsWord new word → IsWord old word

abbrev pub FadedIsSafe : Type 0
FadedIsSafe = (old new : List ℕ) → IsSafePage old → PageFades old new ⊎ IsDead new → IsSafePage new

-- a page that is written whole has its octets as its one word
abbrev pub WrittenPageHasItsWord : Type 0
WrittenPageHasItsWord =
    (octets : List ℕ) (word : Word) → length octets ≡ 2048 → AreOctets octets → format_of octets ≡ 1 → IsWord (coded octets) word → word ≡ page_word octets

-- a program of such a page that is cut short leaves it whole or without a word
abbrev pub TornPageIsWholeOrDead : Type 0
TornPageIsWholeOrDead =
    (octets image : List ℕ) → length octets ≡ 2048 → AreOctets octets → format_of octets ≡ 1 → Between (blank page_octets) (coded octets) image → (image ≡ coded octets) ⊎ IsDead image

-- a slot that is written gives the page no word but the new one
abbrev pub WrittenSlotHasItsWord : Type 0
WrittenSlotHasItsWord =
    (old new : List ℕ) (k : ℕ) (octets : List ℕ) → length octets ≡ 512 → AreOctets octets → CanWriteSlot old k → SlotChanges old new k octets
    → (word : Word) → IsWord new word → IsWord old word ⊎ (word ≡ slot_word k octets)

-- and leaves it safe
abbrev pub WrittenSlotIsSafe : Type 0
WrittenSlotIsSafe =
    (old new : List ℕ) (k : ℕ) (octets : List ℕ) → length octets ≡ 512 → AreOctets octets → IsSafePage old → CanWriteSlot old k → SlotChanges old new k octets → IsSafePage new

-- what an operation leaves of the octets of a flash, as what it leaves of the page
abbrev pub TurnsOfAPage : Type 0
TurnsOfAPage =
    (old image octets : List ℕ) (page : ℕ) → page_octets * page + page_octets ≤ length old → length octets ≡ 2048
    → PageTurns old page octets after image → page_of image page ≡ coded octets

abbrev pub TurnsOfASlot : Type 0
TurnsOfASlot =
    (old image octets : List ℕ) (page k : ℕ) → page_octets * page + page_octets ≤ length old → k < 4 → length octets ≡ 512
    → SlotTurns old page k octets before image ⊎ SlotTurns old page k octets after image → SlotChanges (page_of old page) (page_of image page) k octets

abbrev pub SlotsOfAPage : Type 0
SlotsOfAPage = (octets : List ℕ) (page k : ℕ) → page_octets * page + page_octets ≤ length octets → k < 4 → slot_in (page_of octets page) k ≡ slot_of octets page k
