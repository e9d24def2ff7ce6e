-- Control pages: four slots of 1,024 octets, and the words that they hold (this profile).
use Rattle.std.specs.Prelude.{◌≡◌, ◌≢◌, ◌⊎◌, ℕ, ◌+◌, ◌*◌, ◌<◌, List, slice_index}
use Rattle.mu_model_image.specs.Sizes.{page_octets}
use Rattle.mu_model_flash.specs.Bits.{blank, part_of}
use Rattle.mu_model_record.specs.Code.{coded, IsCodeWord, content_of, HasPairOfOnes, IsSafe, Fades}

-- the octets of a page of a flash
abbrev pub page_of : List ℕ → ℕ → List ℕ
page_of octets page = part_of octets (page_octets * page) page_octets

-- where a slot of a page begins
abbrev pub slot_place : ℕ → ℕ → ℕ
slot_place page slot = page_octets * page + 1024 * slot

-- the octets of a slot of a page of a flash
abbrev pub slot_of : List ℕ → ℕ → ℕ → List ℕ
slot_of octets page slot = part_of octets (slot_place page slot) 1024

-- a slot among the octets of a page
abbrev pub slot_in : List ℕ → ℕ → List ℕ
slot_in page slot = part_of page (1024 * slot) 1024

-- The format of a record stands at place 4. Format 1 is long: the record is the content of the whole page.
abbrev pub format_of : List ℕ → ℕ
format_of content = slice_index content 4

abbrev pub IsLong : List ℕ → Type 0
IsLong page = format_of (content_of (slot_in page 0)) ≡ 1

-- a word of a page: the content of the whole page, or of a slot
pub data Word : Type 0 where
  page_word : List ℕ → Word
  slot_word : ℕ → List ℕ → Word

-- The words of a page. Where slot 0 is no code word, there is none. Where its content has format 1, the whole page is the one word if it is a
-- code word, and else there is none. Otherwise each slot that is a code word is a word.
abbrev pub IsWord : List ℕ → Word → Type 0
IsWord page (page_word content) = IsCodeWord (slot_in page 0) × IsLong page × IsCodeWord page × (content ≡ content_of page)
IsWord page (slot_word k content) = IsCodeWord (slot_in page 0) × ¬ IsLong page × (k < 4) × IsCodeWord (slot_in page k) × (content ≡ content_of (slot_in page k))

-- A page of which no torn erase makes a word that it hasn't.
pub record IsSafePage (page : List ℕ) : Type 0 where
  pub first : IsSafe (slot_in page 0)
  pub if_long : IsCodeWord (slot_in page 0) → IsLong page → IsSafe page
  pub if_short : IsCodeWord (slot_in page 0) → ¬ IsLong page → (k : ℕ) → k < 4 → IsSafe (slot_in page k)

-- a page without a word, which no torn erase gives one
abbrev pub IsDead : List ℕ → Type 0
IsDead page = HasPairOfOnes (slot_in page 0) ⊎ (IsCodeWord (slot_in page 0) × IsLong page × HasPairOfOnes page)

-- what may be left of a page that is being erased
pub record PageFades (old new : List ℕ) : Type 0 where
  pub first : Fades (slot_in old 0) (slot_in new 0)
  pub if_long : IsCodeWord (slot_in old 0) → IsLong old → Fades old new
  pub if_short : IsCodeWord (slot_in old 0) → ¬ IsLong old → (k : ℕ) → k < 4 → Fades (slot_in old k) (slot_in new k)

-- A slot may be written where it reads FF: slot 0 where the slots after it do too, another where the page isn't long.
pub record CanWriteSlot (page : List ℕ) (k : ℕ) : Type 0 where
  pub few : k < 4
  pub if_first : k ≡ 0 → (j : ℕ) → 0 < j → j < 4 → slot_in page j ≡ blank 1024
  pub if_later : 0 < k → IsCodeWord (slot_in page 0) → ¬ IsLong page

-- what may be left of a page of which a slot is being written
pub record SlotChanges (old new : List ℕ) (k : ℕ) (octets : List ℕ) : Type 0 where
  pub others : (j : ℕ) → j < 4 → j ≢ k → slot_in new j ≡ slot_in old j
  pub this_one : HasPairOfOnes (slot_in new k) ⊎ (slot_in new k ≡ coded octets)
