-- What an operation on a control page, a slot or a mark leaves of the octets of a flash, whole or cut short.
use Rattle.std.specs.Prelude.{◌≡◌, ℕ, ◌+◌, ◌*◌, ◌<◌, ◌≤◌, List, [], ◌∷◌, length, slice_index}
use Rattle.mu_model_image.specs.Sizes.{page_octets}
use Rattle.mu_model_flash.specs.Bits.{AreOctets, blank, written}
use Rattle.mu_model_flash.specs.Run.{exact, either, Refines}
use Rattle.mu_model_record.specs.Code.{coded}
use Rattle.mu_model_record.specs.Page.{page_of, slot_of, slot_place, format_of, page_word, slot_word, IsSafePage, CanWriteSlot}
use Rattle.mu_model_record.specs.Turns.{before, after, PageErases, PageTurns, SlotTurns, MarkTurns, StaysOutside, NoNewWord, NoOtherWord}

-- the page lies in the flash
abbrev pub HasPage : List ℕ → ℕ → Type 0
HasPage octets page = page_octets * page + page_octets ≤ length octets

-- the octets after an erase of a page, and after the coded octets are written on it
abbrev pub erased : List ℕ → ℕ → List ℕ
erased old page = written old (page_octets * page) (blank page_octets)

abbrev pub coded_on : List ℕ → ℕ → List ℕ → List ℕ
coded_on old page octets = written old (page_octets * page) (coded octets)

-- An erase of a page.
pub record EraseLaws : Type 0 where
  -- all outside it stays as it was
  pub stays : (old : List ℕ) (page : ℕ) → HasPage old page → Refines exact (either (StaysOutside (page_octets * page) page_octets old)) old (erased old page ∷ []) tt (tt ∷ [])
  -- of a safe page each word is as it was or gone
  pub turns : (old : List ℕ) (page : ℕ) → HasPage old page → IsSafePage (page_of old page) → Refines exact (either (PageErases old page)) old (erased old page ∷ []) before (after ∷ [])
  -- so there is no word that wasn't there
  pub words : (old : List ℕ) (page : ℕ) → HasPage old page → Refines (either (PageErases old page)) (either (NoNewWord old page)) before (after ∷ []) tt (tt ∷ [])
  -- after it the page and its slots read FF
  pub page : (old : List ℕ) (page : ℕ) → HasPage old page → page_of (erased old page) page ≡ blank page_octets
  pub slots : (old : List ℕ) (page : ℕ) → HasPage old page → (k : ℕ) → k < 4 → slot_of (erased old page) page k ≡ blank 1024

-- An erase of a page, and then a program of all of it.
pub record WholePageLaws : Type 0 where
  pub stays : (old : List ℕ) (page : ℕ) → HasPage old page → (word : List ℕ) → length word ≡ page_octets
      → Refines exact (either (StaysOutside (page_octets * page) page_octets old)) old (erased old page ∷ written old (page_octets * page) word ∷ []) tt (tt ∷ tt ∷ [])
  -- each word of a safe page is as it was or gone, or there is none, or the page holds a long record
  pub turns : (old : List ℕ) (page : ℕ) → HasPage old page → IsSafePage (page_of old page) → (octets : List ℕ) → length octets ≡ 2048 → AreOctets octets → format_of octets ≡ 1
      → Refines exact (either (PageTurns old page octets)) old (erased old page ∷ coded_on old page octets ∷ []) before (before ∷ after ∷ [])
  pub words : (old : List ℕ) (page : ℕ) → HasPage old page → (octets : List ℕ) → length octets ≡ 2048 → AreOctets octets → format_of octets ≡ 1
      → Refines (either (PageTurns old page octets)) (either (NoOtherWord old page (page_word octets))) before (before ∷ after ∷ []) tt (tt ∷ tt ∷ [])

-- A program of a slot that reads FF.
pub record SlotLaws : Type 0 where
  -- the slot is no code word, or holds the new octets
  pub turns : (old : List ℕ) (page slot : ℕ) → slot_place page slot + 1024 ≤ length old → slot_of old page slot ≡ blank 1024 → (octets : List ℕ) → length octets ≡ 512 → AreOctets octets
      → Refines exact (either (SlotTurns old page slot octets)) old (written old (slot_place page slot) (coded octets) ∷ []) before (after ∷ [])
  pub words : (old : List ℕ) (page : ℕ) → HasPage old page → (slot : ℕ) (octets : List ℕ) → slot < 4 → length octets ≡ 512 → AreOctets octets → CanWriteSlot (page_of old page) slot
      → Refines (either (SlotTurns old page slot octets)) (either (NoOtherWord old page (slot_word slot octets))) before (after ∷ []) tt (tt ∷ [])

-- A program of one octet FE where FF stood leaves the one or the other.
abbrev pub MarkLaw : Type 0
MarkLaw = (old : List ℕ) (at : ℕ) → at + 1 ≤ length old → slice_index old at ≡ 255 → Refines exact (either (MarkTurns old at)) old (written old at (254 ∷ []) ∷ []) before (after ∷ [])
