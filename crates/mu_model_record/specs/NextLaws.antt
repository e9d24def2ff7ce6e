-- What the operations of a record make of a flash, whole or cut short: the state before it or the state after it.
use Rattle.std.specs.Prelude.{◌≡◌, ℕ, ◌+◌, ◌*◌, ◌<◌, ◌≤◌, List, [], ◌∷◌, ◌++◌, length}
use Rattle.mu_model_image.specs.Sizes.{page_octets}
use Rattle.mu_model_flash.specs.Bits.{AreOctets, blank, written}
use Rattle.mu_model_flash.specs.Run.{either, Refines}
use Rattle.mu_model_record.specs.declared.Record.{Record}
use Rattle.mu_model_record.specs.Code.{coded}
use Rattle.mu_model_record.specs.Page.{page_of, slot_place, Word, page_word, slot_word, IsSafePage}
use Rattle.mu_model_record.specs.Turns.{before, after, PageErases, PageTurns, SlotTurns}
use Rattle.mu_model_record.specs.Record.{zeros, IsSpelled}
use Rattle.mu_model_record.specs.Store.{StoreState}
use Rattle.mu_model_record.specs.Represents.{ControlPages, RepresentsAt, RepresentsStore, IsFollowedBy}
use Rattle.mu_model_record.specs.Next.{IsNext}

-- the content of a page that is a long record, and of a slot that is a short one
pub record IsLongContent (r : Record) (octets : List ℕ) : Type 0 where
  pub many : length octets ≡ 2048
  pub small : AreOctets octets
  pub spells : IsSpelled 1 r octets

pub record IsShortContent (r : Record) (octets : List ℕ) : Type 0 where
  pub many : length octets ≡ 512
  pub small : AreOctets octets
  pub spells : IsSpelled 2 r (octets ++ zeros 1536)

-- The next record, written on the other control page.
module _ (page other : ℕ) (word : Word) (d e : StoreState) (old : List ℕ) where
  pub record OtherPageLaws : Type 0 where
    -- an erase of that page gives it no word
    pub safe : IsSafePage (page_of old other)
    -- and the state stays as it was
    pub erase : Refines (either (PageErases old other)) (either RepresentsStore) before (after ∷ []) d (d ∷ [])
    pub erased : (c : List ℕ) → PageErases old other after c → RepresentsAt page word d c × IsNext c d e × (page_of c other ≡ blank page_octets)
    -- an erase and a program of the whole page: the state as it was, or the next one
    pub long : (octets : List ℕ) → IsLongContent e.present octets → Refines (either (PageTurns old other octets)) (either RepresentsStore) before (before ∷ after ∷ []) d (d ∷ e ∷ [])
    pub long_after : (octets : List ℕ) → IsLongContent e.present octets → (c : List ℕ) → PageTurns old other octets after c → RepresentsAt other (page_word octets) e c
    -- a program of its first slot, where it was erased
    pub short : page_of old other ≡ blank page_octets → (octets : List ℕ) → IsShortContent e.present octets → Refines (either (SlotTurns old other 0 octets)) (either RepresentsStore) before (after ∷ []) d (e ∷ [])
    pub short_after : page_of old other ≡ blank page_octets → (octets : List ℕ) → IsShortContent e.present octets → (c : List ℕ) → SlotTurns old other 0 octets after c → RepresentsAt other (slot_word 0 octets) e c

-- where the flash represents a state whose present record is on one control page
abbrev pub NextOnOtherPage : Type 0
NextOnOtherPage = (page other : ℕ) → other + page ≡ 1 → (word : Word) (d e : StoreState) (old : List ℕ) → RepresentsAt page word d old → IsNext old d e → OtherPageLaws page other word d e old

-- The next record, written in the slot after the present one.
module _ (page slot : ℕ) (content : List ℕ) (d e : StoreState) (old : List ℕ) where
  pub record NextSlotLaws : Type 0 where
    pub short : (octets : List ℕ) → IsShortContent e.present octets → Refines (either (SlotTurns old page (slot + 1) octets)) (either RepresentsStore) before (after ∷ []) d (e ∷ [])
    pub short_after : (octets : List ℕ) → IsShortContent e.present octets → (c : List ℕ) → SlotTurns old page (slot + 1) octets after c → RepresentsAt page (slot_word (slot + 1) octets) e c

abbrev pub NextInNextSlot : Type 0
NextInNextSlot = (page slot : ℕ) (content : List ℕ) (d e : StoreState) (old : List ℕ) → RepresentsAt page (slot_word slot content) d old → IsNext old d e → slot + 1 < 4 → NextSlotLaws page slot content d e old

-- The first record, written on page 0 where both control pages were erased, or page 1 and then page 0 as a whole.
pub record FirstRecordLaws : Type 0 where
  pub long : (old : List ℕ) → 8192 ≤ length old → page_of old 1 ≡ blank page_octets → (r : Record) (octets : List ℕ) → IsLongContent r octets → ControlPages 0 (page_word octets) r (written old (page_octets * 0) (coded octets))
  pub short : (old : List ℕ) → 8192 ≤ length old → page_of old 1 ≡ blank page_octets → page_of old 0 ≡ blank page_octets → (r : Record) (octets : List ℕ) → IsShortContent r octets
      → ControlPages 0 (slot_word 0 octets) r (written old (slot_place 0 0) (coded octets)) × IsFollowedBy 0 3 (written old (slot_place 0 0) (coded octets))
