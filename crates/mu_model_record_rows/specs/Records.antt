-- A record's octets, places, operations, and which of two records is the present one.
use Rattle.std.specs.Prelude.{◌≡◌, ◌↔◌, ℕ, true, false, List, [], ◌∷◌, ◌++◌, length, map, replicate, take}
use Rattle.mu_model_record.specs.declared.Record.{Record}
use Rattle.mu_model_record.specs.declared.BankState.TheVariants.{Empty, Filling, Sealed}
use Rattle.mu_model_record.specs.Code.{coded, is_code, content_of}
use Rattle.mu_model_record.specs.Kinds.{NotBefore}
use Rattle.mu_model_record.specs.Next.{is_short, record_steps, fresh_after, block_steps}
use Rattle.mu_model_record.specs.Page.{page_word, slot_word}
use Rattle.mu_model_record.specs.Record.{IsSpelled, IsRecord, IsShort, capacity_of}
use Rattle.mu_model_record.specs.Store.{StoreState, pages_of, mark_place, bank_place, block_place}

-- ---- octets

abbrev pub digest : List ℕ
digest = replicate 32 0x5a

-- two banks of three pages: bank 0 Sealed, bank 1 Filling
abbrev pub sealed_and_filling : Record
sealed_and_filling = record {
  count = 0x04030201;
  pages = 3;
  number = 2;
  banks = Sealed (record { size = 0x0102; version = 0x08070605; digest = digest }) ∷ Filling 0x1234 13 ∷ Empty ∷ Empty ∷ [];
  tag = 0xa1 ∷ 0xa2 ∷ replicate 1790 0xa3;
}

-- from 0 on: 4D 55 46 31, the format, banks, pages, count, and four octets 0
abbrev pub head : (format : ℕ) → List ℕ
head format = 0x4d ∷ 0x55 ∷ 0x46 ∷ 0x31 ∷ format ∷ 2 ∷ 3 ∷ 0 ∷ 1 ∷ 2 ∷ 3 ∷ 4 ∷ 0 ∷ 0 ∷ 0 ∷ 0 ∷ []

-- from 16 on: state, log, two octets 0, size, metadata
abbrev pub sealed_entry : List ℕ
sealed_entry = (2 ∷ 0 ∷ 0 ∷ 0 ∷ 0 ∷ 0 ∷ 0 ∷ 0 ∷ []) ++ ((2 ∷ 1 ∷ 0 ∷ 0 ∷ 5 ∷ 6 ∷ 7 ∷ 8 ∷ []) ++ digest)

-- from 64 on
abbrev pub filling_entry : List ℕ
filling_entry = (1 ∷ 13 ∷ 0 ∷ 0 ∷ 0x34 ∷ 0x12 ∷ 0 ∷ 0 ∷ []) ++ replicate 40 0

-- to 256 it is 0, and then the tag
abbrev pub spelled : (format : ℕ) → List ℕ
spelled format = head format ++ (sealed_entry ++ (filling_entry ++ (replicate 144 0 ++ (0xa1 ∷ 0xa2 ∷ replicate 1790 0xa3))))

-- ---- short and long

-- a record is short where its octets from 512 on are 0: 256 octets of its tag stand before them
abbrev pub of_tag : List ℕ → Record
of_tag tag = record sealed_and_filling { tag = tag }

abbrev pub short_record : Record
short_record = of_tag (replicate 256 9 ++ replicate 1536 0)

abbrev pub long_record : Record
long_record = of_tag (replicate 256 0 ++ (1 ∷ replicate 1535 0))

abbrev pub state_of : Record → StoreState
state_of r = record { present = r; contents = [] }

-- how many operations a record takes where so many slots are fresh
abbrev pub operations : Record → ℕ → ℕ
operations r fresh = length (record_steps fresh (state_of sealed_and_filling) (state_of r))

pub record EachRecord : Type 0 where
  pub long : IsSpelled 1 sealed_and_filling (spelled 1)
  pub short : IsSpelled 2 sealed_and_filling (spelled 2)
  -- the test of a short record is the rule
  pub short_is : (r : Record) → (is_short r ≡ true) ↔ IsShort r
  pub short_there : IsShort short_record
  pub none_short : is_short long_record ≡ false
  pub last_octet : is_short (of_tag (replicate 1791 0 ++ 1 ∷ [])) ≡ false
  -- a tag has 1,792 octets, no fewer and no more
  pub tag_less : IsRecord (of_tag (replicate 1791 9)) → ⊥
  pub tag_more : IsRecord (of_tag (replicate 1793 9)) → ⊥
  -- a short one goes into the next slot, where there is one; else the other page is erased
  pub short_operations : map (operations short_record) (0 ∷ 1 ∷ 2 ∷ 3 ∷ []) ≡ 2 ∷ 1 ∷ 1 ∷ 1 ∷ []
  pub long_operations : map (operations long_record) (0 ∷ 1 ∷ 2 ∷ 3 ∷ []) ≡ 2 ∷ 2 ∷ 2 ∷ 2 ∷ []
  pub first_leaves_old : take 1 (record_steps 0 (state_of long_record) (state_of short_record)) ≡ state_of long_record ∷ []
  pub last_makes_new : record_steps 1 (state_of long_record) (state_of short_record) ≡ state_of short_record ∷ []
  -- slots that are fresh after it: three behind the first of a page, none behind a long one
  pub short_fresh : map (λ fresh. fresh_after fresh short_record) (0 ∷ 1 ∷ 2 ∷ 3 ∷ []) ≡ 3 ∷ 0 ∷ 1 ∷ 2 ∷ []
  pub long_fresh : map (λ fresh. fresh_after fresh long_record) (0 ∷ 1 ∷ 2 ∷ 3 ∷ []) ≡ 0 ∷ 0 ∷ 0 ∷ 0 ∷ []
  -- the pages of a block are erased and programmed, and its mark set
  pub block_operations : map (λ pages. length (block_steps pages (state_of short_record) (state_of long_record))) (1 ∷ 2 ∷ 4 ∷ []) ≡ 3 ∷ 5 ∷ 9 ∷ []
  pub marked_last : block_steps 1 (state_of short_record) (state_of long_record) ≡ state_of short_record ∷ state_of short_record ∷ state_of long_record ∷ []
  -- two control pages, a mark page for each bank, and the banks
  pub pages : pages_of sealed_and_filling ≡ 10
  pub capacity : capacity_of sealed_and_filling ≡ 12288
  pub marks : map (mark_place 1) (0 ∷ 5 ∷ []) ≡ 12288 ∷ 12293 ∷ []
  pub banks : map (bank_place sealed_and_filling) (0 ∷ 1 ∷ []) ≡ 16384 ∷ 28672 ∷ []
  pub blocks : map (block_place sealed_and_filling 1 13) (0 ∷ 1 ∷ []) ≡ 28672 ∷ 36864 ∷ []
  -- of equal counts the lower page, then the lower slot
  pub lower_page : NotBefore 1 (slot_word 0 []) 0 (slot_word 3 [])
  pub higher_page : NotBefore 0 (slot_word 3 []) 1 (slot_word 0 []) → ⊥
  pub lower_slot : NotBefore 0 (slot_word 2 []) 0 (slot_word 1 [])
  pub higher_slot : NotBefore 1 (slot_word 1 []) 1 (slot_word 2 []) → ⊥
  pub page_begins : NotBefore 1 (slot_word 1 []) 1 (page_word [])
  -- code words
  pub coded_is : coded (0 ∷ 0xff ∷ 0x4d ∷ []) ≡ 0 ∷ 0xff ∷ 0xff ∷ 0 ∷ 0x4d ∷ 0xb2 ∷ []
  pub content_is : content_of (0 ∷ 0xff ∷ 0xff ∷ 0 ∷ 0x4d ∷ 0xb2 ∷ []) ≡ 0 ∷ 0xff ∷ 0x4d ∷ []
  pub code : is_code (0 ∷ 0xff ∷ 0xff ∷ 0 ∷ 0x4d ∷ 0xb2 ∷ []) ≡ true
  pub no_code : is_code (0 ∷ 0xff ∷ 0xff ∷ 0xff ∷ []) ≡ false
  pub first_counts : is_code (1 ∷ 0xff ∷ 0xff ∷ 0 ∷ []) ≡ false
  pub odd : is_code (0 ∷ 0xff ∷ 0xff ∷ []) ≡ false
