-- The states that the calls on a store give are next ones, and what lies outside a change stays.
use Rattle.std.specs.Prelude.{◌≡◌, ◌⊎◌, ℕ, ◌+◌, ◌*◌, ◌^◌, ◌<◌, ◌≤◌, Bool, Option, Some, None, List, [], ◌∷◌, length, replicate, slice_set, slice_index_or}
use Rattle.mu_model_image.specs.Sizes.{page_octets}
use Rattle.mu_model_image.specs.Pieces.{block_count, block_length, piece_count}
use Rattle.mu_model_flash.specs.Bits.{AreOctets, written, part_of, SameOutside}
use Rattle.mu_model_flash.specs.Run.{either, Refines}
use Rattle.mu_model_record.specs.declared.Record.{Record}
use Rattle.mu_model_record.specs.declared.BankState.{BankState}
use Rattle.mu_model_record.specs.declared.BankState.TheVariants.{Empty, Filling}
use Rattle.mu_model_record.specs.Page.{Word}
use Rattle.mu_model_record.specs.Turns.{before, after, MarkTurns, StaysOutside}
use Rattle.mu_model_record.specs.Record.{IsRecord, IsEntryInRange, IsFilling, entry_of}
use Rattle.mu_model_record.specs.Store.{Content, held, StoreState, content_of_bank, pages_of, mark_place, bank_place, block_place, BlocksLie, BankHolds}
use Rattle.mu_model_record.specs.Represents.{RepresentsAt, RepresentsStore}
use Rattle.mu_model_record.specs.Free.{IsFree}
use Rattle.mu_model_record.specs.Next.{IsNext}
use Rattle.mu_model_record.specs.Changes.{next_record, tagged, with_bank, cleared, released, with_block, joined}

-- a tag of a record that isn't the last
abbrev pub IsTag : List ℕ → Type 0
IsTag tag = (length tag ≡ 1792) × AreOctets tag

abbrev pub IsNotLast : Record → Type 0
IsNotLast r = r.count + 1 < 2 ^ 32

-- The record that a call writes next is in its ranges.
pub record NextRecordLaws : Type 0 where
  pub tagged : (r : Record) (tag : List ℕ) → IsRecord r → IsNotLast r → IsTag tag → IsRecord (next_record r r.banks tag)
  pub banked : (r : Record) (tag : List ℕ) → IsRecord r → IsNotLast r → IsTag tag → (b : ℕ) (entry : BankState) → b < r.number → IsEntryInRange r entry → (IsFilling entry → (a : ℕ) → IsFilling (entry_of r a) → a ≡ b)
      → IsRecord (next_record r (slice_set r.banks b entry) tag)
  pub released : (r : Record) (tag : List ℕ) → IsRecord r → IsNotLast r → IsTag tag → (named : List Bool) → IsRecord (next_record r (cleared Empty named r.banks) tag)
  -- of the entries that are released each is as it was or Empty
  pub cleared_at : (named : List Bool) (entries : List BankState) (b : ℕ) → (slice_index_or (cleared Empty named entries) b Empty ≡ slice_index_or entries b Empty) ⊎ (slice_index_or (cleared Empty named entries) b Empty ≡ Empty)

-- The state that it gives is a next one of a state that the flash represents.
pub record NextStateLaws : Type 0 where
  pub tagged : (page : ℕ) (word : Word) (d : StoreState) (old : List ℕ) → RepresentsAt page word d old → (tag : List ℕ) → IsRecord (next_record d.present d.present.banks tag) → IsNext old d (tagged d tag)
  -- where a bank is to hold something else, that lies in it already
  pub banked : (page : ℕ) (word : Word) (d : StoreState) (old : List ℕ) → RepresentsAt page word d old → (b : ℕ) (entry : BankState) (content : Content) (tag : List ℕ) → b < d.present.number
      → IsRecord (next_record d.present (slice_set d.present.banks b entry) tag) → ((image : List ℕ) → SameOutside 0 8192 old image → BankHolds d.present b entry content image) → IsNext old d (with_bank d b entry content tag)
  pub released : (page : ℕ) (word : Word) (d : StoreState) (old : List ℕ) → RepresentsAt page word d old → (named : List Bool) (tag : List ℕ) → IsRecord (next_record d.present (cleared Empty named d.present.banks) tag) → IsNext old d (released d named tag)

-- Where banks and blocks lie.
pub record PlaceLaws : Type 0 where
  -- a bank lies in the flash
  pub bank_within : (r : Record) (b size : ℕ) → b < r.number → size ≤ page_octets * r.pages → bank_place r b + size ≤ page_octets * pages_of r
  -- a block begins within the image
  pub block_begins : (size log i : ℕ) → i < block_count size log → i * 2 ^ log < size
  -- what banks hold lies past the control pages
  pub banks_same : (r : Record) (contents : ℕ → Content) (old new : List ℕ) → IsRecord r → length old ≡ page_octets * pages_of r → SameOutside 0 8192 old new
      → ((b : ℕ) → b < r.number → BankHolds r b (entry_of r b) (contents b) old) → (b : ℕ) → b < r.number → BankHolds r b (entry_of r b) (contents b) new
  -- operations on a range that has nothing of what the state says leave the state represented
  pub free_reads : (page : ℕ) (word : Word) (d : StoreState) (old : List ℕ) (at n : ℕ) → 8192 ≤ at → IsFree d at n → RepresentsAt page word d old
      → (k : ℕ) → Refines (either (StaysOutside at n old)) (either RepresentsStore) tt (replicate k tt) d (replicate k d)

-- A bank that is Filling, with these blocks held, of a state that the flash represents.
pub record IsFillingBank (page : ℕ) (word : Word) (d : StoreState) (image : List ℕ) (bank size log : ℕ) (blocks : List (Option (List ℕ))) : Type 0 where
  pub represents : RepresentsAt page word d image
  pub there : bank < d.present.number
  pub entry : entry_of d.present bank ≡ Filling size log
  pub content : content_of_bank d bank ≡ held blocks

-- A block that is put in such a bank.
pub record BlockLaws : Type 0 where
  -- the pages of a block that isn't held have nothing of what the banks hold
  pub free : (page : ℕ) (word : Word) (d : StoreState) (image : List ℕ) (bank size log : ℕ) (blocks : List (Option (List ℕ))) → IsFillingBank page word d image bank size log blocks
      → (i : ℕ) → i < block_count size log → ((octets : List ℕ) → slice_index_or blocks i None ≡ Some octets → ⊥) → IsFree d (block_place d.present bank log i) (page_octets * piece_count (block_length size log i) page_octets)
  -- where its octets lie at its place, its mark makes it held
  pub represents : (page : ℕ) (word : Word) (d : StoreState) (image : List ℕ) (bank size log : ℕ) (blocks : List (Option (List ℕ))) → IsFillingBank page word d image bank size log blocks
      → (i : ℕ) → i < block_count size log → (octets : List ℕ) → part_of image (block_place d.present bank log i) (block_length size log i) ≡ octets
      → RepresentsAt page word (with_block d bank i octets) (written image (mark_place bank i) (254 ∷ []))
  -- and a cut leaves the state with it or without
  pub reads : (page : ℕ) (word : Word) (d : StoreState) (image : List ℕ) (bank size log : ℕ) (blocks : List (Option (List ℕ))) → IsFillingBank page word d image bank size log blocks
      → (i : ℕ) → i < block_count size log → (octets : List ℕ) → part_of image (block_place d.present bank log i) (block_length size log i) ≡ octets
      → Refines (either (MarkTurns image (mark_place bank i))) (either RepresentsStore) before (after ∷ []) d (with_block d bank i octets ∷ [])
  -- the blocks that are all held, joined, are what lies in the bank
  pub joined_lie : (r : Record) (b size log : ℕ) (image : List ℕ) (blocks : List (Option (List ℕ))) → length blocks ≡ block_count size log → BlocksLie r b size log blocks image
      → ((i : ℕ) → i < block_count size log → slice_index_or blocks i None ≡ None → ⊥) → part_of image (bank_place r b) size ≡ joined blocks
