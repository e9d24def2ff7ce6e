-- What a boot finds in the octets of a flash: nothing, something else, a bank that is damaged, or a store (this profile).
use Rattle.std.specs.Prelude.{◌≡◌, ◌≢◌, ◌⊎◌, ℕ, ◌+◌, ◌*◌, ◌<◌, ◌≤◌, List, length, slice_index}
use Rattle.sha2.specs.Sha256.{sha256}
use Rattle.mu_model_image.specs.Sizes.{page_octets}
use Rattle.mu_model_image.specs.declared.Meta.{Meta}
use Rattle.mu_model_image.specs.Pieces.{block_count}
use Rattle.mu_model_flash.specs.Bits.{part_of}
use Rattle.mu_model_record.specs.declared.Record.{Record}
use Rattle.mu_model_record.specs.declared.BankState.TheVariants.{Filling, Sealed}
use Rattle.mu_model_record.specs.Page.{page_of, Word, page_word, slot_word, IsWord}
use Rattle.mu_model_record.specs.Record.{IsRecord, IsWordOf, entry_of}
use Rattle.mu_model_record.specs.Store.{pages_of, mark_place, bank_place}

-- A word of a control page. A control page that the flash hasn't has none.
pub record HasWord (image : List ℕ) (page : ℕ) (word : Word) : Type 0 where
  pub control : page < 2
  pub within : page_octets * page + page_octets ≤ length image
  pub there : IsWord (page_of image page) word

-- the slot in which a word begins
abbrev pub slot_of_word : Word → ℕ
slot_of_word (page_word content) = 0
slot_of_word (slot_word slot content) = slot

-- one place isn't before another: pages in order, and slots in order
abbrev pub NotBefore : ℕ → Word → ℕ → Word → Type 0
NotBefore q v page word = (page < q) ⊎ ((q ≡ page) × (slot_of_word word ≤ slot_of_word v))

-- a word that is a record of its place
abbrev pub IsRecordWord : Word → Type 0
IsRecordWord word = (r : Record) × IsWordOf word r × IsRecord r

-- not after the present record: a smaller count, or an equal one and no place before it
abbrev pub IsBehind : ℕ → Word → ℕ → Word → ℕ → Type 0
IsBehind q v page word count = (r : Record) × IsWordOf v r × IsRecord r × ((r.count < count) ⊎ ((r.count ≡ count) × NotBefore q v page word))

-- Each word is a record, and this one has the greatest count. Of equal ones it is that of the lower page, then of the lower slot.
pub record IsPresent (image : List ℕ) (page : ℕ) (word : Word) (r : Record) : Type 0 where
  pub there : HasWord image page word
  pub spells : IsWordOf word r
  pub in_range : IsRecord r
  pub greatest : (q : ℕ) (v : Word) → HasWord image q v → IsBehind q v page word r.count

-- the flash has the pages of its present record
pub record HasPresent (image : List ℕ) (r : Record) : Type 0 where
  pub page : ℕ
  pub word : Word
  pub is : IsPresent image page word r
  pub size : length image ≡ page_octets * pages_of r

-- each mark of a block of the bank that is Filling is FF or FE
abbrev pub AreMarks : Record → List ℕ → Type 0
AreMarks r image =
    (b size log : ℕ) → b < r.number → entry_of r b ≡ Filling size log
    → (i : ℕ) → i < block_count size log → (slice_index image (mark_place b i) ≡ 0xFF) ⊎ (slice_index image (mark_place b i) ≡ 0xFE)

-- the first octets of a bank, as many as metadata says
abbrev pub sealed_octets : Record → ℕ → Meta → List ℕ → List ℕ
sealed_octets r b meta image = part_of image (bank_place r b) meta.size

-- each Sealed bank below this one has the digest of its metadata
abbrev pub AreFitBelow : ℕ → Record → List ℕ → Type 0
AreFitBelow most r image = (b : ℕ) (meta : Meta) → b < most → entry_of r b ≡ Sealed meta → sha256 (sealed_octets r b meta image) ≡ meta.digest

-- neither control page has a word
abbrev pub IsBlank : List ℕ → Type 0
IsBlank image = (page : ℕ) (word : Word) → ¬ HasWord image page word

-- a word isn't a record of its place, or the flash hasn't the pages of the present record, or a mark is neither FF nor FE
pub data IsForeign (image : List ℕ) : Type 0 where
  other_word : (page : ℕ) (word : Word) → HasWord image page word → ¬ IsRecordWord word → IsForeign image
  other_size : (page : ℕ) (word : Word) (r : Record) → IsPresent image page word r → length image ≢ page_octets * pages_of r → IsForeign image
  other_mark : (r : Record) → HasPresent image r → ¬ AreMarks r image → IsForeign image

-- The lowest Sealed bank whose octets haven't the digest of its metadata, with that digest and theirs.
pub record IsDamaged (image : List ℕ) (bank : ℕ) (want found : List ℕ) : Type 0 where
  pub present : Record
  pub is_present : HasPresent image present
  pub marks : AreMarks present image
  pub there : bank < present.number
  pub meta : Meta
  pub sealed_with : entry_of present bank ≡ Sealed meta
  pub want_is : want ≡ meta.digest
  pub found_is : found ≡ sha256 (sealed_octets present bank meta image)
  pub differ : found ≢ want
  pub lowest : AreFitBelow bank present image

-- a store, with its present record
pub record IsStore (image : List ℕ) (r : Record) : Type 0 where
  pub is_present : HasPresent image r
  pub marks : AreMarks r image
  pub fit : AreFitBelow r.number r image
