-- The record of a control page as a table (this profile). Numbers are little-endian.
use Rattle.std.specs.Prelude.{◌≡◌, ℕ, ◌+◌, ◌*◌, ◌^◌, ◌<◌, ◌≤◌, List, [], ◌∷◌, ◌++◌, Some, length, drop, replicate, slice_index, slice_index_or}
use Rattle.byteorder.specs.Endian.{little_number}
use Rattle.mu_model_image.specs.Sizes.{page_octets}
use Rattle.mu_model_image.specs.declared.Meta.{Meta}
use Rattle.mu_model_image.specs.Meta.{meta_from, IsMeta}
use Rattle.mu_model_flash.specs.Bits.{AreOctets, part_of}
use Rattle.mu_model_record.specs.Page.{Word, page_word, slot_word}
use Rattle.mu_model_record.specs.declared.Record.{Record}
use Rattle.mu_model_record.specs.declared.BankState.{BankState}
use Rattle.mu_model_record.specs.declared.BankState.TheVariants.{Empty, Filling, Sealed}

-- so many octets 0
unfoldable pub zeros : ℕ → List ℕ
zeros n = replicate n 0

-- the number of so many octets at a place
abbrev pub number_at : ℕ → List ℕ → ℕ → ℕ
number_at width octets place = little_number width (drop place octets)

-- The entry of a bank that is Filling, by place and width: its state, log, two octets 0, size, and no metadata.
pub record IsFillingEntry (size log : ℕ) (octets : List ℕ) : Type 0 where
  pub state : slice_index octets 0 ≡ 1
  pub log_at_1 : slice_index octets 1 ≡ log
  pub zero_at_2 : part_of octets 2 2 ≡ zeros 2
  pub size_at_4 : number_at 4 octets 4 ≡ size
  pub no_metadata_at_8 : part_of octets 8 40 ≡ zeros 40

-- The entry of a bank that is Sealed: its state, no log, two octets 0, no size, and its metadata.
pub record IsSealedEntry (meta : Meta) (octets : List ℕ) : Type 0 where
  pub state : slice_index octets 0 ≡ 2
  pub no_log_at_1 : slice_index octets 1 ≡ 0
  pub zero_at_2 : part_of octets 2 2 ≡ zeros 2
  pub no_size_at_4 : part_of octets 4 4 ≡ zeros 4
  pub metadata_at_8 : meta_from (part_of octets 8 40) ≡ Some meta

-- the 48 octets of a bank
abbrev pub IsEntry : BankState → List ℕ → Type 0
IsEntry Empty octets = octets ≡ zeros 48
IsEntry (Filling size log) octets = IsFillingEntry size log octets
IsEntry (Sealed meta) octets = IsSealedEntry meta octets

-- what a record says of bank b
abbrev pub entry_of : Record → ℕ → BankState
entry_of r b = slice_index_or r.banks b Empty

-- The octets of a record of a format, by place and width.
pub record IsSpelled (format : ℕ) (r : Record) (octets : List ℕ) : Type 0 where
  pub whole : length octets ≡ 2048
  pub name_at_0 : part_of octets 0 4 ≡ 0x4D ∷ 0x55 ∷ 0x46 ∷ 0x31 ∷ []
  pub format_at_4 : slice_index octets 4 ≡ format
  pub number_at_5 : slice_index octets 5 ≡ r.number
  pub pages_at_6 : number_at 2 octets 6 ≡ r.pages
  pub count_at_8 : number_at 4 octets 8 ≡ r.count
  pub zero_at_12 : part_of octets 12 4 ≡ zeros 4
  pub bank_at_16 : (b : ℕ) → b < 4 → IsEntry (entry_of r b) (part_of octets (16 + 48 * b) 48)
  pub zero_at_208 : part_of octets 208 48 ≡ zeros 48
  pub tag_at_256 : part_of octets 256 1792 ≡ r.tag

-- octets of a bank
abbrev pub capacity_of : Record → ℕ
capacity_of r = page_octets * r.pages

-- the range of a bank's entry
abbrev pub IsEntryInRange : Record → BankState → Type 0
IsEntryInRange r Empty = Unit {0}
IsEntryInRange r (Filling size log) = (0 < size) × (size ≤ capacity_of r) × (12 ≤ log) × (log ≤ 14)
IsEntryInRange r (Sealed meta) = IsMeta meta × (meta.size ≤ capacity_of r)

abbrev pub IsFilling : BankState → Type 0
IsFilling Empty = ⊥
IsFilling (Filling size log) = Unit {0}
IsFilling (Sealed meta) = ⊥

-- The ranges of the fields. At most one bank is Filling.
pub record IsRecord (r : Record) : Type 0 where
  pub number_least : 2 ≤ r.number
  pub number_most : r.number ≤ 4
  pub pages_least : 1 ≤ r.pages
  pub pages_most : r.pages ≤ 256
  pub count_least : 1 ≤ r.count
  pub count_most : r.count < 2 ^ 32
  pub four : length r.banks ≡ 4
  pub entries : (b : ℕ) → b < r.number → IsEntryInRange r (entry_of r b)
  pub not_there : (b : ℕ) → r.number ≤ b → b < 4 → entry_of r b ≡ Empty
  pub one_filling : (a b : ℕ) → IsFilling (entry_of r a) → IsFilling (entry_of r b) → a ≡ b
  pub tag_size : length r.tag ≡ 1792
  pub tag_octets : AreOctets r.tag

-- A long record has format 1 and is the content of a page. A short one has format 2, and its first 512 octets are the content of a slot,
-- the others being 0.
abbrev pub IsWordOf : Word → Record → Type 0
IsWordOf (page_word content) r = IsSpelled 1 r content
IsWordOf (slot_word slot content) r = IsSpelled 2 r (content ++ zeros 1536)

-- a record that is written is short exactly where its octets from 512 on are all 0
abbrev pub IsShort : Record → Type 0
IsShort r = drop 256 r.tag ≡ zeros 1536
