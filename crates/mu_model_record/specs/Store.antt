-- The state of a store (this profile): its present record, and what its banks hold.
use Rattle.std.specs.Prelude.{◌≡◌, ℕ, ◌+◌, ◌*◌, ◌^◌, ◌<◌, List, Option, Some, None, length, slice_index, slice_index_or}
use Rattle.mu_model_image.specs.Sizes.{page_octets}
use Rattle.mu_model_image.specs.Meta.{IsFit}
use Rattle.mu_model_image.specs.Pieces.{block_count, block_length}
use Rattle.mu_model_flash.specs.Bits.{part_of}
use Rattle.mu_model_record.specs.declared.Record.{Record}
use Rattle.mu_model_record.specs.declared.BankState.{BankState}
use Rattle.mu_model_record.specs.declared.BankState.TheVariants.{Empty, Filling, Sealed}

-- What a bank holds: nothing, the blocks that are held of an image, or an image. Of a block that isn't held there is none.
pub data Content : Type 0 where
  nothing : Content
  held : List (Option (List ℕ)) → Content
  whole : List ℕ → Content

pub record StoreState : Type 0 where
  pub present : Record
  pub contents : List Content

abbrev pub content_of_bank : StoreState → ℕ → Content
content_of_bank d b = slice_index_or d.contents b nothing

-- the pages of the flash: two control pages, a mark page for each bank, and the banks
abbrev pub pages_of : Record → ℕ
pages_of r = 2 + r.number * (1 + r.pages)

-- where the mark of block i of bank b lies
abbrev pub mark_place : ℕ → ℕ → ℕ
mark_place b i = page_octets * (2 + b) + i

-- where bank b begins
abbrev pub bank_place : Record → ℕ → ℕ
bank_place r b = page_octets * (2 + r.number + b * r.pages)

-- where block i of bank b begins
abbrev pub block_place : Record → ℕ → ℕ → ℕ → ℕ
block_place r b log i = bank_place r b + i * 2 ^ log

-- The mark of a block is FE where the block is held, and else FF. The octets of a block that is held lie at its place.
abbrev pub BlockLies : Record → ℕ → ℕ → ℕ → ℕ → Option (List ℕ) → List ℕ → Type 0
BlockLies r b size log i None image = slice_index image (mark_place b i) ≡ 0xFF
BlockLies r b size log i (Some octets) image =
    (slice_index image (mark_place b i) ≡ 0xFE) × (part_of image (block_place r b log i) (block_length size log i) ≡ octets)

abbrev pub BlocksLie : Record → ℕ → ℕ → ℕ → List (Option (List ℕ)) → List ℕ → Type 0
BlocksLie r b size log blocks image = (i : ℕ) → i < block_count size log → BlockLies r b size log i (slice_index_or blocks i None) image

-- What a bank holds lies in it. The octets of a Sealed one are fit.
abbrev pub BankHolds : Record → ℕ → BankState → Content → List ℕ → Type 0
BankHolds r b Empty nothing image = Unit {0}
BankHolds r b (Filling size log) (held blocks) image = (length blocks ≡ block_count size log) × BlocksLie r b size log blocks image
BankHolds r b (Sealed meta) (whole octets) image = (part_of image (bank_place r b) meta.size ≡ octets) × IsFit octets meta
BankHolds r b Empty (held blocks) image = ⊥
BankHolds r b Empty (whole octets) image = ⊥
BankHolds r b (Filling size log) nothing image = ⊥
BankHolds r b (Filling size log) (whole octets) image = ⊥
BankHolds r b (Sealed meta) nothing image = ⊥
BankHolds r b (Sealed meta) (held blocks) image = ⊥
