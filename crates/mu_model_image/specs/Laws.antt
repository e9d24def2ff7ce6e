-- What holds of metadata, Firmware IDs, images, blocks and chunks.
use Rattle.std.specs.Prelude.{ℕ, ◌≡◌, ◌<◌, ◌*◌, ◌^◌, ◌↔◌, IsTrue, List, Some, length, map, sum, slice_index}
use Rattle.std.specs.List.{All, concat}
use Rattle.mu_model_image.specs.declared.Meta.{Meta}
use Rattle.mu_model_image.specs.Meta.{meta_octets, meta_from, firmware_id, IsMeta, IsFit, is_fit, image_of}
use Rattle.mu_model_image.specs.Pieces.{block_of, block_count, block_length, blocks_of, chunk_of, chunk_count, chunk_length, chunks_of}
use Rattle.mu_model_image.specs.Made.{made_octet, made_image}

-- metadata is read from its octets
abbrev pub MetaIsReadBack : Type 0
MetaIsReadBack = (meta : Meta) → IsMeta meta → meta_from (meta_octets meta) ≡ Some meta

-- octets that are read as metadata are the metadata's octets
abbrev pub MetaHasOneSpelling : Type 0
MetaHasOneSpelling =
    (octets : List ℕ) (meta : Meta) → All (λ octet. octet < 256) octets → meta_from octets ≡ Some meta → meta_octets meta ≡ octets

-- what is read as metadata is in the ranges
abbrev pub MetaThatIsReadIsInRange : Type 0
MetaThatIsReadIsInRange =
    (octets : List ℕ) (meta : Meta) → All (λ octet. octet < 256) octets → meta_from octets ≡ Some meta → IsMeta meta

-- one Firmware ID has one company, one version and one digest
abbrev pub FirmwareIdsDiffer : Type 0
FirmwareIdsDiffer =
    (c d : ℕ) (a b : Meta) → c < 2 ^ 16 → d < 2 ^ 16 → a.version < 2 ^ 32 → b.version < 2 ^ 32
    → firmware_id c a ≡ firmware_id d b → (c ≡ d) × (a.version ≡ b.version) × (a.digest ≡ b.digest)

-- an image fits its own metadata
abbrev pub ImagesFit : Type 0
ImagesFit = (version : ℕ) (octets : List ℕ) → IsFit octets (image_of version octets).meta

-- what an image's metadata says is in the ranges
abbrev pub ImagesHaveMetadata : Type 0
ImagesHaveMetadata =
    (version : ℕ) (octets : List ℕ) → 0 < length octets → length octets < 2 ^ 32 → version < 2 ^ 32 → IsMeta (image_of version octets).meta

-- the test says whether an image fits
abbrev pub FitIsTested : Type 0
FitIsTested = (octets : List ℕ) (meta : Meta) → IsTrue (is_fit octets meta) ↔ IsFit octets meta

-- the blocks joined are the image
abbrev pub BlocksAreTheImage : Type 0
BlocksAreTheImage = (image : List ℕ) (log : ℕ) → concat (blocks_of image log) ≡ image

-- there are so many blocks as begin within the image
abbrev pub BlocksAreThoseWithin : Type 0
BlocksAreThoseWithin = (size log i : ℕ) → (i < block_count size log) ↔ (i * 2 ^ log < size)

-- the length of a block
abbrev pub BlockHasItsLength : Type 0
BlockHasItsLength = (image : List ℕ) (log i : ℕ) → length (block_of image log i) ≡ block_length (length image) log i

-- the lengths of the blocks sum to the size
abbrev pub BlockLengthsSumToTheSize : Type 0
BlockLengthsSumToTheSize = (image : List ℕ) (log : ℕ) → sum (map (length {A = ℕ}) (blocks_of image log)) ≡ length image

-- the chunks joined are the block
abbrev pub ChunksAreTheBlock : Type 0
ChunksAreTheBlock = (block : List ℕ) (size : ℕ) → 0 < size → concat (chunks_of block size) ≡ block

-- there are so many chunks as begin within the block
abbrev pub ChunksAreThoseWithin : Type 0
ChunksAreThoseWithin = (length size j : ℕ) → 0 < size → (j < chunk_count length size) ↔ (j * size < length)

-- the length of a chunk
abbrev pub ChunkHasItsLength : Type 0
ChunkHasItsLength = (block : List ℕ) (size j : ℕ) → length (chunk_of block size j) ≡ chunk_length (length block) size j

-- the lengths of the chunks sum to the block's length
abbrev pub ChunkLengthsSumToTheLength : Type 0
ChunkLengthsSumToTheLength = (block : List ℕ) (size : ℕ) → 0 < size → sum (map (length {A = ℕ}) (chunks_of block size)) ≡ length block

-- a made image has its size, and the octets of its seed
abbrev pub MadeImageHasItsSize : Type 0
MadeImageHasItsSize = (seed size : ℕ) → length (made_image seed size) ≡ size

abbrev pub MadeImageHasItsOctets : Type 0
MadeImageHasItsOctets = (seed size i : ℕ) → i < size → slice_index (made_image seed size) i ≡ made_octet seed i
