-- Blocks and chunks as parts of a list (MshMBT: a BLOB is divided into blocks, a block into chunks).
use Rattle.std.specs.Prelude.{ℕ, ◌+◌, ◌-◌, ◌*◌, ◌/◌, ◌^◌, List, [], ◌∷◌, ◌++◌, Option, Some, None, length, map, min, slice_range}
use Rattle.std.specs.List.{range_with_len}

-- piece i of octets that are cut into pieces of n: from i * n up to, not including, (i + 1) * n or the end
abbrev pub piece_of : List ℕ → ℕ → ℕ → List ℕ
piece_of octets n i = slice_range octets (i * n) (min (length octets) ((i + 1) * n))

-- how many pieces of n there are of so many octets: the division rounded up
abbrev pub piece_count : ℕ → ℕ → ℕ
piece_count size n = (size + n - 1) / n

-- how many octets piece i has, of so many octets
abbrev pub piece_length : ℕ → ℕ → ℕ → ℕ
piece_length size n i = min size ((i + 1) * n) - i * n

-- the pieces of n, in order
abbrev pub pieces_of : List ℕ → ℕ → List (List ℕ)
pieces_of octets n = map (piece_of octets n) (range_with_len 0 (piece_count (length octets) n))

-- block i of an image at a block size log (MshMBT: Block Size Log)
abbrev pub block_of : List ℕ → ℕ → ℕ → List ℕ
block_of image log i = piece_of image (2 ^ log) i

abbrev pub block_count : ℕ → ℕ → ℕ
block_count size log = piece_count size (2 ^ log)

abbrev pub block_length : ℕ → ℕ → ℕ → ℕ
block_length size log i = piece_length size (2 ^ log) i

abbrev pub blocks_of : List ℕ → ℕ → List (List ℕ)
blocks_of image log = pieces_of image (2 ^ log)

-- chunk j of a block at a chunk size (MshMBT: Chunk Size)
abbrev pub chunk_of : List ℕ → ℕ → ℕ → List ℕ
chunk_of block size j = piece_of block size j

abbrev pub chunk_count : ℕ → ℕ → ℕ
chunk_count length size = piece_count length size

abbrev pub chunk_length : ℕ → ℕ → ℕ → ℕ
chunk_length length size j = piece_length length size j

abbrev pub chunks_of : List ℕ → ℕ → List (List ℕ)
chunks_of block size = pieces_of block size

-- the octets of the pieces that are there, in order
abbrev pub joined : List (Option (List ℕ)) → List ℕ
joined [] = []
joined (None ∷ pieces) = joined pieces
joined (Some octets ∷ pieces) = octets ++ joined pieces
