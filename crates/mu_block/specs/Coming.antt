-- A block that comes in chunks (MshMBT: the current block of a BLOB Transfer Server).
use Rattle.std.specs.Prelude.{ℕ, ◌≡◌, ◌≤◌, Bool, false, List, [], Option, Some, None, if◌then◌else◌, nat_lt, length}
use Rattle.mu_model_wire.specs.Limits.{most_chunk}
use Rattle.mu_model_image.specs.Pieces.{chunk_count, chunk_length}
use Rattle.mu_model_node.specs.Slots.{Slots, empty, put, is_full, joined}
use Rattle.mu_model_node.specs.BlobServer.{CurrentBlock}
use Rattle.mu_model_node.specs.Sound.{HaveLengths}

-- the block with the chunks that are there, and how many octets it has
pub record Coming : Type 0 where
  pub size : ℕ
  pub block : CurrentBlock

-- a block begins, with no chunk
abbrev pub opened : ℕ → ℕ → ℕ → Coming
opened number chunk_size size = record {
  size = size;
  block = record { number = number; chunk_size = chunk_size; chunks = empty (chunk_count size chunk_size) };
}

-- its chunks; none without a block
abbrev pub chunks_of : Option Coming → Slots
chunks_of None = []
chunks_of (Some c) = c.block.chunks

-- how many octets a chunk has, where the block has one of this number
abbrev pub octets_of_chunk : Option Coming → ℕ → Option ℕ
octets_of_chunk None chunk = None
octets_of_chunk (Some c) chunk = if nat_lt chunk (length c.block.chunks) then Some (chunk_length c.size c.block.chunk_size chunk) else None

-- one chunk more
abbrev pub with_chunk : Coming → ℕ → List ℕ → Coming
with_chunk c chunk octets = record { size = c.size; block = record (c.block) { chunks = put c.block.chunks chunk octets } }

-- every chunk is there
abbrev pub is_whole : Option Coming → Bool
is_whole None = false
is_whole (Some c) = is_full c.block.chunks

-- its octets, where every chunk is there
abbrev pub whole_of : Option Coming → Option (List ℕ)
whole_of None = None
whole_of (Some c) = if is_full c.block.chunks then Some (joined c.block.chunks) else None

-- how many these are
abbrev pub whole_size : Option Coming → Option ℕ
whole_size None = None
whole_size (Some c) = if is_full c.block.chunks then Some c.size else None

-- The ranges of a block that comes (MshMBT: Chunk Size; this profile: 16,384 octets a block, 376 a chunk). It has as many chunks as its
-- octets make, and each that is there has its length.
pub record IsComing (c : Coming) : Type 0 where
  pub size_least : 1 ≤ c.size
  pub size_most : c.size ≤ 16384
  pub chunk_least : 8 ≤ c.block.chunk_size
  pub chunk_most : c.block.chunk_size ≤ most_chunk
  pub count : length c.block.chunks ≡ chunk_count c.size c.block.chunk_size
  pub count_least : 1 ≤ length c.block.chunks
  pub count_most : length c.block.chunks ≤ 2048
  pub lengths : HaveLengths (chunk_length c.size c.block.chunk_size) c.block.chunks

abbrev pub IsOpen : Option Coming → Type 0
IsOpen None = Unit {0}
IsOpen (Some c) = IsComing c
