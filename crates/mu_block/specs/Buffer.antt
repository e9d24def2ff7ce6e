-- How a buffer keeps the block that comes.
use Rattle.std.specs.Prelude.{ℕ, ◌≡◌, ◌≤◌, Bool, not, List, Option, Some, None, if◌then◌else◌, length, map, take}
use Rattle.std.specs.List.{range_with_len, count_by}
use Rattle.mu_model_wire.specs.Reports.{has}
use Rattle.mu_model_wire.specs.Limits.{most_chunk}
use Rattle.mu_model_image.specs.Pieces.{chunk_of, chunk_count}
use Rattle.mu_model_node.specs.Slots.{Slots}
use Rattle.mu_block.specs.Coming.{Coming}

abbrev pub chunk_in : List ℕ → ℕ → List Bool → ℕ → Option (List ℕ)
chunk_in block chunk_size set i = if has set i then Some (chunk_of block chunk_size i) else None

-- a place for each chunk, with its octets where it is there
unfoldable pub chunks_in : List ℕ → ℕ → List Bool → Slots
chunks_in block chunk_size set = map (chunk_in block chunk_size set) (range_with_len 0 (length set))

abbrev pub coming : ℕ → ℕ → ℕ → List Bool → List ℕ → Coming
coming number chunk_size size set octets = record {
  size = size;
  block = record { number = number; chunk_size = chunk_size; chunks = chunks_in (take size octets) chunk_size set };
}

abbrev pub coming_in : Bool → ℕ → ℕ → ℕ → List Bool → List ℕ → Option Coming
coming_in open_now number chunk_size size set octets = if open_now then Some (coming number chunk_size size set octets) else None

-- what holds of the fields
pub record AreFields (chunk_size size : ℕ) (set : List Bool) (left : ℕ) (octets : List ℕ) : Type 0 where
  pub size_least : 1 ≤ size
  pub size_most : size ≤ 16384
  pub chunk_least : 8 ≤ chunk_size
  pub chunk_most : chunk_size ≤ most_chunk
  pub count : length set ≡ chunk_count size chunk_size
  pub missing : left ≡ count_by not set
  pub room : length octets ≡ 16384
