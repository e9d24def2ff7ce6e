-- When octets are laid out as a distributor's note: the numbers that have fewer values than an octet, and the octets that are 0.
use Rattle.std.specs.Prelude.{◌≡◌, ℕ, ◌+◌, ◌*◌, ◌<◌, ◌≤◌, List, slice_index}

pub record HasNumbers (o : List ℕ) : Type 0 where
  pub kind : slice_index o 0 ≡ 2
  pub phase : slice_index o 1 ≤ 7
  pub upload : slice_index o 2 ≤ 3
  pub images : slice_index o 3 ≤ 4
  pub receivers : slice_index o 26 ≤ 128

-- past the images, past the upload's metadata, and past the rows
pub record HasZeros (o : List ℕ) : Type 0 where
  pub banks : (k : ℕ) → 4 + slice_index o 3 ≤ k → k < 8 → slice_index o k ≡ 0
  pub middle : (k : ℕ) → 68 ≤ k → k < 128 → slice_index o k ≡ 0
  pub rows : (k : ℕ) → 128 + 6 * slice_index o 26 ≤ k → k < 1728 → slice_index o k ≡ 0
