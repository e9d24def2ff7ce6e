-- Octets that are made from a seed (this profile): images for trials, and what a cut flash operation may leave.
use Rattle.std.specs.Prelude.{ℕ, ◌+◌, ◌*◌, ◌/◌, ◌%◌, List, map}
use Rattle.std.specs.List.{range_with_len}

-- octet i of a seed
abbrev pub made_octet : ℕ → ℕ → ℕ
made_octet seed i = (seed + 7 * i + i / 256) % 256

-- the first octets of a seed
abbrev pub made_image : ℕ → ℕ → List ℕ
made_image seed size = map (made_octet seed) (range_with_len 0 size)
