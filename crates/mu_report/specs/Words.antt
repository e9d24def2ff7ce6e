-- How words keep a set of numbers.
use Rattle.std.specs.Prelude.{ℕ, ◌≡◌, ◌<◌, ◌≤◌, ◌+◌, ◌*◌, ◌/◌, ◌%◌, Bool, false, ◌==◌, nat_lt, List, length, map, filter, slice_index}
use Rattle.std.specs.List.{range_with_len}
use Rattle.std.specs.Int.{bit_at}

-- whether bit j of a word is set
abbrev pub bit : ℕ → ℕ → Bool
bit word j = bit_at word j == 1

-- whether number k is in: bit `k mod 64` of word `k / 64`
unfoldable pub word_bit : List ℕ → ℕ → Bool
word_bit words k = bit (slice_index words (k / 64)) (k % 64)

-- the set below a bound
unfoldable pub set_of_words : List ℕ → ℕ → List Bool
set_of_words words bound = map (word_bit words) (range_with_len 0 bound)

-- the bits at and past the bound are 0
pub record AreWords (words : List ℕ) (bound : ℕ) : Type 0 where
  pub most : bound ≤ 2048
  pub count : length words ≡ 32
  pub past : (k : ℕ) → bound ≤ k → word_bit words k ≡ false

-- the word has the bits of those numbers of word `index` that are below k
unfoldable pub AreBitsBelow : ℕ → ℕ → ℕ → Type 0
AreBitsBelow k index word = (j : ℕ) → j < 64 → bit word j ≡ nat_lt (64 * index + j) k

-- how many numbers below n pass
unfoldable pub count_below : (ℕ → Bool) → ℕ → ℕ
count_below p n = length (filter p (range_with_len 0 n))
