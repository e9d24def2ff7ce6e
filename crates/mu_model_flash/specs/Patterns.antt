-- What the armed operation leaves of its range (this profile).
use Rattle.std.specs.Prelude.{◌≡◌, ℕ, ◌+◌, ◌*◌, ◌%◌, ◌<◌, ◌≤◌, ◌==◌, if◌then◌else◌, List, length, slice_index}
use Rattle.std.specs.Int.{bit_at}
use Rattle.mu_model_image.specs.Made.{made_octet}
use Rattle.mu_model_flash.specs.declared.Pattern.{Pattern}
use Rattle.mu_model_flash.specs.declared.Pattern.TheVariants.{Old, New, Made}
use Rattle.mu_model_flash.specs.Bits.{written}

-- bit n of the range is new where octet n of the seed is odd
abbrev pub made_bit : ℕ → ℕ → ℕ → ℕ → ℕ
made_bit seed n old new = if made_octet seed n % 2 == 1 then new else old

-- Of the range, bit k of octet j is its bit 8 j + k, and is new or old by the seed. All else is as before.
pub record IsMade (seed : ℕ) (old : List ℕ) (at : ℕ) (bytes got : List ℕ) : Type 0 where
  pub size : length got ≡ length old
  pub before : (i : ℕ) → i < at → slice_index got i ≡ slice_index old i
  pub inside : (j k : ℕ) → j < length bytes → k < 8
      → bit_at (slice_index got (at + j)) k ≡ made_bit seed (8 * j + k) (bit_at (slice_index old (at + j)) k) (bit_at (slice_index bytes j) k)
  pub after : (i : ℕ) → at + length bytes ≤ i → slice_index got i ≡ slice_index old i

-- the pattern leaves the range as it was, as it was to be, or with the bits of a seed new
abbrev pub IsLeftBy : Pattern → List ℕ → ℕ → List ℕ → List ℕ → Type 0
IsLeftBy Old old at bytes got = got ≡ old
IsLeftBy New old at bytes got = got ≡ written old at bytes
IsLeftBy (Made seed) old at bytes got = IsMade seed old at bytes got
