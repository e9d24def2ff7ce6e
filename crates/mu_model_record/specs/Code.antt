-- Code words of a flash: each octet at an odd place is the complement of the octet before it (this profile).
use Rattle.std.specs.Prelude.{◌≡◌, ◌⊎◌, ℕ, ◌+◌, ◌-◌, ◌<◌, ◌==◌, if◌then◌else◌, Bool, true, false, List, [], ◌∷◌}
use Rattle.std.specs.Int.{bit_at}

-- the octets at even places, each followed by its complement
abbrev pub coded : List ℕ → List ℕ
coded [] = []
coded (x ∷ xs) = x ∷ (255 - x) ∷ coded xs

abbrev pub IsCodeWord : List ℕ → Type 0
IsCodeWord [] = Unit {0}
IsCodeWord (x ∷ []) = ⊥
IsCodeWord (x ∷ y ∷ rest) = (x + y ≡ 255) × IsCodeWord rest

-- the content of a code word: its octets at even places
abbrev pub content_of : List ℕ → List ℕ
content_of [] = []
content_of (x ∷ []) = []
content_of (x ∷ y ∷ rest) = x ∷ content_of rest

-- the same as a test
abbrev pub is_code : List ℕ → Bool
is_code [] = true
is_code (x ∷ []) = false
is_code (x ∷ y ∷ rest) = if x + y == 255 then is_code rest else false

-- A pair of octets has a bit that is 1 in both: no code word, and no torn erase makes it one.
abbrev pub HasPairOfOnes : List ℕ → Type 0
HasPairOfOnes [] = ⊥
HasPairOfOnes (x ∷ []) = ⊥
HasPairOfOnes (x ∷ y ∷ rest) = ((k : ℕ) × (k < 8) × (bit_at x k ≡ 1) × (bit_at y k ≡ 1)) ⊎ HasPairOfOnes rest

-- no torn erase makes another code word of it
abbrev pub IsSafe : List ℕ → Type 0
IsSafe word = IsCodeWord word ⊎ HasPairOfOnes word

-- what may be left of a word that is being erased: it as it was, or no code word
abbrev pub Fades : List ℕ → List ℕ → Type 0
Fades old new = (new ≡ old) ⊎ HasPairOfOnes new
