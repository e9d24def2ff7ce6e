-- Number patterns: a number below 2 ^ 16 as one, two or three octets in the manner of UTF-8 (this profile).
use Rattle.std.specs.Prelude.{ℕ, ◌≡◌, ◌<◌, ◌≤◌, ◌^◌, ◌↔◌, ◌+◌, ◌-◌, ◌*◌, ◌/◌, ◌%◌, Bool, IsTrue, List, [], ◌∷◌, ◌++◌, length, take, drop, slice_index, Option, Some, None, nat_lt, nat_le, ◌&&◌, if◌then◌else◌}
use Rattle.std.specs.List.{All, flat_map}

-- whether a number is in a range
abbrev pub within : ℕ → ℕ → ℕ → Bool
within least most n = nat_le least n && nat_le n most

-- how many octets a number pattern has by its first octet, 0 where none begins so
abbrev pub pattern_length : ℕ → ℕ
pattern_length first = if nat_lt first 0x80 then 1 else if within 0xC2 0xDF first then 2 else if within 0xE0 0xEF first then 3 else 0

abbrev pub follows : ℕ → Bool
follows n = within 0x80 0xBF n

-- the number that a pattern spells
abbrev pub pattern_number : List ℕ → Option ℕ
pattern_number (a ∷ []) = Some a
pattern_number (a ∷ b ∷ []) = if follows b then Some ((a - 0xC0) * 64 + (b - 0x80)) else None
pattern_number (a ∷ b ∷ c ∷ []) =
    if follows b && follows c && nat_le 0x800 ((a - 0xE0) * 4096 + (b - 0x80) * 64 + (c - 0x80)) then Some ((a - 0xE0) * 4096 + (b - 0x80) * 64 + (c - 0x80)) else None
pattern_number _ = None

-- the shortest pattern of a number
abbrev pub pattern_spelling : ℕ → List ℕ
pattern_spelling n =
    if nat_lt n 0x80 then n ∷ []
    else if nat_lt n 0x800 then (0xC0 + n / 64) ∷ (0x80 + n % 64) ∷ []
    else (0xE0 + n / 4096) ∷ (0x80 + n / 64 % 64) ∷ (0x80 + n % 64) ∷ []

-- ---- the rule

-- The octets are the pattern of the number: seven bits in one octet, eleven in two, sixteen in three, in the manner of
-- UTF-8, and a number has the shortest pattern that holds it (this profile). Surrogates are numbers as any other.
abbrev pub IsPattern : List ℕ → ℕ → Type 0
IsPattern (a ∷ []) n = (n < 2 ^ 7) × (a ≡ n)
IsPattern (a ∷ b ∷ []) n = (2 ^ 7 ≤ n) × (n < 2 ^ 11) × (a ≡ 0xC0 + n / 64) × (b ≡ 0x80 + n % 64)
IsPattern (a ∷ b ∷ c ∷ []) n =
    (2 ^ 11 ≤ n) × (n < 2 ^ 16) × (a ≡ 0xE0 + n / 4096) × (b ≡ 0x80 + n / 64 % 64) × (c ≡ 0x80 + n % 64)
IsPattern _ n = ⊥

-- the patterns of numbers, one after the other
abbrev pub list_spelling : List ℕ → List ℕ
list_spelling numbers = flat_map pattern_spelling numbers

-- the octets are the patterns of the numbers, one after the other
pub record IsList (octets : List ℕ) (numbers : List ℕ) : Type 0 where
  pub numbers_fit : All (λ n. n < 2 ^ 16) numbers
  pub spelled : octets ≡ list_spelling numbers

-- The first bad pattern of a list of patterns begins at a place: before it stand the patterns of some numbers, and
-- none begins there. It is cut exactly where there are fewer octets than its first one announces, whatever they are.
pub record IsListFault (octets : List ℕ) (at : ℕ) (cut : Bool) : Type 0 where
  pub before : (numbers : List ℕ) × IsList (take at octets) numbers
  pub within : at < length octets
  pub bad : (pattern others : List ℕ) (n : ℕ) → drop at octets ≡ pattern ++ others → IsPattern pattern n → ⊥
  pub cut_short : IsTrue cut ↔ (length octets < at + pattern_length (slice_index octets at))

-- ---- laws

-- a number has one pattern
abbrev pub ShortestPatternIsThePattern : Type 0
ShortestPatternIsThePattern = (octets : List ℕ) (n : ℕ) → IsPattern octets n ↔ ((n < 2 ^ 16) × (octets ≡ pattern_spelling n))

-- what the grammar reads as a pattern is one
abbrev pub PatternIsRead : Type 0
PatternIsRead =
    (octets : List ℕ) (n : ℕ)
    → IsPattern octets n ↔ ((length octets ≡ pattern_length (slice_index octets 0)) × (pattern_number octets ≡ Some n))
