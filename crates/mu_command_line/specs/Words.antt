-- The words of a command line (this profile).
use Rattle.std.specs.Prelude.{ℕ, ◌&&◌, nat_le, List, [], ◌∷◌, ◌++◌, length, sum_by, take, drop, slice_get, Option, Some, None, if◌then◌else◌}

-- words of these lengths, one behind the other
abbrev pub words_of : List ℕ → List ℕ → List (List ℕ)
words_of [] octets = []
words_of (length ∷ lengths) octets = take length octets ∷ words_of lengths (drop length octets)

-- there are at most 32 words, of 8,192 octets in all
abbrev pub if_few : List (List ℕ) → Option (List (List ℕ))
if_few words = if nat_le (length words) 32 && nat_le (sum_by length words) 8192 then Some words else None

-- a word more; none is an overfull list
abbrev pub with_word : Option (List (List ℕ)) → List ℕ → Option (List (List ℕ))
with_word None word = None
with_word (Some words) word = if_few (words ++ word ∷ [])

abbrev pub word_at : Option (List (List ℕ)) → ℕ → Option (List ℕ)
word_at None place = None
word_at (Some words) place = slice_get words place
