-- The limits on the input of a command that reads lines (this profile).
use Rattle.std.specs.Prelude.{ℕ, ◌⊎◌, ◌<◌, nat_lt, nat_le, List, [], ◌∷◌, length, take, if◌then◌else◌}
use Rattle.mu_model_script.specs.Pieces.{pieces, line_feed, lines_of}

-- octets of input
abbrev pub most_octets : ℕ
most_octets = 16777216

-- lines of a script, empty lines and comments among them
abbrev pub most_lines : ℕ
most_lines = 100000

-- turns of all `settle` lines together
abbrev pub most_turns : ℕ
most_turns = 5000

-- octets of a line, without its LF
abbrev pub most_in_line : ℕ
most_in_line = 4096

-- the pieces but for a last one that isn't past the limit of a line
abbrev pub without_short_last : List (List ℕ) → List (List ℕ)
without_short_last [] = []
without_short_last (piece ∷ []) = if nat_lt most_in_line (length piece) then piece ∷ [] else []
without_short_last (piece ∷ next ∷ pieces) = piece ∷ without_short_last (next ∷ pieces)

-- the lines that are wholly within so many octets: a line that is too long shows it within them too
abbrev pub lines_in : (octets : ℕ) → List ℕ → List (List ℕ)
lines_in octets input =
    if nat_le (length input) octets then lines_of input else without_short_last (pieces line_feed (take octets input))

-- the lines that are wholly within the limit
abbrev pub lines_within : List ℕ → List (List ℕ)
lines_within input = lines_in most_octets input

-- the lines that are done one after the other, up to the first that is refused, where so many lines may come
abbrev pub first_lines : (most : ℕ) → List ℕ → List (List ℕ)
first_lines most input = take most (lines_within input)

-- a limit is passed, behind those lines
abbrev pub Passes : (most : ℕ) → List ℕ → Type 0
Passes most input = (most_octets < length input) ⊎ (most < length (lines_within input))

-- the same of a script
abbrev pub lines_done : List ℕ → List (List ℕ)
lines_done input = first_lines most_lines input

abbrev pub IsPast : List ℕ → Type 0
IsPast input = Passes most_lines input

-- the pieces but for the last: the lines that LF has ended
abbrev pub without_last : List (List ℕ) → List (List ℕ)
without_last [] = []
without_last (piece ∷ []) = []
without_last (piece ∷ next ∷ pieces) = piece ∷ without_last (next ∷ pieces)

abbrev pub ended_lines : List ℕ → List (List ℕ)
ended_lines octets = without_last (pieces line_feed octets)
