-- Octets cut at a separator: a script into lines, a line into tokens.
use Rattle.std.specs.Prelude.{ℕ, ◌+◌, ◌==◌, List, [], ◌∷◌, length, if◌then◌else◌}
use Rattle.std.specs.List.{slice_split}

-- the pieces before, between and behind the separators: one more than there are separators
abbrev pub pieces : ℕ → List ℕ → List (List ℕ)
pieces separator octets = slice_split (λ octet. octet == separator) octets

-- LF, which ends a line, and the blank between two tokens
abbrev pub line_feed : ℕ
line_feed = 10

abbrev pub blank : ℕ
blank = 32

-- the pieces but for a last one that is empty
abbrev pub without_empty_last : List (List ℕ) → List (List ℕ)
without_empty_last [] = []
without_empty_last (piece ∷ []) = if length piece == 0 then [] else piece ∷ []
without_empty_last (piece ∷ next ∷ pieces) = piece ∷ without_empty_last (next ∷ pieces)

-- the lines of a script: each ends with LF, which the last one may lack
abbrev pub lines_of : List ℕ → List (List ℕ)
lines_of script = without_empty_last (pieces line_feed script)

-- a token, and the place of its first octet in the line
pub record Token : Type 0 where
  pub at : ℕ
  pub octets : List ℕ

-- pieces that stand one separator apart, the first of them at this place
abbrev pub placed : ℕ → List (List ℕ) → List Token
placed at [] = []
placed at (piece ∷ pieces) = record { at = at; octets = piece } ∷ placed (at + length piece + 1) pieces

-- the tokens of a line: what stands between single blanks
abbrev pub tokens_of : List ℕ → List Token
tokens_of line = placed 0 (pieces blank line)
