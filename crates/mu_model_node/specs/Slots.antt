-- A finite map from the numbers below a bound to octets: a list with a place for each number.
use Rattle.std.specs.Prelude.{ℕ, Bool, List, [], ◌∷◌, ◌++◌, map, Option, Some, None, set, replicate, slice_index_or, is_some, is_none}
use Rattle.std.specs.List.{count_by, list_all}
pub use Rattle.mu_model_image.specs.Pieces.{joined}

abbrev pub Slots : Type 0
Slots = List (Option (List ℕ))

-- n places with nothing
abbrev pub empty : ℕ → Slots
empty n = replicate n None

-- what is at a place; nothing past the end
abbrev pub at : Slots → ℕ → Option (List ℕ)
at slots i = slice_index_or slots i None

abbrev pub put : Slots → ℕ → List ℕ → Slots
put slots i octets = set slots i (Some octets)

abbrev pub is_full : Slots → Bool
is_full slots = list_all is_some slots

-- the set of the places with something, and of those with nothing
abbrev pub received : Slots → List Bool
received slots = map is_some slots

abbrev pub missing : Slots → List Bool
missing slots = map is_none slots

-- how many places have something
abbrev pub held_count : Slots → ℕ
held_count slots = count_by is_some slots
