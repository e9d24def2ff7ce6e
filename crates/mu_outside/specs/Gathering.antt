-- What an output tells that gathers (this profile).
use Rattle.std.specs.Prelude.{◌≡◌, ℕ, Option, Some, None, List, [], ◌++◌, length, take, drop}
use Rattle.mu_outside.specs.Stream.{WriteTakes}

-- octets are gathered at most
abbrev pub most_gathered : ℕ
most_gathered = 65536

-- what the output below tells, and then what is gathered
abbrev pub behind : Option (List ℕ) → List ℕ → Option (List ℕ)
behind None gathered = None
behind (Some octets) gathered = Some (octets ++ gathered)

-- the first octets that are gathered were written to the output below, once and in their order, and the others are still gathered
pub record Handed (below : Option (List ℕ)) (held : List ℕ) (below' : Option (List ℕ)) (held' : List ℕ) : Type 0 where
  pub count : ℕ
  pub takes : WriteTakes below below' held count
  pub left : held' ≡ drop count held

-- as many of the first octets that are told now as were told at the start; where none are told now, those of the start
abbrev pub first_of : (start now : Option (List ℕ)) → Option (List ℕ)
first_of start None = start
first_of None (Some octets) = Some []
first_of (Some old) (Some octets) = Some (take (length old) octets)

-- where octets are told now they begin with those that were told at the start
abbrev pub GoesOn : (start now : Option (List ℕ)) → Type 0
GoesOn start now = first_of start now ≡ start
