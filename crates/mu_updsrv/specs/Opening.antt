-- What is left of an input that was lent.
use Rattle.std.specs.Prelude.{◌≡◌, ℕ, ◌+◌, Option, Some, None, List, [], ◌++◌, length, take}

abbrev pub octets_of : Option (List ℕ) → List ℕ
octets_of None = []
octets_of (Some octets) = octets

-- what is told now is what was told at the start but for so many octets
pub record IsRestOf (given : ℕ) (start : Option (List ℕ)) (after : List ℕ) : Type 0 where
  pub octets : start ≡ Some (take given (octets_of start) ++ after)
  pub count : given + length after ≡ length (octets_of start)
