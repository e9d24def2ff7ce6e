-- What is shown under a name is found again.
use Rattle.std.specs.Prelude.{◌≡◌, ℕ, false, List, [], ◌∷◌, ◌++◌, Option, Some, None, ◌==◌, if◌then◌else◌}
use Rattle.std.specs.Option.{option_or}
use Rattle.mu_model_wire.specs.Fields.{Shown, number, octets, perhaps}

-- the first number, and the first octets, that are shown under a name
abbrev pub number_of : ℕ → List Shown → Option ℕ
number_of name [] = None
number_of name (number n v ∷ shown) = if n == name then Some v else number_of name shown
number_of name (octets n os ∷ shown) = number_of name shown

abbrev pub octets_of : ℕ → List Shown → Option (List ℕ)
octets_of name [] = None
octets_of name (number n v ∷ shown) = octets_of name shown
octets_of name (octets n os ∷ shown) = if n == name then Some os else octets_of name shown

-- ---- laws

-- what is found in two lists is found in the first, else in the second
abbrev pub NumbersAreFound : Type 0
NumbersAreFound = (name : ℕ) (xs ys : List Shown) → number_of name (xs ++ ys) ≡ option_or (number_of name xs) (number_of name ys)

abbrev pub OctetsAreFound : Type 0
OctetsAreFound = (name : ℕ) (xs ys : List Shown) → octets_of name (xs ++ ys) ≡ option_or (octets_of name xs) (octets_of name ys)

-- a number that may be absent is found under its name, or isn't there
abbrev pub OptionalNumberIsFound : Type 0
OptionalNumberIsFound = (name : ℕ) (value : Option ℕ) → number_of name (perhaps (number name) value) ≡ value

-- and it is found under no other
abbrev pub OptionalNumberHasOneName : Type 0
OptionalNumberHasOneName = (own other : ℕ) (value : Option ℕ) → (own == other) ≡ false → number_of other (perhaps (number own) value) ≡ None
