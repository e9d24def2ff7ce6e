-- What is appended to an output, where its octets are told.
use Rattle.std.specs.Prelude.{◌≡◌, ℕ, ◌++◌, Option, Some, IfSome, List, take}

-- all of a text was appended
abbrev pub Wrote : Option (List ℕ) → Option (List ℕ) → List ℕ → Type 0
Wrote old new text = IfSome new (λ after. (before : List ℕ) × (old ≡ Some before) × (after ≡ before ++ text))

-- a beginning of a text was appended
abbrev pub WroteSome : Option (List ℕ) → Option (List ℕ) → List ℕ → Type 0
WroteSome old new text = IfSome new (λ after. (before : List ℕ) × (old ≡ Some before) × ((count : ℕ) × (after ≡ before ++ take count text)))
