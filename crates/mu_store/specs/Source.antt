-- What a source gave to a call.
use Rattle.std.specs.Prelude.{◌≡◌, ℕ, Option, Some, IfSome, List, [], ◌∷◌, ◌++◌, Bool, true, false}

-- it gave these octets, where it tells what it has left
abbrev pub Gave : Option (List ℕ) → Option (List ℕ) → List ℕ → Type 0
Gave old new octets = IfSome new (λ after. old ≡ Some (octets ++ after))

-- and came to its end
abbrev pub IsAtEnd : Option (List ℕ) → Type 0
IsAtEnd new = IfSome new (λ after. after ≡ [])

-- one octet more, or its end
abbrev pub GivesMore : Option (List ℕ) → Option (List ℕ) → Bool → Type 0
GivesMore old new true = (octet : ℕ) × Gave old new (octet ∷ [])
GivesMore old new false = Gave old new [] × IsAtEnd new
