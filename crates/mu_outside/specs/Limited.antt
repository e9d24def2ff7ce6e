-- What an input that ends early gives of another one (this profile).
use Rattle.std.specs.Prelude.{◌≡◌, ℕ, Option, Some, None, IfSome, List, ◌++◌, take}

-- at most so many of the octets left
abbrev pub first_of : ℕ → Option (List ℕ) → Option (List ℕ)
first_of most None = None
first_of most (Some octets) = Some (take most octets)

-- the octets read are the next ones, which are then no longer left
abbrev pub KeepsGiving : Option (List ℕ) → Option (List ℕ) → List ℕ → ℕ → Type 0
KeepsGiving old new out n = IfSome new (λ after. old ≡ Some (take n out ++ after))
