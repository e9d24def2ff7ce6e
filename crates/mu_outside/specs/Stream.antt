-- What a read gives and what a write takes, where the octets are told (this profile).
use Rattle.std.specs.Prelude.{◌≡◌, ℕ, ◌<◌, Option, Some, IfSome, List, [], ◌++◌, length, take}

-- The octets read are the next ones, which are then no longer left. None are read into an `out` that isn't empty only where none is left.
abbrev pub ReadGives : Option (List ℕ) → Option (List ℕ) → List ℕ → ℕ → Type 0
ReadGives old new out n = IfSome new (λ after. (old ≡ Some (take n out ++ after)) × (n ≡ 0 → 0 < length out → after ≡ []))

-- The first octets of the piece are appended, as many as were answered.
abbrev pub WriteTakes : Option (List ℕ) → Option (List ℕ) → List ℕ → ℕ → Type 0
WriteTakes old new bytes n = IfSome new (λ after. (before : List ℕ) × (old ≡ Some before) × (after ≡ before ++ take n bytes))

-- What is told now was told before.
abbrev pub KeepsTold : Option (List ℕ) → Option (List ℕ) → Type 0
KeepsTold old new = IfSome new (λ after. old ≡ Some after)
