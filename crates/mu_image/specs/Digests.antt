-- What has been taken into a digest.
use Rattle.std.specs.Prelude.{ℕ, List}
use Rattle.sha2.specs.Hashers.{Holds256}
use Rattle.mu_image.specs.declared.digesting.Digesting.{Digesting}

-- the pieces that were taken, joined, are these octets
unfoldable pub HasTaken : Digesting → List ℕ → Type 0
HasTaken digesting octets = Holds256 digesting.hasher octets
