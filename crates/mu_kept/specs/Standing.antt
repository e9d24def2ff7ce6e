-- How the blocks of a job stand.
use Rattle.std.specs.Prelude.{◌≡◌, ℕ, Bool, true, List, [], replicate, IsSome}
use Rattle.mu_place.specs.declared.place.Place.{Place}
use Rattle.mu_place.specs.Place.{place_filling, place_held}
use Rattle.mu_kept.specs.declared.readers.Standing.{Standing}
use Rattle.mu_kept.specs.declared.readers.Standing.TheVariants.{Nothing, Filling, Sealed}

abbrev pub StandsSo : {F : Type 0} {g : _} → Standing → Place F g → List Bool → Type 0
StandsSo Nothing place flags = flags ≡ []
StandsSo Filling place flags = IsSome (place_filling place) × (flags ≡ place_held place)
StandsSo (Sealed count) place flags = flags ≡ replicate count true
