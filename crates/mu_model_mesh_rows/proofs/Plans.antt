-- The plan of an updater's line.
use Rattle.std.proofs.Common.{◌≡◌, ℕ, List, [], ◌∷◌, refl, ap}
use Rattle.std.specs.Prelude.{map}
use Rattle.mu_model_updater.specs.Updater.{first_image}
use Rattle.mu_model_client.specs.Begin.{new_active}
use Rattle.mu_model_client.specs.Client.{row_of}
use Rattle.mu_model_mesh_rows.specs.Plans.{PlansHaveTheirFields}

addressed : (receivers : List ℕ) → map (λ row. row.address) (map row_of (map new_active (map first_image receivers))) ≡ receivers
addressed [] = refl
addressed (address ∷ receivers) = ap (λ rest. address ∷ rest) (addressed receivers)

pub plans_have_their_fields : PlansHaveTheirFields
plans_have_their_fields line = record { from = refl; id = refl; size = refl; log = refl; chunk = refl; mode = refl; group = refl; ttl = refl; base = refl; offered_size = refl; offered_version = refl; offered_digest = refl; applied = refl; receivers = addressed line.receivers; octets = refl }
