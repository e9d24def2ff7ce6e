-- Where no flash is worn out on the way a `settle` is carried through.
use Rattle.std.proofs.Common.{◌≡◌, ℕ, nat_eq, Bool, true, false, List, [], ◌∷◌, refl, sym, subst, ◌∙◌, None}
use Rattle.std.specs.Prelude.{◌||◌}
use Rattle.std.specs.List.{AllByRecursion, list_any}
use Rattle.std.proofs.lemmas.Bool.{eqb-true}
use Rattle.mu_model_mesh.specs.Mesh.{Mesh, node_at, updater_at, distributor_at}
use Rattle.mu_model_mesh.specs.MeshOutcomes.{mesh_begun}
use Rattle.mu_model_mesh_runs.specs.Laws.{HasMembers, SettleComes, carried, wears_out, SettlesEnd}
use Rattle.mu_model_mesh_completion.specs.Carried.{IsUnworn, IsCarried, SettleIsCarried}
use Rattle.mu_model_mesh_completion.proofs.Apart.{true_false}

-- what stands at an address of a list in which somebody stands at each
abbrev IsThere : Mesh → ℕ → Type 0
IsThere m address = node_at m address ≡ None → updater_at m address ≡ None → distributor_at m address ≡ None → ⊥

found_there : (m : Mesh) (address own : ℕ) (others : List ℕ) (found : Bool) → nat_eq address own ≡ found → IsThere m own
    → (list_any (nat_eq address) others ≡ true → IsThere m address) → (found || list_any (nat_eq address) others) ≡ true → IsThere m address
found_there m address own others true e here later is = subst (IsThere m) (sym (eqb-true address own e)) here
found_there m address own others false e here later is = later is

each_there : (m : Mesh) (address : ℕ) (order : List ℕ) → AllByRecursion (IsThere m) order → list_any (nat_eq address) order ≡ true → IsThere m address
each_there m address [] there is = absurd (true_false (sym is))
each_there m address (own ∷ others) there is = found_there m address own others (nat_eq address own) refl there.0 (λ later. each_there m address others there.1 later) is

unless_worn : (turns : ℕ) (m : Mesh) → IsUnworn turns m → SettleComes turns m → IsCarried turns m
unless_worn turns m unworn (carried text next settles) = record { text = text; next = next; settles = settles }
unless_worn turns m unworn (wears_out w) = absurd (true_false (sym w.wears ∙ unworn w.coming w.world w.through))

pub settle_is_carried : SettlesEnd → SettleIsCarried
settle_is_carried ends m turns world unworn =
    let members : HasMembers (mesh_begun m) = λ address is. each_there m address m.order world.there is in
    unless_worn turns (mesh_begun m) unworn (ends turns (mesh_begun m) members)
