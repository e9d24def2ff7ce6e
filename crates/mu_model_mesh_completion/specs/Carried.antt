-- When a `settle` is carried through.
use Rattle.std.specs.Prelude.{ℕ, ◌≡◌, false, List}
use Rattle.mu_model_mesh.specs.Mesh.{Mesh}
use Rattle.mu_model_mesh.specs.MeshOutcomes.{mesh_begun}
use Rattle.mu_model_mesh.specs.Settle.{Settles}
use Rattle.mu_model_mesh_runs.specs.Goes.{Coming, GoesThrough}
use Rattle.mu_model_mesh_runs.specs.Stops.{would_wear}
use Rattle.mu_model_mesh_completion.specs.Settled.{IsWorld}

-- in no world that a `settle` of so many turns goes through what comes next would wear out a flash
abbrev pub IsUnworn : (turns : ℕ) → Mesh → Type 0
IsUnworn turns m = (coming : Coming) (x : Mesh) → GoesThrough turns m coming x → would_wear x coming ≡ false

pub record IsCarried (turns : ℕ) (m : Mesh) : Type 0 where
  pub text : List ℕ
  pub next : Mesh
  pub settles : Settles turns m text next

-- then it is carried through
abbrev pub SettleIsCarried : Type 0
SettleIsCarried = (m : Mesh) (turns : ℕ) → IsWorld m → IsUnworn turns (mesh_begun m) → IsCarried turns (mesh_begun m)
