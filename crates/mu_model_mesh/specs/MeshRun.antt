-- Whole runs of scripts with updaters and distributors.
use Rattle.std.specs.Prelude.{ℕ, ◌≡◌, false, List, [], Contains, Option, Some, Result, Ok}
use Rattle.mu_model_script.specs.Event.{Event, Settle}
use Rattle.mu_model_script.specs.declared.LineFault.{LineFault}
use Rattle.mu_model_script.specs.Lines.{script_event}
use Rattle.mu_model_script.specs.Runs as runs
use Rattle.mu_model_world.specs.Judged.{Judged, Silent, Refused, Sound}
use Rattle.mu_model_mesh.specs.Mesh.{Mesh, new_mesh}
use Rattle.mu_model_mesh.specs.MeshOutcomes.{MeshOutcome, mesh_outcomes, mesh_begun}
use Rattle.mu_model_mesh.specs.MeshJudged.{mesh_judged, is_past}
use Rattle.mu_model_mesh.specs.Settle.{Settles}

-- a line may lead from a world to the next with this text
abbrev pub MeshMoves : Mesh → Event → (text : List ℕ) → (next : Mesh) → Type 0
MeshMoves m (Settle turns) text next = Settles turns (mesh_begun m) text next
MeshMoves m event text next = Contains (mesh_outcomes m event) (record { mesh = next; text = text })

-- what was judged is done, within the limits, with this text, and leads to the next world
abbrev pub IsDone : Mesh → Judged → (text : List ℕ) → (next : Mesh) → Type 0
IsDone m Silent text next = (text ≡ []) × (next ≡ m)
IsDone m (Refused place word) text next = ⊥
IsDone m (Sound event) text next = (is_past m event ≡ false) × MeshMoves m event text next

-- one line
pub record MeshStep (m : Mesh) (line text : List ℕ) (next : Mesh) : Type 0 where
  pub done : IsDone m (mesh_judged m line) text next

-- what a line says passes no limit: a limit comes before what stands against the line
abbrev pub PassesNone : Mesh → Result (Option Event) LineFault → Type 0
PassesNone m (Ok (Some event)) = is_past m event ≡ false
PassesNone m _ = Unit {0}

-- it is refused at this place, with this word for why
pub record MeshBars (m : Mesh) (line : List ℕ) (place : ℕ) (word : List ℕ) : Type 0 where
  pub within : PassesNone m (script_event line)
  pub judged : mesh_judged m line ≡ Refused place word

-- all these lines, one after the other, and all that they print
abbrev pub MeshRun : Mesh → List (List ℕ) → List ℕ → Mesh → Type 0
MeshRun = runs.Run MeshStep

abbrev pub MeshPrints : List (List ℕ) → List ℕ → Type 0
MeshPrints = runs.Prints MeshStep new_mesh

abbrev pub MeshRefuses : List (List ℕ) → (text : List ℕ) (number place : ℕ) (word : List ℕ) → Type 0
MeshRefuses = runs.Refuses MeshStep MeshBars new_mesh
