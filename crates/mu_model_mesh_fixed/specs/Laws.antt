-- Two runs of a script.
use Rattle.std.specs.Prelude.{ℕ, ◌≡◌, List, [], ◌∷◌}
use Rattle.std.specs.List.{AllByRecursion}
use Rattle.mu_model_script.specs.Lines.{script_event}
use Rattle.mu_model_world.specs.Laws.{FixesLine}
use Rattle.mu_model_mesh.specs.Mesh.{Mesh, new_mesh}
use Rattle.mu_model_mesh.specs.MeshOutcomes.{MeshOutcome}
use Rattle.mu_model_mesh.specs.MeshRun.{MeshRun, MeshPrints, MeshRefuses}

-- the world after each line of a run, and what the line prints
abbrev pub outcomes_in : (m : Mesh) (lines : List (List ℕ)) (text : List ℕ) (end : Mesh) → MeshRun m lines text end → List MeshOutcome
outcomes_in m [] text end run = []
outcomes_in m (line ∷ lines) text end (next, first, others, step, more, joined) = record { mesh = next; text = first } ∷ outcomes_in next lines others end more

-- two runs are one: they come to the same worlds by the same texts
pub record AreOne (lines : List (List ℕ)) (text text' : List ℕ) (end end' : Mesh) (run : MeshRun new_mesh lines text end) (run' : MeshRun new_mesh lines text' end') : Type 0 where
  pub texts : text ≡ text'
  pub ends : end ≡ end'
  pub outcomes : outcomes_in new_mesh lines text end run ≡ outcomes_in new_mesh lines text' end' run'

-- THE LAW. The lines and the text that is written for them fix the run: where two outcomes of a tear differ, what is printed differs.
abbrev pub TextFixesTheRun : Type 0
TextFixesTheRun =
    (lines : List (List ℕ)) (text : List ℕ) (end end' : Mesh) (run : MeshRun new_mesh lines text end) (run' : MeshRun new_mesh lines text end')
    → AreOne lines text text end end' run run'

-- no tear of the script leaves made bits
abbrev pub FixesItsRun : List (List ℕ) → Type 0
FixesItsRun lines = AllByRecursion (λ line. FixesLine (script_event line)) lines

-- then the lines alone fix it
abbrev pub LinesFixTheRun : Type 0
LinesFixTheRun =
    (lines : List (List ℕ)) (text text' : List ℕ) (end end' : Mesh) (run : MeshRun new_mesh lines text end) (run' : MeshRun new_mesh lines text' end')
    → FixesItsRun lines → AreOne lines text text' end end' run run'

-- and where a line of it is refused, it has no trace of all its lines
abbrev pub RefusedHasNoTrace : Type 0
RefusedHasNoTrace =
    (lines : List (List ℕ)) (text whole : List ℕ) (number place : ℕ) (word : List ℕ) → FixesItsRun lines → MeshRefuses lines text number place word
    → MeshPrints lines whole → ⊥
