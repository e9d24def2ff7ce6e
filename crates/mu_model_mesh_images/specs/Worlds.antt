-- The worlds that a run goes through: each world in which something comes next, those within a `settle` too, and the last.
use Rattle.std.specs.Prelude.{ℕ, zero, suc, List, [], ◌∷◌, ◌++◌}
use Rattle.mu_model_script.specs.Event.{Event, Settle}
use Rattle.mu_model_world.specs.Judged.{Judged, Sound}
use Rattle.mu_model_mesh.specs.Mesh.{Mesh, addressees}
use Rattle.mu_model_mesh.specs.MeshJudged.{mesh_judged}
use Rattle.mu_model_mesh.specs.MeshOutcomes.{MeshOutcome, mesh_begun}
use Rattle.mu_model_mesh.specs.MeshRun.{MeshMoves, IsDone, MeshStep, MeshRun}
use Rattle.mu_model_mesh.specs.Settle.{turn_comes, EachComes, given_to, AllComes, none_left, comes, Turns, Settles}

abbrev pub worlds_by_each : (events : Mesh → ℕ → List MeshOutcome) (addresses : List ℕ) (m : Mesh) (text : List ℕ) (next : Mesh) → EachComes events addresses m text next → List Mesh
worlds_by_each events [] m text next way = []
worlds_by_each events (address ∷ others) m text next (mid, first, rest, outcome, more, joined) = m ∷ worlds_by_each events others mid rest next more

abbrev pub worlds_by_all : {number : ℕ} {m : Mesh} {text : List ℕ} {next : Mesh} → AllComes number m text next → List Mesh
worlds_by_all (none_left over) = []
worlds_by_all {number = number} {m = m} (comes {mid = mid} first rest packet at each all) =
    worlds_by_each (given_to number) (addressees m packet) m first mid each ++ worlds_by_all all

abbrev pub worlds_in_turn : {m : Mesh} {text : List ℕ} {next : Mesh} → Turns m text next → List Mesh
worlds_in_turn {m = m} t = worlds_by_each turn_comes m.order m t.first t.mid t.time ++ worlds_by_all t.packets

abbrev pub worlds_in_settle : (turns : ℕ) (m : Mesh) (text : List ℕ) (next : Mesh) → Settles turns m text next → List Mesh
worlds_in_settle zero m text next way = []
worlds_in_settle (suc turns) m text next (mid, first, rest, turn, more, joined) = worlds_in_turn turn ++ worlds_in_settle turns mid rest next more

abbrev pub worlds_by_move : (m : Mesh) (event : Event) (text : List ℕ) (next : Mesh) → MeshMoves m event text next → List Mesh
worlds_by_move m (Settle turns) text next way = worlds_in_settle turns (mesh_begun m) text next way
worlds_by_move m _ text next way = []

abbrev pub worlds_by_done : (m : Mesh) (judged : Judged) (text : List ℕ) (next : Mesh) → IsDone m judged text next → List Mesh
worlds_by_done m (Sound event) text next way = worlds_by_move m event text next way.1
worlds_by_done m _ text next way = []

-- within a line that is done
abbrev pub worlds_in_line : {m : Mesh} {line text : List ℕ} {next : Mesh} → MeshStep m line text next → List Mesh
worlds_in_line {m = m} {line = line} {text = text} {next = next} step = worlds_by_done m (mesh_judged m line) text next step.done

abbrev pub worlds_in_run : (m : Mesh) (lines : List (List ℕ)) (text : List ℕ) (end : Mesh) → MeshRun m lines text end → List Mesh
worlds_in_run m [] text end way = end ∷ []
worlds_in_run m (line ∷ lines) text end (next, first, others, step, more, joined) = m ∷ worlds_in_line step ++ worlds_in_run next lines others end more
