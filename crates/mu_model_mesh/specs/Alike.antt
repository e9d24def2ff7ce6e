-- A script with lines of nodes alone runs alike in a mesh and in a world of nodes.
use Rattle.std.specs.Prelude.{ℕ, ◌≡◌, ◌≤◌, List, [], ◌∷◌, length, map, replicate, take, Option, None, Ok}
use Rattle.std.specs.List.{AllByRecursion}
use Rattle.mu_model_script.specs.Event.{Event}
use Rattle.mu_model_script.specs.Limits.{most_lines}
use Rattle.mu_model_script.specs.Lines.{station_rows, row_of, line_event, script_event}
use Rattle.mu_model_script.specs.Pieces.{Token, tokens_of}
use Rattle.mu_model_world.specs.World.{World, new_world}
use Rattle.mu_model_world.specs.Judged.{most_events}
use Rattle.mu_model_world.specs.Run.{Run, Prints, Refuses}
use Rattle.mu_model_mesh.specs.Mesh.{Mesh, new_mesh}
use Rattle.mu_model_mesh.specs.MeshRun.{MeshRun, MeshPrints, MeshRefuses}

-- The first token isn't the word of a line of updaters and distributors: `updater`, `distributor`, `stock`, `settle`, `rows` or
-- `packet`.
abbrev pub HasNoStationWord : List Token → Type 0
HasNoStationWord [] = Unit {0}
HasNoStationWord (word ∷ tokens) = row_of station_rows word.octets ≡ None

-- an empty line, a comment, one with the word of a line of nodes, whether it is read or not, or one with a word that no line has
abbrev pub IsOfNodes : List ℕ → Type 0
IsOfNodes line = HasNoStationWord (tokens_of line)

abbrev pub AreOfNodes : List (List ℕ) → Type 0
AreOfNodes lines = AllByRecursion IsOfNodes lines

-- the mesh in which a world's nodes are alone: the new mesh is that of the new world
abbrev pub alone : World → Mesh
alone w = record {
  nodes = w;
  updaters = [];
  distributors = [];
  order = map (λ entry. entry.0) w.members;
  transfers = replicate (length w.bag) None;
  turns = 0;
}

-- ---- lines

-- what is read from a line of nodes in any script is what is read from it where all lines are of nodes
abbrev pub NodeLinesAreReadAlike : Type 0
NodeLinesAreReadAlike = (line : List ℕ) → IsOfNodes line → script_event line ≡ line_event line

-- and each line that is read there, to an event or to nothing, is of nodes
abbrev pub ReadLinesAreOfNodes : Type 0
ReadLinesAreOfNodes = (line : List ℕ) (said : Option Event) → line_event line ≡ Ok said → IsOfNodes line

-- ---- runs

-- a run of lines of nodes in a mesh is one of its nodes alone, within the limit of events
abbrev pub MeshRunsAreRuns : Type 0
MeshRunsAreRuns =
    (lines : List (List ℕ)) (text : List ℕ) (m : Mesh) → AreOfNodes lines → MeshRun new_mesh lines text m
    → Run new_world lines text m.nodes × (m ≡ alone m.nodes) × (m.nodes.events ≤ most_events)

-- and each run within that limit in a world of nodes is one in a mesh
abbrev pub RunsAreMeshRuns : Type 0
RunsAreMeshRuns =
    (lines : List (List ℕ)) (text : List ℕ) (w : World) → w.events ≤ most_events → Run new_world lines text w → MeshRun new_mesh lines text (alone w)

-- a line counts one event or none, so that a script within the limit of lines is within that of events
abbrev pub LinesCount : Type 0
LinesCount = (lines : List (List ℕ)) (text : List ℕ) (w : World) → Run new_world lines text w → w.events ≤ length lines

-- ---- what is printed

abbrev pub MeshPrintsArePrints : Type 0
MeshPrintsArePrints = (lines : List (List ℕ)) (text : List ℕ) → AreOfNodes lines → MeshPrints lines text → Prints lines text

abbrev pub PrintsAreMeshPrints : Type 0
PrintsAreMeshPrints = (lines : List (List ℕ)) (text : List ℕ) → length lines ≤ most_lines → Prints lines text → MeshPrints lines text

-- ---- what is refused

-- where the lines up to the refused one are of nodes
abbrev pub MeshRefusesAreRefuses : Type 0
MeshRefusesAreRefuses =
    (lines : List (List ℕ)) (text : List ℕ) (number place : ℕ) (word : List ℕ) → AreOfNodes (take number lines)
    → MeshRefuses lines text number place word → Refuses lines text number place word

abbrev pub RefusesAreMeshRefuses : Type 0
RefusesAreMeshRefuses =
    (lines : List (List ℕ)) (text : List ℕ) (number place : ℕ) (word : List ℕ) → AreOfNodes (take number lines) → number ≤ most_lines
    → Refuses lines text number place word → MeshRefuses lines text number place word
