-- The lines of a script, and what each of them comes to.
use Rattle.std.specs.Prelude.{ℕ, ◌≡◌, true, List, Option, Some, None, Result, Ok}
use Rattle.mu_model_script.specs.Event.{Event, Settle}
use Rattle.mu_model_script.specs.Limits.{most_lines}
use Rattle.mu_model_script.specs.Lines.{script_event}
use Rattle.mu_model_script.specs.declared.LineFault.{LineFault}
use Rattle.mu_model_mesh.specs.Mesh.{Mesh, new_mesh, is_member, node_at, updater_at, distributor_at}
use Rattle.mu_model_mesh.specs.MeshRun.{MeshStep, MeshBars, MeshRun}
use Rattle.mu_model_mesh_runs.specs.Ends.{Lines, Way, MayEnd}
use Rattle.mu_model_mesh.specs.Settle.{Settles}
use Rattle.mu_model_mesh_runs.specs.Stops.{SettleWears, MeshWears, MeshPasses}

-- what the lines of a script with nodes, updaters and distributors do, from a new world on
abbrev pub mesh_lines : Lines Mesh
mesh_lines = record { does = MeshStep; bars = MeshBars; wears = MeshWears; passes = MeshPasses; start = new_mesh; most = most_lines }

-- ---- what a line comes to

abbrev pub IsOther : Event → Type 0
IsOther (Settle turns) = ⊥
IsOther _ = Unit {0}

-- the line says no `settle`
abbrev pub IsNoSettle : Result (Option Event) LineFault → Type 0
IsNoSettle (Ok (Some event)) = IsOther event
IsNoSettle _ = Unit {0}

-- it is done; it is refused; it would wear out a flash; it would pass a limit
pub data ComesTo (m : Mesh) (line : List ℕ) : Type 0 where
  done : (text : List ℕ) (next : Mesh) → MeshStep m line text next → ComesTo m line
  refused : (place : ℕ) (word : List ℕ) → MeshBars m line place word → ComesTo m line
  wears : MeshWears m line → ComesTo m line
  passes : MeshPasses m line → ComesTo m line

-- somebody stands at each address of the order
abbrev pub HasMembers : Mesh → Type 0
HasMembers m = (address : ℕ) → is_member m address ≡ true → node_at m address ≡ None → updater_at m address ≡ None → distributor_at m address ≡ None → ⊥

-- each line comes to one of these
abbrev pub LinesComeToSomething : Type 0
LinesComeToSomething = (m : Mesh) (line : List ℕ) → HasMembers m → IsNoSettle (script_event line) → ComesTo m line

-- and to one alone: a line that is refused or would pass a limit comes to nothing else, whatever it says
pub record ComesToOne (m : Mesh) (line : List ℕ) : Type 0 where
  pub not_refused : (text : List ℕ) (next : Mesh) (place : ℕ) (word : List ℕ) → MeshStep m line text next → MeshBars m line place word → ⊥
  pub not_past : (text : List ℕ) (next : Mesh) → MeshStep m line text next → MeshPasses m line → ⊥
  pub refused_within : (place : ℕ) (word : List ℕ) → MeshBars m line place word → MeshPasses m line → ⊥
  pub refused_unworn : (place : ℕ) (word : List ℕ) → MeshBars m line place word → MeshWears m line → ⊥
  pub worn_within : MeshWears m line → MeshPasses m line → ⊥
  -- one that says no `settle` isn't done where it would wear out a flash; a `settle` may be, where a tear on its way leaves made bits
  pub not_worn : (text : List ℕ) (next : Mesh) → IsNoSettle (script_event line) → MeshStep m line text next → MeshWears m line → ⊥
  -- at one place, with one word
  pub one_place : (place place' : ℕ) (word word' : List ℕ) → MeshBars m line place word → MeshBars m line place' word' → (place ≡ place') × (word ≡ word')

abbrev pub LinesComeToOneThing : Type 0
LinesComeToOneThing = (m : Mesh) (line : List ℕ) → ComesToOne m line

-- ---- a `settle`

-- it is carried through, or what comes next somewhere on its way would wear out a flash
pub data SettleComes (turns : ℕ) (m : Mesh) : Type 0 where
  carried : (text : List ℕ) (next : Mesh) → Settles turns m text next → SettleComes turns m
  wears_out : SettleWears turns m → SettleComes turns m

-- its deliveries end, since what is sent on a packet is answered by nothing
abbrev pub SettlesEnd : Type 0
SettlesEnd = (turns : ℕ) (m : Mesh) → HasMembers m → SettleComes turns m

-- so each line comes to something, whatever it says
abbrev pub AllLinesCome : Type 0
AllLinesCome = (m : Mesh) (line : List ℕ) → HasMembers m → ComesTo m line

-- somebody stands at each address of the order in each world of each script
abbrev pub RunsHaveMembers : Type 0
RunsHaveMembers = (lines : List (List ℕ)) (text : List ℕ) (m : Mesh) → MeshRun new_mesh lines text m → HasMembers m

-- ---- how a script ends

pub record SomeWay (held : List ℕ) : Type 0 where
  pub way : Way
  pub ends : MayEnd mesh_lines held way

-- whatever it is, a script ends in one of the ways: all its lines are done, or one is refused, would wear out a flash or passes a limit
abbrev pub ScriptsEnd : Type 0
ScriptsEnd = (held : List ℕ) → SomeWay held
