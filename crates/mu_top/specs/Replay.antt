-- What `replay` promises: the world of a script, line by line.
use Rattle.std.specs.Prelude.{ℕ, Option, List}
use Rattle.mu_model_script.specs.Limits.{most_lines, first_lines}
use Rattle.mu_model_world.specs.Laws.{FixesItsRun}
use Rattle.mu_model_world.specs.World.{new_world}
use Rattle.mu_model_world.specs.Run.{Step, Bars, Wears, Refuses}
use Rattle.mu_top.specs.Ends.{Ends, EndsAsItMust, NoneWears, OrNoMemory, Completes, ByNumber}
use Rattle.mu_command_line.specs.declared.status.Status.{Status}
use Rattle.mu_command_line.specs.declared.status.Status.TheVariants.{Refused}

abbrev pub Replayed : (source source' sink sink' : Option (List ℕ)) (number : ℕ) → Type 0
Replayed source source' sink sink' number = ByNumber (Ends Step Bars Wears new_world most_lines source source' sink sink') number

-- how a script ends that is read to its end or to its first fault, and whose trace can be written
pub record ScriptEnds (held : List ℕ) (status : Status) : Type 0 where
  pub must : EndsAsItMust Step Bars Wears new_world most_lines held status
  -- where the script alone fixes its run, a line that is refused in a run is refused
  pub fixed : FixesItsRun (first_lines most_lines held) → NoneWears Step Wears new_world most_lines held
      → (text : List ℕ) (number place : ℕ) (word : List ℕ) → Refuses (first_lines most_lines held) text number place word → OrNoMemory Refused status

-- where neither the source nor the sink fails
abbrev pub ReplayCompletes : (source source' sink sink' : Option (List ℕ)) (number : ℕ) → Type 0
ReplayCompletes source source' sink sink' number = ByNumber (Completes ScriptEnds source source' sink sink') number
