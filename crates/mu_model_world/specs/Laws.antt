-- Laws of runs.
use Rattle.std.specs.Prelude.{ℕ, ◌≡◌, List, Option, Some, Result, Ok}
use Rattle.std.specs.List.{AllByRecursion}
use Rattle.mu_model_flash.specs.declared.Pattern.{Pattern}
use Rattle.mu_model_flash.specs.declared.Pattern.TheVariants.{Made}
use Rattle.mu_model_script.specs.Event.{Event, Tear}
use Rattle.mu_model_script.specs.Lines.{line_event}
use Rattle.mu_model_script.specs.declared.LineFault.{LineFault}
use Rattle.mu_model_world.specs.Run.{Prints, Refuses}

-- what an operation leaves is the old bits or the new ones
abbrev pub IsWholeBits : Pattern → Type 0
IsWholeBits (Made seed) = ⊥
IsWholeBits _ = Unit {0}

abbrev pub FixesEvent : Event → Type 0
FixesEvent (Tear address operation pattern) = IsWholeBits pattern
FixesEvent _ = Unit {0}

abbrev pub FixesLine : Result (Option Event) LineFault → Type 0
FixesLine (Ok (Some event)) = FixesEvent event
FixesLine _ = Unit {0}

-- no tear of the script leaves made bits: then the script alone fixes its run
abbrev pub FixesItsRun : List (List ℕ) → Type 0
FixesItsRun lines = AllByRecursion (λ line. FixesLine (line_event line)) lines

-- such a script has at most one trace
abbrev pub TraceIsAlone : Type 0
TraceIsAlone = (lines : List (List ℕ)) (text text' : List ℕ) → FixesItsRun lines → Prints lines text → Prints lines text' → text ≡ text'

-- and where a line of it is refused, it has no trace of all its lines
abbrev pub RefusedHasNoTrace : Type 0
RefusedHasNoTrace =
    (lines : List (List ℕ)) (text whole : List ℕ) (number place : ℕ) (word : List ℕ) → FixesItsRun lines → Refuses lines text number place word
    → Prints lines whole → ⊥
