-- Of worked rows: lines of a script, and what they say.
use Rattle.std.specs.Prelude.{ℕ, ◌≡◌, List, map, Option, Some, Result, Ok, Err}
use Rattle.mu_model_script.specs.declared.LineFault.{LineFault}
use Rattle.mu_model_script.specs.declared.LineWhy.TheVariants.{Token}
use Rattle.mu_model_script.specs.Event.{Event}
use Rattle.mu_model_script.specs.Lines.{script_event}

abbrev pub Line : Type 0
Line = List ℕ × Result (Option Event) LineFault

abbrev pub reads : List ℕ → Event → Line
reads line event = (line, Ok (Some event))

-- by the token at a place
abbrev pub refused : List ℕ → (at : ℕ) → Line
refused line at = (line, Err (record { at = at; why = Token }))

abbrev pub AreRead : List Line → Type 0
AreRead table = map (λ (line : Line). (line.0, script_event line.0)) table ≡ table
