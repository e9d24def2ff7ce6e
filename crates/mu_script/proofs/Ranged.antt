-- What is read from a line is in its ranges.
use Rattle.std.proofs.Common.{Option, Some, None, Result, Ok, Err, List, ℕ}
use Rattle.std.specs.Option.{option_map, IfSome}
use Rattle.std.specs.Result.{IfOk}
use Rattle.mu_model_script.specs.declared.LineFault.{LineFault}
use Rattle.mu_model_script.specs.Lines.{line_event}
use Rattle.mu_model_script.specs.Laws.{EventIsInRange}
use Rattle.mu_model_script.specs.Ranges.{IsInRange}
use Rattle.mu_script.specs.Cursor.{Gives}
use Rattle.mu_script.specs.View.{event}
use Rattle.mu_script.specs.declared.events.Event.{Event as HeldEvent}

pub ranged : EventIsInRange → (line : List ℕ) (read : Result (Option HeldEvent) LineFault) → Gives (λ e. option_map event e) read (line_event line)
    → IfOk read (λ r. IfSome r (λ e. IsInRange (event e)))
ranged law line (Ok (Some e)) gives = law line (event e) gives
ranged law line (Ok None) gives = tt
ranged law line (Err f) gives = tt
