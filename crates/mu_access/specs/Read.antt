-- What is written again, or shown, of the message that octets spell.
use Rattle.std.specs.Prelude.{ℕ, List, Option, Result, Ok, Err}
use Rattle.mu_model_flash.specs.declared.Failed.{Failed}
use Rattle.mu_model_wire.specs.Fields.{Message}
use Rattle.mu_model_wire.specs.Spelling.{spelling}
use Rattle.mu_model_wire.specs.Table.{rows}
use Rattle.mu_model_wire.specs.declared.Refusal.{Refusal}
use Rattle.mu_shown.specs.Lines.{shown_line}
use Rattle.mu_shown.specs.Written.{Writes}

-- the canonical octets of what was read, or its refusal
abbrev pub canonical_of : Result Message Refusal → Result (List ℕ) Refusal
canonical_of (Ok m) = Ok (spelling rows m)
canonical_of (Err refusal) = Err refusal

-- the line of the message that was read was written, or a beginning of it
abbrev pub ShowsRead : {A : Type 0} (old new : Option (List ℕ)) (before now : ℕ) → Result A Failed → Result Message Refusal → Type 0
ShowsRead old new before now shown (Ok m) = Writes old new before now shown (shown_line m)
ShowsRead old new before now shown (Err refusal) = ⊥
