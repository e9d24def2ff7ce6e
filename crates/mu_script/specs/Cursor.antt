-- What the calls that read tokens give.
use Rattle.std.specs.Prelude.{◌≡◌, ℕ, ◌+◌, List, [], length, Option, Some, None, Result, Ok, Err}
use Rattle.mu_model_script.specs.declared.LineFault.{LineFault}
use Rattle.mu_model_script.specs.Pieces.{Token, pieces}
use Rattle.mu_model_script.specs.Event.{Event}
use Rattle.mu_model_script.specs.Lines.{Left, some_event}
use Rattle.std.specs.Option.{option_map}
use Rattle.mu_script.specs.declared.cursor.Token.{Token as HeldToken}
use Rattle.mu_script.specs.declared.events.Event.{Event as HeldEvent}
use Rattle.mu_script.specs.View.{event}

-- the pieces behind a separator, where there is one
abbrev pub pieces_behind : ℕ → Option (List ℕ) → List (List ℕ)
pieces_behind separator None = []
pieces_behind separator (Some octets) = pieces separator octets

-- the length from a separator on
abbrev pub length_behind : Option (List ℕ) → ℕ
length_behind None = 0
length_behind (Some octets) = length octets + 1

abbrev pub token_seen : HeldToken → Token
token_seen token = record { at = token.at; octets = token.octets.now }

-- what a function returned, as it is seen, is what reading gives
abbrev pub Gives : {X Y : Type 0} → (X → Y) → Result X LineFault → Result Y LineFault → Type 0
Gives seen (Ok x) read = read ≡ Ok (seen x)
Gives seen (Err e) read = read ≡ Err e

-- the same, with the tokens that are left
abbrev pub Reads : {X Y : Type 0} → (X → Y) → Result X LineFault → Result (Y × Left) LineFault → Left → Type 0
Reads seen (Ok x) read left = read ≡ Ok (seen x, left)
Reads seen (Err e) read left = read ≡ Err e

-- the event of a line that makes something happen
abbrev pub GivesEvent : Result (Option HeldEvent) LineFault → Result Event LineFault → Type 0
GivesEvent result read = Gives (λ e. option_map event e) result (some_event read)
