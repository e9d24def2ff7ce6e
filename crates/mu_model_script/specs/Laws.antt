-- What holds of the definitions for every line.
use Rattle.std.specs.Prelude.{◌≡◌, ℕ, ◌<◌, ◌≤◌, ◌^◌, List, length, All, Contains, Some, Ok}
use Rattle.std.specs.List.{join_with_byte}
use Rattle.std.specs.Fmt.{decimal}
use Rattle.hex.specs.Hex.{encode_lower, IsBytes}
use Rattle.mu_model_script.specs.Pieces.{pieces}
use Rattle.mu_model_script.specs.Tokens.{number_of, address_of, octets_of}
use Rattle.mu_model_script.specs.Event.{Event}
use Rattle.mu_model_script.specs.Lines.{line_event, script_event}
use Rattle.mu_model_script.specs.Ranges.{IsInRange}
use Rattle.mu_model_script.specs.Texts.{address_text}

-- a number is read from the text that is printed of it
abbrev pub PrintedNumberIsRead : Type 0
PrintedNumberIsRead = (least most n : ℕ) → n < 2 ^ 64 → least ≤ n → n ≤ most → number_of least most (decimal n) ≡ Some n

-- and from no other text
abbrev pub NumberHasOneText : Type 0
NumberHasOneText = (least most n : ℕ) (text : List ℕ) → n < 2 ^ 64 → number_of least most text ≡ Some n → text ≡ decimal n

-- the pieces, with the separator between them, are the octets
abbrev pub PiecesAreTheOctets : Type 0
PiecesAreTheOctets = (separator : ℕ) (octets : List ℕ) → join_with_byte separator (pieces separator octets) ≡ octets

abbrev pub NoPieceHasTheSeparator : Type 0
NoPieceHasTheSeparator = (separator : ℕ) (octets : List ℕ) → All (λ piece. Contains piece separator → ⊥) (pieces separator octets)

abbrev pub PrintedAddressIsRead : Type 0
PrintedAddressIsRead = (address : ℕ) → address < 2 ^ 16 → address_of (address_text address) ≡ Some address

abbrev pub PrintedOctetsAreRead : Type 0
PrintedOctetsAreRead = (most : ℕ) (octets : List ℕ) → IsBytes octets → 1 ≤ length octets → length octets ≤ most → octets_of most (encode_lower octets) ≡ Some octets

-- an event that is read has its fields in their ranges
abbrev pub EventIsInRange : Type 0
EventIsInRange = (line : List ℕ) (event : Event) → line_event line ≡ Ok (Some event) → IsInRange event

abbrev pub ScriptEventIsInRange : Type 0
ScriptEventIsInRange = (line : List ℕ) (event : Event) → script_event line ≡ Ok (Some event) → IsInRange event

-- and a line of nodes says the same in any script
abbrev pub NodeLinesAreTheSame : Type 0
NodeLinesAreTheSame = (line : List ℕ) (event : Event) → line_event line ≡ Ok (Some event) → script_event line ≡ Ok (Some event)
