-- Lines of payloads (this profile): a line is one payload in hexadecimal; empty lines and comments are passed over.
use Rattle.std.specs.Prelude.{◌≡◌, ℕ, ◌+◌, ◌%◌, ◌==◌, nat_lt, List, [], ◌∷◌, ◌++◌, length, codes, Option, Some, None, Result, Ok, Err, if◌then◌else◌}
use Rattle.hex.specs.Hex.{decode_of, encode_lower, is_hex_digit}
use Rattle.hex.specs.declared.error.FromHexError.{FromHexError}
use Rattle.mu_model_script.specs.Limits.{most_in_line, most_octets, first_lines}
use Rattle.mu_model_script.specs.Lines.{is_silent}
use Rattle.mu_model_script.specs.Pieces.{line_feed}
use Rattle.mu_model_wire.specs.Fields.{Message}
use Rattle.mu_model_wire.specs.Reading.{message_at}
use Rattle.mu_model_wire.specs.Spelling.{spelling}
use Rattle.mu_model_wire.specs.Table.{rows}
use Rattle.mu_model_wire.specs.declared.Refusal.{Refusal}
use Rattle.mu_model_wire.specs.declared.Why.{Why}
use Rattle.mu_model_wire.specs.declared.Why.TheVariants.{Opcode, Short, Value, Long}
use Rattle.mu_shown.specs.Lines.{shown_line}
use Rattle.mu_top.specs.declared.payloads.PayloadText.{PayloadText}
use Rattle.mu_top.specs.declared.payloads.PayloadText.TheVariants.{Canonical, Shown}
use Rattle.mu_model_script.specs.Runs as runs
use Rattle.mu_top.specs.Ends.{Doing, Barring, Wearing, Ends, EndsAsItMust, OrNoMemory, Completes, ByNumber}
use Rattle.mu_command_line.specs.declared.status.Status.{Status}
use Rattle.mu_command_line.specs.declared.status.Status.TheVariants.{Refused as RefusedStatus}

-- what a line comes to
pub data PayloadLine : Type 0 where
  -- an empty line or a comment
  Silent : PayloadLine
  -- the place, and the word for why
  Refused : (place : ℕ) (word : List ℕ) → PayloadLine
  Holds : Message → PayloadLine

-- the place of the first octet that is no hexadecimal digit
abbrev pub first_bad_digit : ℕ → List ℕ → Option ℕ
first_bad_digit at [] = None
first_bad_digit at (octet ∷ octets) = if is_hex_digit octet then first_bad_digit (at + 1) octets else Some at

-- where hexadecimal is wrong: at its first bad digit, or at its end where the number of its digits is odd
abbrev pub or_odd : Option ℕ → List ℕ → Option ℕ
or_odd (Some place) text = Some place
or_odd None text = if length text % 2 == 1 then Some (length text) else None

abbrev pub bad_hex : List ℕ → Option ℕ
bad_hex text = or_odd (first_bad_digit 0 text) text

abbrev pub why_word : Why → List ℕ
why_word Opcode = codes "opcode"
why_word Short = codes "short"
why_word Value = codes "value"
why_word Long = codes "long"

abbrev pub of_reading : Result Message Refusal → PayloadLine
of_reading (Ok m) = Holds m
of_reading (Err refusal) = Refused refusal.at (why_word refusal.why)

-- the octets of hexadecimal in which nothing is wrong
abbrev pub octets_or_none : Result (List ℕ) FromHexError → List ℕ
octets_or_none (Ok octets) = octets
octets_or_none (Err e) = []

abbrev pub of_hex : List ℕ → Option ℕ → PayloadLine
of_hex text (Some place) = Refused place (codes "hex")
of_hex text None = of_reading (message_at rows (octets_or_none (decode_of text)))

abbrev pub payload_line : List ℕ → PayloadLine
payload_line line =
    if nat_lt most_in_line (length line) then Refused most_in_line (codes "long")
    else if is_silent line then Silent
    else of_hex line (bad_hex line)

-- what is printed of a line, by what is printed of a message
abbrev pub Prints : (Message → List ℕ) → PayloadLine → List ℕ → Type 0
Prints shown Silent text = text ≡ []
Prints shown (Refused place word) text = ⊥
Prints shown (Holds m) text = text ≡ shown m

-- what is printed of a message
abbrev pub printed : PayloadText → Message → List ℕ
printed Canonical m = encode_lower (spelling rows m) ++ line_feed ∷ []
printed Shown m = shown_line m

-- a command that prints its payloads stays what it is
abbrev pub DoesPayload : Doing PayloadText
DoesPayload w line text next = (next ≡ w) × Prints (printed w) (payload_line line) text

abbrev pub BarsPayload : Barring PayloadText
BarsPayload w line place word = payload_line line ≡ Refused place word

-- no payload wears out a flash
abbrev pub WearsPayload : Wearing PayloadText
WearsPayload w line = ⊥

-- what a command that prints payloads so promises
abbrev pub PrintsPayloads : PayloadText → (source source' sink sink' : Option (List ℕ)) (number : ℕ) → Type 0
PrintsPayloads text source source' sink sink' number = ByNumber (Ends DoesPayload BarsPayload WearsPayload text most_octets source source' sink sink') number

-- how an input of payloads ends that is read to its end or to its first fault, and whose text can be written
pub record PayloadsEnd (text : PayloadText) (held : List ℕ) (status : Status) : Type 0 where
  pub must : EndsAsItMust DoesPayload BarsPayload WearsPayload text most_octets held status
  pub refused : (written : List ℕ) (number place : ℕ) (word : List ℕ) → runs.Refuses DoesPayload BarsPayload text (first_lines most_octets held) written number place word → OrNoMemory RefusedStatus status

-- where neither the source nor the sink fails
abbrev pub PayloadsComplete : PayloadText → (source source' sink sink' : Option (List ℕ)) (number : ℕ) → Type 0
PayloadsComplete text source source' sink sink' number = ByNumber (Completes (PayloadsEnd text) source source' sink sink') number
