-- What the code makes of a line that holds a payload.
use Rattle.std.specs.Prelude.{◌≡◌, ℕ, List, Option, Some, None, Result, Ok, Err}
use Rattle.std.specs.Borrow.{Bor}
use Rattle.hex.specs.Hex.{decode_of}
use Rattle.mu_model_wire.specs.Fields.{Message}
use Rattle.mu_model_wire.specs.declared.Refusal.{Refusal}
use Rattle.mu_top.specs.Payloads.{bad_hex, printed, why_word}
use Rattle.mu_command_line.specs.Writing.{Wrote, WroteSome}
use Rattle.mu_top.specs.declared.payloads.PayloadText.{PayloadText}
use Rattle.mu_top.specs.declared.work.LineStop.{LineStop}
use Rattle.mu_top.specs.declared.work.LineStop.TheVariants.{Sink, Refused as RefusedLine}

-- the octets of a text of hexadecimal, or the place at which it is wrong
abbrev pub GivesOctets : Result (Bor (List ℕ)) ℕ → List ℕ → Type 0
GivesOctets (Ok octets) text = (bad_hex text ≡ None) × (decode_of text ≡ Ok octets.now)
GivesOctets (Err place) text = bad_hex text ≡ Some place

-- why a payload is refused, as a line is
abbrev pub Stopped : LineStop → Refusal → Type 0
Stopped (RefusedLine place word) refusal = (place ≡ refusal.at) × (word.now ≡ why_word refusal.why)
Stopped _ refusal = ⊥

-- what printing the message that was read comes to
abbrev pub PrintsRead : {A : Type 0} → PayloadText → Result Message Refusal → (old new : Option (List ℕ)) → Result A LineStop → Type 0
PrintsRead text (Ok m) old new (Ok _) = Wrote old new (printed text m)
PrintsRead text (Ok m) old new (Err Sink) = WroteSome old new (printed text m)
PrintsRead text (Err refusal) old new (Err stop) = Stopped stop refusal × (new ≡ old)
PrintsRead text read old new result = ⊥
