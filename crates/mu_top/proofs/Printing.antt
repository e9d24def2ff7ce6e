-- What is printed of the message that octets spell.
use Rattle.std.proofs.Common.{◌≡◌, ℕ, ◌≤◌, List, length, Bool, true, false, Option, None, Result, Ok, Err, refl, subst, arith}
use Rattle.std.specs.Prelude.{nat_lt, IfErr, OnOk}
use Rattle.std.proofs.lemmas.Bool.{ltb-true}
use Rattle.hex.specs.Hex.{decode_of}
use Rattle.mu_access.specs.Read.{ShowsRead, canonical_of}
use Rattle.mu_model_flash.specs.Cause.{HasCause}
use Rattle.mu_model_flash.specs.declared.Failed.{Failed}
use Rattle.mu_model_script.specs.Lines.{is_silent}
use Rattle.mu_model_wire.specs.Fields.{Message}
use Rattle.mu_model_wire.specs.Reading.{message_at}
use Rattle.mu_model_wire.specs.Spelling.{spelling}
use Rattle.mu_model_wire.specs.Table.{rows}
use Rattle.mu_model_wire.specs.declared.Refusal.{Refusal}
use Rattle.mu_top.specs.LineDone.{DidLine, StopsLine}
use Rattle.mu_top.specs.PayloadDone.{PrintsRead, Stopped}
use Rattle.mu_top.specs.Payloads.{DoesPayload, BarsPayload, WearsPayload, bad_hex, of_reading, payload_line, printed}
use Rattle.mu_command_line.specs.Writing.{Wrote, WroteSome}
use Rattle.mu_top.specs.declared.payloads.PayloadText.{PayloadText}
use Rattle.mu_top.specs.declared.payloads.PayloadText.TheVariants.{Canonical, Shown}
use Rattle.mu_top.specs.declared.work.LineStop.{LineStop}
use Rattle.mu_top.specs.declared.work.LineStop.TheVariants.{Memory, Worn, Sink, Refused as RefusedLine}

-- ---- what was read is shown

pub shown_cause : {A : Type 0} (old new : Option (List ℕ)) (before now : ℕ) (shown : Result A Failed) (read : Result Message Refusal) → ShowsRead old new before now shown read → HasCause before now shown
shown_cause old new before now shown (Ok m) shows = shows.cause
shown_cause old new before now shown (Err refusal) shows = absurd shows

pub shown_done : {A : Type 0} (x : A) (old new : Option (List ℕ)) (before now : ℕ) (read : Result Message Refusal) → ShowsRead {A = A} old new before now (Ok x) read → PrintsRead {A = A} Shown read old new (Ok x)
shown_done x old new before now (Ok m) shows = shows.ok
shown_done x old new before now (Err refusal) shows = absurd shows

pub shown_cut : (A : Type 0) (e : Failed) (old new : Option (List ℕ)) (before now : ℕ) (read : Result Message Refusal) → ShowsRead {A = A} old new before now (Err e) read → PrintsRead {A = A} Shown read old new (Err Sink)
shown_cut A e old new before now (Ok m) shows = shows.err
shown_cut A e old new before now (Err refusal) shows = absurd shows

-- ---- its canonical octets are written

pub canonical_done : {A : Type 0} (x : A) (octets : List ℕ) (old new : Option (List ℕ)) (read : Result Message Refusal) → canonical_of read ≡ Ok octets
    → ((m : Message) → octets ≡ spelling rows m → Wrote old new (printed Canonical m)) → PrintsRead {A = A} Canonical read old new (Ok x)
canonical_done x octets old new (Ok m) is wrote =
    let same : octets ≡ spelling rows m = cc in
    wrote m same
canonical_done x octets old new (Err refusal) is wrote = absurd cc

pub canonical_cut : (A : Type 0) (octets : List ℕ) (old new : Option (List ℕ)) (read : Result Message Refusal) → canonical_of read ≡ Ok octets
    → ((m : Message) → octets ≡ spelling rows m → WroteSome old new (printed Canonical m)) → PrintsRead {A = A} Canonical read old new (Err Sink)
canonical_cut A octets old new (Ok m) is wrote =
    let same : octets ≡ spelling rows m = cc in
    wrote m same
canonical_cut A octets old new (Err refusal) is wrote = absurd cc

pub refused_alike : (A : Type 0) (text : PayloadText) (refusal : Refusal) (stop : LineStop) (o : Option (List ℕ)) (read : Result Message Refusal) → canonical_of read ≡ Err refusal → Stopped stop refusal → PrintsRead {A = A} text read o o (Err stop)
refused_alike A text refusal stop o (Ok m) is stopped = absurd cc
refused_alike A text refusal stop o (Err other) is stopped =
    let same : refusal ≡ other = cc in
    (subst (λ (r : Refusal). Stopped stop r) same stopped, refl)

-- ---- a line of a payload

-- what a line holds
pub line_holds : (line octets : List ℕ) → length line ≤ 4096 → is_silent line ≡ false → bad_hex line ≡ None → decode_of line ≡ Ok octets → payload_line line ≡ of_reading (message_at rows octets)
line_holds line octets short said good decoded = by (nat_lt 4096 (length line)) refl
  where
    by : (b : Bool) → nat_lt 4096 (length line) ≡ b → payload_line line ≡ of_reading (message_at rows octets)
    by true long = absurd (omega (arith, ltb-true _ _ long, short))
    by false e = rw (e, said, good, decoded) refl

pub printed_did : {A : Type 0} (w : PayloadText) (line : List ℕ) (old new : Option (List ℕ)) (read : Result Message Refusal) (result : Result A LineStop) → payload_line line ≡ of_reading read
    → PrintsRead w read old new result → OnOk result (DidLine DoesPayload w line w old new)
printed_did w line old new (Ok m) (Ok x) is prints = record { text = printed w m; does = (refl, rw is refl); wrote = prints }
printed_did w line old new (Ok m) (Err e) is prints = tt
printed_did w line old new (Err refusal) (Ok x) is prints = absurd prints
printed_did w line old new (Err refusal) (Err e) is prints = tt

pub printed_stops : {A : Type 0} (w : PayloadText) (line : List ℕ) (old new : Option (List ℕ)) (read : Result Message Refusal) (result : Result A LineStop) → payload_line line ≡ of_reading read
    → PrintsRead w read old new result → IfErr result (StopsLine DoesPayload BarsPayload WearsPayload w line old new)
printed_stops w line old new read (Ok x) is prints = tt
printed_stops w line old new (Ok m) (Err Sink) is prints = record { next = w; text = printed w m; does = (refl, rw is refl); wrote = prints }
printed_stops w line old new (Ok m) (Err Memory) is prints = absurd prints
printed_stops w line old new (Ok m) (Err Worn) is prints = absurd prints
printed_stops w line old new (Ok m) (Err (RefusedLine place word)) is prints = absurd prints
printed_stops w line old new (Err refusal) (Err (RefusedLine place word)) is prints = (rw (is, prints.0.0, prints.0.1) refl, prints.1)
printed_stops w line old new (Err refusal) (Err Sink) is prints = absurd prints.0
printed_stops w line old new (Err refusal) (Err Memory) is prints = absurd prints.0
printed_stops w line old new (Err refusal) (Err Worn) is prints = absurd prints.0

pub no_memory : {A : Type 0} (w : PayloadText) (old new : Option (List ℕ)) (read : Result Message Refusal) (result : Result A LineStop) → PrintsRead w read old new result → IfErr result (λ stop. stop ≡ Memory → ⊥)
no_memory w old new read (Ok x) prints = tt
no_memory w old new (Ok m) (Err Sink) prints = λ is. absurd cc
no_memory w old new (Ok m) (Err Memory) prints = absurd prints
no_memory w old new (Ok m) (Err Worn) prints = absurd prints
no_memory w old new (Ok m) (Err (RefusedLine place word)) prints = absurd prints
no_memory w old new (Err refusal) (Err (RefusedLine place word)) prints = λ is. absurd cc
no_memory w old new (Err refusal) (Err Sink) prints = absurd prints.0
no_memory w old new (Err refusal) (Err Memory) prints = absurd prints.0
no_memory w old new (Err refusal) (Err Worn) prints = absurd prints.0
