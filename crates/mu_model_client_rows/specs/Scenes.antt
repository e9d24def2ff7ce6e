-- Of worked rows: what comes to a client, octet by octet, and what is seen of it. The client is an updater at 0001 that offers
-- 61 62 63 as version 2 under BLOB ID 1_0000_0000_0007 to 0002, and applies it; a round has 4,100 milliseconds.
use Rattle.std.specs.Prelude.{ℕ, Bool, replicate, true, ◌≡◌, ◌++◌, ◌/◌, ◌%◌, List, [], ◌∷◌, map, Option}
pub use Rattle.mu_model_node.specs.Worked.{update_apply, update_get}
pub use Rattle.mu_model_scenes.specs.Octets.{blob_information_get, block_get, block_start, high, low, id_of, information_get, transfer_start, update_cancel}
pub use Rattle.mu_model_client_laws.specs.Worked.{drops_of, image}
use Rattle.mu_model_wire.specs.Packet.{Packet}
use Rattle.mu_model_node.specs.Worked.{digest_abc}
use Rattle.mu_model_client.specs.declared.Plan.{Plan}
use Rattle.mu_model_client.specs.declared.Dropped.{Dropped}
use Rattle.mu_model_client.specs.declared.Stage.{Stage}
use Rattle.mu_model_client.specs.Client.{Receiver, Client, rows}
use Rattle.mu_model_client.specs.Rows.{Row as ReceiverRow}
use Rattle.mu_model_client.specs.Begin.{start, take_apply, take_cancel, stage_of, cause_of}
use Rattle.mu_model_client.specs.Packets.{ClientStep, client_packet, client_time}

-- ---- what comes

pub data Comes : Type 0 where
  -- a packet of a receiver
  Says : (now from : ℕ) → List ℕ → Comes
  -- time
  Passes : (now : ℕ) → Comes
  TakesApply : Comes
  TakesCancel : Comes

abbrev pub alone : Client → ClientStep
alone c = record { next = c; sent = []; handled = true }

abbrev pub step_by : List ℕ → Client → Comes → ClientStep
step_by image c (Says now from payload) = client_packet c (record { from = from; to = c.sending.from; payload = payload }) now
step_by image c (Passes now) = client_time c image now
step_by image c TakesApply = alone (take_apply c)
step_by image c TakesCancel = alone (take_cancel c)

abbrev pub after : List ℕ → Client → List Comes → Client
after image c [] = c
after image c (event ∷ events) = after image (step_by image c event).next events

-- ---- what is seen

-- phase, update status, transfer status and progress of each row
abbrev pub shown : ReceiverRow → List ℕ
shown row = row.phase ∷ row.update_status ∷ row.transfer_status ∷ row.progress ∷ []

abbrev pub rows_of : Client → List (List ℕ)
rows_of c = map shown (rows c)

abbrev pub packets_of : ClientStep → List (ℕ × List ℕ)
packets_of step = map (λ (p : Packet). (p.to, p.payload)) step.sent

-- ---- a row of a table

-- an answer of the receiver 0002; its row and its drop then; and what the time event at the same moment sends
abbrev pub Row : Type 0
Row = List ℕ × List (List ℕ) × List (Option Dropped) × List (ℕ × List ℕ)

abbrev pub row_of : List ℕ → Client → List ℕ → Row
row_of image c payload =
    let told = (step_by image c (Says 0 2 payload)).next in
    (payload, rows_of told, drops_of told, packets_of (client_time told image 0))

-- each row of the table is what the client does in this state
abbrev pub Answers : List ℕ → Client → List Row → Type 0
Answers image c rows = map (λ (row : Row). row_of image c row.0) rows ≡ rows

abbrev pub row : List ℕ → List ℕ → Option Dropped → List (ℕ × List ℕ) → Row
row payload seen drop sent = (payload, seen ∷ [], drop ∷ [], sent)

-- ---- a turn of a run

-- what comes, what is sent, and the rows, drops and stage then
abbrev pub Turn : Type 0
Turn = Comes × List (ℕ × List ℕ) × List (List ℕ) × List (Option Dropped) × Stage

abbrev pub turn_of : Comes → ClientStep → Turn
turn_of event step = (event, packets_of step, rows_of step.next, drops_of step.next, stage_of step.next)

abbrev pub turns_of : List ℕ → Client → List Turn → List Turn
turns_of image c [] = []
turns_of image c (turn ∷ turns) = turn_of turn.0 (step_by image c turn.0) ∷ turns_of image (step_by image c turn.0).next turns

abbrev pub Goes : List ℕ → Client → List Turn → Type 0
Goes image c turns = turns_of image c turns ≡ turns

abbrev pub sends : Comes → List (ℕ × List ℕ) → List (List ℕ) → List (Option Dropped) → Stage → Turn
sends event packets rows drops stage = (event, packets, rows, drops, stage)

abbrev pub quiet : Comes → List (List ℕ) → List (Option Dropped) → Stage → Turn
quiet event rows drops stage = (event, [], rows, drops, stage)

-- ---- the client of the tables

abbrev pub plan : (mode : ℕ) → Plan
plan mode = record {
  sending = record { from = 1; id = 0x0001_0000_0000_0007; size = 3; log = 12; chunk = 200; mode = mode; group = 0; ttl = 5; base = 0 };
  meta = record { size = 3; version = 2; digest = digest_abc };
  apply = true;
}

abbrev pub client : (mode : ℕ) → Client
client mode = start (plan mode) ((2, 0) ∷ [])

-- ---- what is sent

abbrev pub metadata : List ℕ
metadata = (3 ∷ 0 ∷ 0 ∷ 0 ∷ 2 ∷ 0 ∷ 0 ∷ 0 ∷ []) ++ digest_abc

abbrev pub metadata_check : List ℕ
metadata_check = 0x83 ∷ 0x0a ∷ 0 ∷ metadata

abbrev pub update_start : List ℕ
update_start = (0x83 ∷ 0x0d ∷ 5 ∷ 0 ∷ 0 ∷ []) ++ (id_of 7 ++ (0 ∷ metadata))

abbrev pub chunk : List ℕ
chunk = 0x66 ∷ 0 ∷ 0 ∷ image

-- ---- what is answered

abbrev pub metadata_status : ℕ → List ℕ
metadata_status status = 0x83 ∷ 0x0b ∷ status ∷ 0 ∷ []

-- status and phase are in the first octet
abbrev pub update_status : (first id : ℕ) → List ℕ
update_status first id = (0x83 ∷ 0x10 ∷ first ∷ 5 ∷ 0 ∷ 0 ∷ 0 ∷ []) ++ (id_of id ++ (0 ∷ []))

abbrev pub no_job_status : ℕ → List ℕ
no_job_status status = 0x83 ∷ 0x10 ∷ status ∷ []

-- a BLOB Information Status; push and pull are the bits of the last octet
abbrev pub limits : (least_log most_log most_chunks most_chunk size mtu modes : ℕ) → List ℕ
limits least_log most_log most_chunks most_chunk size mtu modes =
    0x83 ∷ 0x07 ∷ least_log ∷ most_log ∷ low most_chunks ∷ high most_chunks ∷ low most_chunk ∷ high most_chunk ∷ low size ∷ high size ∷ 0
    ∷ 0
    ∷ low mtu
    ∷ high mtu
    ∷ modes
    ∷ []

abbrev pub shown_image : List ℕ
shown_image = (0x83 ∷ 0x09 ∷ 1 ∷ 0 ∷ 0x26 ∷ 0xff ∷ 0xff ∷ 2 ∷ 0 ∷ 0 ∷ 0 ∷ []) ++ (digest_abc ++ (0 ∷ []))

-- ---- other updaters: of octets 61, as version 2 with the digest 11 .. 11

abbrev pub metadata_of : (size : ℕ) → List ℕ
metadata_of size = (low size ∷ high size ∷ 0 ∷ 0 ∷ 2 ∷ 0 ∷ 0 ∷ 0 ∷ []) ++ replicate 32 0x11

abbrev pub updater : (mode group size chunk ttl base : ℕ) → (apply : Bool) → (to : List ℕ) → Client
updater mode group size chunk ttl base apply to =
    start (record {
      sending = record { from = 1; id = 0x0001_0000_0000_0007; size = size; log = 12; chunk = chunk; mode = mode; group = group; ttl = ttl; base = base };
      meta = record { size = size; version = 2; digest = replicate 32 0x11 };
      apply = apply;
    }) (map (λ address. (address, 0)) to)

abbrev pub check_of : (size : ℕ) → List ℕ
check_of size = 0x83 ∷ 0x0a ∷ 0 ∷ metadata_of size

abbrev pub start_of : (size : ℕ) → List ℕ
start_of size = (0x83 ∷ 0x0d ∷ 5 ∷ 0 ∷ 0 ∷ []) ++ (id_of 7 ++ (0 ∷ metadata_of size))

abbrev pub transfer_of : (mode size : ℕ) → List ℕ
transfer_of mode size = (0x83 ∷ 0x01 ∷ mode ∷ []) ++ (id_of 7 ++ (low size ∷ high size ∷ 0 ∷ 0 ∷ 12 ∷ 0x7c ∷ 1 ∷ []))

abbrev pub shown_of : List ℕ
shown_of = (0x83 ∷ 0x09 ∷ 1 ∷ 0 ∷ 0x26 ∷ 0xff ∷ 0xff ∷ 2 ∷ 0 ∷ 0 ∷ 0 ∷ []) ++ (replicate 32 0x11 ++ (0 ∷ []))
