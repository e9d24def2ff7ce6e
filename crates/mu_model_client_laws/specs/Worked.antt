-- Worked rows: what a client sends, and how each drop of the client's table comes and is shown.
use Rattle.std.specs.Prelude.{ℕ, zero, suc, ◌≡◌, ◌==◌, ◌+◌, ◌*◌, Bool, true, false, List, [], ◌∷◌, ◌++◌, map, replicate, Option, Some, None, length}
use Rattle.mu_model_image.specs.declared.Meta.{Meta}
use Rattle.mu_model_image.specs.Meta.{firmware_id, own_company}
use Rattle.mu_model_wire.specs.declared.reports.Report.{Report}
use Rattle.mu_model_wire.specs.declared.reports.Report.TheVariants.{All, Nothing, List as Listed}
use Rattle.mu_model_node.specs.declared.Parameters.{Parameters}
use Rattle.mu_model_node.specs.BlobMessages.{ChunkTransfer}
use Rattle.mu_model_node.specs.UpdateMessages.{ShownJob, InformationStatus, MetadataStatus, UpdateStatus}
use Rattle.mu_model_node.specs.NodeMessages.{Request, OfBlob}
use Rattle.mu_model_client.specs.declared.Sending.{Sending}
use Rattle.mu_model_client.specs.declared.Dropped.{Dropped}
use Rattle.mu_model_client.specs.declared.Dropped.TheVariants.{Silent, Status, Barren, Phase}
use Rattle.mu_model_client.specs.declared.Stage.{Stage}
use Rattle.mu_model_client.specs.declared.Stage.TheVariants.{Transfer as StageTransfer, Verified as StageVerified, Applying as StageApplying, Canceling as StageCanceling, Ended as StageEnded}
use Rattle.mu_model_client.specs.Answers.{own_limits, InformationIs, TransferIs, BlockIs, Answer, FromUpdate, FromBlob}
use Rattle.mu_model_client.specs.Rows.{Row}
use Rattle.mu_model_client.specs.Client.{Receiver, Client, rows, is_active, is_pending}
use Rattle.mu_model_client.specs.Begin.{start, start_blob, take_cancel, stage_of, cause_of, resume}
use Rattle.mu_model_client.specs.Told.{told}
use Rattle.mu_model_client.specs.Due.{due}
use Rattle.mu_model_client_laws.specs.Laws.{ClientEvent, Time, Packet}

-- ---- events in order

abbrev pub after : List ℕ → Client → List ClientEvent → Client
after image c [] = c
after image c (Time now ∷ events) = after image (due c image now).next events
after image c (Packet from answer now ∷ events) = after image (told c from answer now) events

-- the packets of a time event after them
abbrev pub packets_after : List ℕ → Client → List ClientEvent → ℕ → List (ℕ × Request)
packets_after image c events now = (due (after image c events) image now).packets

-- ---- a BLOB client: repair by the union of what is missing

-- a block of 4096 octets in chunks of 200 for two receivers
abbrev pub blob : (group : ℕ) → Sending
blob group = record { from = 1; id = 7; size = 4096; log = 12; chunk = 200; mode = 1; group = group; ttl = 5; base = 0 }

abbrev pub octets : List ℕ
octets = replicate 4096 0x61

abbrev pub parameters_of : Sending → Parameters
parameters_of p = record { mode = p.mode; size = p.size; log = p.log; mtu = 380 }

abbrev pub information : ℕ → Answer
information capacity = FromBlob (InformationIs (own_limits capacity))

abbrev pub transfer_status : Sending → Answer
transfer_status p = FromBlob (TransferIs 0 2 (Some p.id) (Some (parameters_of p)) (1 ∷ []))

abbrev pub block_status : Report → Answer
block_status report = FromBlob (BlockIs 0 0 200 report)

abbrev pub from_both : Answer → List ClientEvent
from_both answer = Packet 2 answer 0 ∷ Packet 3 answer 0 ∷ []

-- up to the Block Get, whose answers miss chunk 3, and chunks 3 and 7; the chunks take some time events
abbrev pub two_events : (group : ℕ) → (sent : List ClientEvent) → List ClientEvent
two_events group sent =
    Time 0 ∷ from_both (information 65536) ++ (Time 0 ∷ from_both (transfer_status (blob group)) ++ (Time 0 ∷ from_both (block_status All) ++ (sent
    ++ (Time 0 ∷ Packet 2 (block_status (Listed (record { items = 3 ∷ [] }))) 0 ∷ Packet 3 (block_status (Listed (record { items = 7 ∷ 3 ∷ 3 ∷ [] }))) 0 ∷ []))))

abbrev pub two_receivers : (group : ℕ) → Client
two_receivers group = start_blob (blob group) (2 ∷ 3 ∷ [])

-- whole chunks of the BLOB
abbrev pub chunk_to : (to chunk : ℕ) → ℕ × Request
chunk_to to chunk = (to, OfBlob (ChunkTransfer chunk (replicate 200 0x61)))

-- the group gets both chunks once; without one each receiver gets what it misses
pub record RepairsTheUnion : Type 0 where
  pub grouped : packets_after octets (two_receivers 0xC000) (two_events 0xC000 (Time 0 ∷ Time 0 ∷ [])) 0 ≡ chunk_to 0xC000 3 ∷ chunk_to 0xC000 7 ∷ []
  pub alone : packets_after octets (two_receivers 0) (two_events 0 (Time 0 ∷ Time 0 ∷ Time 0 ∷ [])) 0 ≡ chunk_to 2 3 ∷ chunk_to 3 3 ∷ chunk_to 3 7 ∷ []

-- ---- an update of one receiver

abbrev pub offered : Meta
offered = record { size = 3; version = 2; digest = replicate 32 0x11 }

abbrev pub sending : (mode : ℕ) → Sending
sending mode = record { from = 1; id = 7; size = 3; log = 12; chunk = 200; mode = mode; group = 0; ttl = 5; base = 0 }

abbrev pub update : (mode : ℕ) → Client
update mode = start (record { sending = sending mode; meta = offered; apply = true }) ((2, 0) ∷ [])

abbrev pub image : List ℕ
image = 0x61 ∷ 0x62 ∷ 0x63 ∷ []

abbrev pub job : ShownJob
job = record { ttl = 5; base = 0; id = 7; index = 0 }

abbrev pub says : Answer → ClientEvent
says answer = Packet 2 answer 0

abbrev pub metadata_status : ℕ → ClientEvent
metadata_status status = says (FromUpdate (MetadataStatus status 0))

abbrev pub update_status : (status phase : ℕ) → ClientEvent
update_status status phase = says (FromUpdate (UpdateStatus status phase (Some job)))

-- each step's first time event, after the answers to those before it
abbrev pub at_check : List ClientEvent
at_check = Time 0 ∷ []

abbrev pub at_start : List ClientEvent
at_start = at_check ++ (metadata_status 0 ∷ Time 0 ∷ [])

abbrev pub at_information : List ClientEvent
at_information = at_start ++ (update_status 0 2 ∷ Time 0 ∷ [])

abbrev pub at_transfer : List ClientEvent
at_transfer = at_information ++ (says (information 4096) ∷ Time 0 ∷ [])

abbrev pub at_block : ℕ → List ClientEvent
at_block mode = at_transfer ++ (says (transfer_status (sending mode)) ∷ Time 0 ∷ [])

-- the chunks in push, or the waiting for reports in pull
abbrev pub at_chunks : ℕ → List ClientEvent
at_chunks mode = at_block mode ++ (says (block_status All) ∷ Time 0 ∷ [])

abbrev pub at_get : List ClientEvent
at_get = at_chunks 1 ++ (Time 0 ∷ [])

abbrev pub at_verify : List ClientEvent
at_verify = at_get ++ (says (block_status Nothing) ∷ Time 0 ∷ [])

abbrev pub at_apply : List ClientEvent
at_apply = at_verify ++ (update_status 0 4 ∷ Time 0 ∷ [])

abbrev pub at_confirm : List ClientEvent
at_confirm = at_apply ++ (update_status 0 6 ∷ Time 0 ∷ [])

abbrev pub shown_image : ClientEvent
shown_image = says (FromUpdate (InformationStatus 1 0 (firmware_id own_company offered ∷ [])))

-- rounds of 4100 ms
abbrev pub rounds : ℕ → List ClientEvent
rounds zero = []
rounds (suc n) = rounds n ++ (Time (4100 * (n + 1)) ∷ [])

-- ---- what is seen

-- phase, update status, transfer status and progress
abbrev pub shown : Row → List ℕ
shown row = row.phase ∷ row.update_status ∷ row.transfer_status ∷ row.progress ∷ []

abbrev pub shown_rows : Client → List (List ℕ)
shown_rows c = map shown (rows c)

-- the one receiver's row, its drop, and the client's stage
pub record Seen : Type 0 where
  pub rows : List (List ℕ)
  pub drops : List (Option Dropped)
  pub stage : Stage

abbrev pub drops_of : Client → List (Option Dropped)
drops_of c = map (λ (r : Receiver). cause_of r.standing) c.receivers

abbrev pub seen : Client → Seen
seen c = record { rows = shown_rows c; drops = drops_of c; stage = stage_of c }

abbrev pub ended_with : List ℕ → Option Dropped → Seen
ended_with row drop = record { rows = row ∷ []; drops = drop ∷ []; stage = StageEnded }

abbrev pub seen_after : ℕ → List ClientEvent → Seen
seen_after mode events = seen (after image (update mode) events)

-- ---- every step is answered

pub record Completes : Type 0 where
  pub succeeded : seen_after 1 (at_confirm ++ (shown_image ∷ Time 0 ∷ [])) ≡ ended_with (8 ∷ 0 ∷ 0 ∷ 100 ∷ []) None

-- ---- silence: five rounds of a step drop, but not in applying and cancelling

abbrev pub silent : List ClientEvent → Seen
silent events = seen_after 1 (events ++ rounds 5)

pub record DropsTheSilent : Type 0 where
  pub check : silent at_check ≡ ended_with (10 ∷ 0 ∷ 0 ∷ 0 ∷ []) (Some (Silent 1))
  pub starting : silent at_start ≡ ended_with (10 ∷ 0 ∷ 0 ∷ 0 ∷ []) (Some (Silent 2))
  pub information : silent at_information ≡ ended_with (2 ∷ 0 ∷ 0 ∷ 0 ∷ []) (Some (Silent 3))
  pub transfer : silent at_transfer ≡ ended_with (2 ∷ 0 ∷ 0 ∷ 0 ∷ []) (Some (Silent 4))
  pub block : silent (at_block 1) ≡ ended_with (2 ∷ 0 ∷ 0 ∷ 0 ∷ []) (Some (Silent 5))
  pub pull : seen_after 2 (at_chunks 2 ++ rounds 5) ≡ ended_with (2 ∷ 0 ∷ 0 ∷ 0 ∷ []) (Some (Silent 6))
  pub get : silent at_get ≡ ended_with (2 ∷ 0 ∷ 0 ∷ 0 ∷ []) (Some (Silent 7))
  pub verify : silent at_verify ≡ ended_with (2 ∷ 0 ∷ 0 ∷ 100 ∷ []) (Some (Silent 8))
  -- the row that isn't confirmed becomes Apply Failed
  pub confirm : silent at_confirm ≡ ended_with (9 ∷ 0 ∷ 0 ∷ 100 ∷ []) (Some (Silent 10))
  -- four rounds drop nobody
  pub four : drops_of (after image (update 1) (at_check ++ rounds 4)) ≡ None ∷ []
  -- the silent goes on to be asked for its image
  pub apply : seen_after 1 (at_apply ++ rounds 5) ≡ record { rows = (4 ∷ 0 ∷ 0 ∷ 100 ∷ []) ∷ []; drops = None ∷ []; stage = StageApplying }
  pub cancel : seen (after image (take_cancel (after image (update 1) at_transfer)) (Time 0 ∷ rounds 5)) ≡ ended_with (7 ∷ 0 ∷ 0 ∷ 0 ∷ []) None

-- ---- refusals

abbrev pub limits : (least_log most_log most_chunks most_chunk most_size mtu : ℕ) → (push : Bool) → ClientEvent
limits least_log most_log most_chunks most_chunk most_size mtu push = says (FromBlob (InformationIs (record {
  least_log = least_log;
  most_log = most_log;
  most_chunks = most_chunks;
  most_chunk = most_chunk;
  most_size = most_size;
  mtu = mtu;
  push = push;
  pull = true;
})))

abbrev pub refused : ℕ → List ClientEvent → ClientEvent → Seen
refused mode events event = seen_after mode (events ++ (event ∷ Time 0 ∷ []))

abbrev pub block_refused : ℕ → ClientEvent
block_refused status = says (FromBlob (BlockIs status 0 200 All))

pub record DropsByStatus : Type 0 where
  -- an equal version, for one: the row shows the update status
  pub check : refused 1 at_check (metadata_status 5) ≡ ended_with (10 ∷ 5 ∷ 0 ∷ 0 ∷ []) (Some (Status 1 5))
  pub starting : refused 1 at_start (update_status 2 2) ≡ ended_with (2 ∷ 2 ∷ 0 ∷ 0 ∷ []) (Some (Status 2 2))
  -- too large; a log out of its limits, below and above; chunks too large for the server, for its messages, and too many; no push
  pub size : refused 1 at_information (limits 12 14 2048 376 2 380 true) ≡ ended_with (2 ∷ 0 ∷ 7 ∷ 0 ∷ []) (Some (Status 3 7))
  pub low_log : refused 1 at_information (limits 13 14 2048 376 4096 380 true) ≡ ended_with (2 ∷ 0 ∷ 2 ∷ 0 ∷ []) (Some (Status 3 2))
  pub high_log : refused 1 at_information (limits 6 11 2048 376 4096 380 true) ≡ ended_with (2 ∷ 0 ∷ 2 ∷ 0 ∷ []) (Some (Status 3 2))
  pub chunk : refused 1 at_information (limits 12 14 2048 199 4096 380 true) ≡ ended_with (2 ∷ 0 ∷ 3 ∷ 0 ∷ []) (Some (Status 3 3))
  pub mtu : refused 1 at_information (limits 12 14 2048 376 4096 203 true) ≡ ended_with (2 ∷ 0 ∷ 3 ∷ 0 ∷ []) (Some (Status 3 3))
  pub chunks : refused 1 at_information (limits 12 14 20 376 4096 380 true) ≡ ended_with (2 ∷ 0 ∷ 3 ∷ 0 ∷ []) (Some (Status 3 3))
  pub mode : refused 1 at_information (limits 12 14 2048 376 4096 380 false) ≡ ended_with (2 ∷ 0 ∷ 8 ∷ 0 ∷ []) (Some (Status 3 8))
  pub transfer : refused 1 at_transfer (says (FromBlob (TransferIs 6 0 None None []))) ≡ ended_with (2 ∷ 0 ∷ 6 ∷ 0 ∷ []) (Some (Status 4 6))
  pub block : refused 1 (at_block 1) (block_refused 4) ≡ ended_with (2 ∷ 0 ∷ 4 ∷ 0 ∷ []) (Some (Status 5 4))
  pub pull : refused 2 (at_chunks 2) (block_refused 4) ≡ ended_with (2 ∷ 0 ∷ 4 ∷ 0 ∷ []) (Some (Status 6 4))
  pub get : refused 1 at_get (block_refused 4) ≡ ended_with (2 ∷ 0 ∷ 4 ∷ 0 ∷ []) (Some (Status 7 4))
  pub apply : refused 1 at_apply (update_status 2 4) ≡ ended_with (4 ∷ 2 ∷ 0 ∷ 100 ∷ []) (Some (Status 9 2))

-- and so with each other status of the steps that have one (MshDFU, MshMBT, Status)
abbrev pub update_statuses : List ℕ
update_statuses = 1 ∷ 2 ∷ 3 ∷ 4 ∷ 5 ∷ 6 ∷ 7 ∷ []

abbrev pub transfer_statuses : List ℕ
transfer_statuses = 1 ∷ 2 ∷ 3 ∷ 4 ∷ 5 ∷ 6 ∷ 7 ∷ 8 ∷ 9 ∷ 10 ∷ []

abbrev pub transfer_refused : ℕ → ClientEvent
transfer_refused status = says (FromBlob (TransferIs status 0 None None []))

-- a row of this phase and progress, with the status in its place
abbrev pub by_update : (step phase progress : ℕ) → ℕ → Seen
by_update step phase progress status = ended_with (phase ∷ status ∷ 0 ∷ progress ∷ []) (Some (Status step status))

abbrev pub by_transfer : (step : ℕ) → ℕ → Seen
by_transfer step status = ended_with (2 ∷ 0 ∷ status ∷ 0 ∷ []) (Some (Status step status))

pub record EachStatusDrops : Type 0 where
  pub check : map (λ status. refused 1 at_check (metadata_status status)) update_statuses ≡ map (by_update 1 10 0) update_statuses
  pub starting : map (λ status. refused 1 at_start (update_status status 2)) update_statuses ≡ map (by_update 2 2 0) update_statuses
  pub transfer : map (λ status. refused 1 at_transfer (transfer_refused status)) transfer_statuses ≡ map (by_transfer 4) transfer_statuses
  pub block : map (λ status. refused 1 (at_block 1) (block_refused status)) transfer_statuses ≡ map (by_transfer 5) transfer_statuses
  pub pull : map (λ status. refused 2 (at_chunks 2) (block_refused status)) transfer_statuses ≡ map (by_transfer 6) transfer_statuses
  pub get : map (λ status. refused 1 at_get (block_refused status)) transfer_statuses ≡ map (by_transfer 7) transfer_statuses
  pub apply : map (λ status. refused 1 at_apply (update_status status 4)) update_statuses ≡ map (by_update 9 4 100) update_statuses

-- ---- barren answers, and phases

-- the chunks are sent again, and are missing again
abbrev pub fruitless : ℕ → List ClientEvent
fruitless zero = []
fruitless (suc n) = fruitless n ++ (says (block_status All) ∷ Time 0 ∷ Time 0 ∷ [])

pub record DropsOthers : Type 0 where
  pub barren : seen_after 1 (at_get ++ fruitless 5) ≡ ended_with (2 ∷ 0 ∷ 0 ∷ 0 ∷ []) (Some Barren)
  pub four : drops_of (after image (update 1) (at_get ++ fruitless 4)) ≡ None ∷ []
  pub transfer_error : refused 1 at_verify (update_status 0 1) ≡ ended_with (1 ∷ 0 ∷ 0 ∷ 100 ∷ []) (Some (Phase 1))
  pub verification_failed : refused 1 at_verify (update_status 0 5) ≡ ended_with (5 ∷ 0 ∷ 0 ∷ 100 ∷ []) (Some (Phase 5))
  -- while it verifies it isn't silent
  pub verifying : drops_of (after image (update 1) (at_verify ++ (rounds 4 ++ (update_status 0 3 ∷ Time 20500 ∷ [])))) ≡ None ∷ []

-- ---- going on after a boot

abbrev pub row_in : (phase update_status transfer_status : ℕ) → Row
row_in phase update_status transfer_status =
    record { address = 2; index = 0; phase = phase; update_status = update_status; transfer_status = transfer_status; progress = 40 }

-- each phase once, and a row with each status
abbrev pub all_rows : List Row
all_rows =
    row_in 10 0 0 ∷ row_in 1 0 0 ∷ row_in 2 0 0 ∷ row_in 3 0 0 ∷ row_in 4 0 0 ∷ row_in 5 0 0 ∷ row_in 6 0 0 ∷ row_in 7 0 0 ∷ row_in 8 0 0 ∷ row_in 9 0 0
    ∷ row_in 2 5 0 ∷ row_in 2 0 7 ∷ []

abbrev pub resumed_at : Stage → Client
resumed_at stage = resume (record { sending = sending 1; meta = offered; apply = true }) all_rows stage

abbrev pub active_in : Stage → List Bool
active_in stage = map is_active (resumed_at stage).receivers

-- how many packets the first time event sends
abbrev pub first_packets : Stage → ℕ
first_packets stage = length (due (resumed_at stage) image 0).packets

-- whom it goes on with, and what it sends; rows stay as they are, progress included
pub record GoesOn : Type 0 where
  pub transfer :
      active_in StageTransfer ≡ true ∷ true ∷ true ∷ true ∷ true ∷ false ∷ true ∷ false ∷ false ∷ false ∷ false ∷ false ∷ []
  pub verified :
      active_in StageVerified ≡ false ∷ false ∷ false ∷ false ∷ true ∷ false ∷ true ∷ false ∷ false ∷ false ∷ false ∷ false ∷ []
  pub applying :
      active_in StageApplying ≡ false ∷ false ∷ false ∷ false ∷ true ∷ false ∷ true ∷ false ∷ false ∷ false ∷ false ∷ false ∷ []
  pub canceling :
      active_in StageCanceling ≡ false ∷ false ∷ false ∷ false ∷ false ∷ false ∷ false ∷ false ∷ false ∷ false ∷ false ∷ false ∷ []
  pub rows_stay : rows (resumed_at StageTransfer) ≡ all_rows
  pub sent : map first_packets (StageTransfer ∷ StageVerified ∷ StageApplying ∷ StageCanceling ∷ StageEnded ∷ []) ≡ 6 ∷ 0 ∷ 2 ∷ 1 ∷ 0 ∷ []
  pub stages : map (λ stage. stage_of (resumed_at stage)) (StageTransfer ∷ StageVerified ∷ StageApplying ∷ StageCanceling ∷ StageEnded ∷ []) ≡ StageTransfer ∷ StageVerified ∷ StageApplying ∷ StageCanceling ∷ StageEnded ∷ []

-- ---- cancelling

-- told everything that could raise a row: in cancelling no row moves, and the round alone is told. The row that is asked, the
-- canceled one, stops being pending by an Update Status in phase Idle
abbrev pub told_all : List ClientEvent
told_all = Time 0 ∷ update_status 0 4 ∷ update_status 0 6 ∷ shown_image ∷ says (FromUpdate (UpdateStatus 0 0 None)) ∷ []

abbrev pub pending_in : Client → List Bool
pending_in c = map is_pending c.receivers

pub record CancellingTellsTheRound : Type 0 where
  pub rows_stay : rows (after image (resumed_at StageCanceling) told_all) ≡ all_rows
  pub asked : pending_in (after image (resumed_at StageCanceling) (Time 0 ∷ [])) ≡ map (λ (row : Row). row.phase == 7) all_rows
  pub answered : pending_in (after image (resumed_at StageCanceling) told_all) ≡ map (λ (row : Row). false) all_rows
  -- while it is present, each counts: the rows of lower rank become 4, then 6, and those in 1 to 6 Apply Success
  pub present : map (λ (row : Row). row.phase) (rows (after image (resumed_at StageTransfer) told_all)) ≡ 8 ∷ 8 ∷ 8 ∷ 8 ∷ 8 ∷ 8 ∷ 8 ∷ 7 ∷ 8 ∷ 9 ∷ 8 ∷ 8 ∷ []
