-- The table of a BLOB Transfer Server: a definition for each message, by the phase that it comes in, and for the time event
-- (MshMBT, BLOB Transfer Server behavior; its timeout, its statuses and the pull reports as this profile sets them).
use Rattle.std.specs.Prelude.{ℕ, ◌+◌, ◌-◌, ◌*◌, ◌==◌, min, nat_lt, nat_le, not, Bool, true, false, ◌&&◌, ◌||◌, List, [], ◌∷◌, length, take, Option, Some, None, if◌then◌else◌, is_some, is_none}
use Rattle.std.specs.List.{list_any}
pub use Rattle.mu_model_wire.specs.Statuses.{success}
use Rattle.mu_model_wire.specs.Reports.{members, report_of}
use Rattle.mu_model_wire.specs.declared.reports.Report.{Report}
use Rattle.mu_model_wire.specs.declared.reports.Report.TheVariants.{All, Nothing}
use Rattle.mu_model_image.specs.Pieces.{block_length, chunk_count, chunk_length}
use Rattle.mu_model_node.specs.Slots.{Slots, empty, at, put, is_full, missing, joined}
use Rattle.mu_model_node.specs.BlobMessages.{Parameters, BlobRequest, BlobInformationGet, TransferGet, TransferStart, TransferCancel, BlockStart, BlockGet, ChunkTransfer, BlobReply, BlobInformationStatus, TransferStatus, BlockStatus, PartialBlockReport, least_log, most_log, least_chunk, most_chunk}
use Rattle.mu_model_node.specs.BlobServer.{Transfer, Link, Cut, Ready, CurrentBlock, LastBlock, PullReport, Session, unlinked, heard_at, linked, Serving, NoJob, Lacking, Whole, Server, BlobPhase, Inactive, WaitingForStart, NextBlock, NextChunk, Complete, Suspended, serving_phase, server_phase, Change, Same, Begins, Drops, Puts, serving_after}

-- the session after an event, what the event does to what is kept, and the replies, each with its destination
pub record Served : Type 0 where
  pub session : Session
  pub change : Change
  pub replies : List (ℕ × BlobReply)

-- nothing is answered, and nothing kept changes
abbrev pub silently : Session → Served
silently l = record { session = l; change = Same; replies = [] }

-- ---- statuses (MshMBT, Status)

abbrev pub invalid_block_number : ℕ
invalid_block_number = 1

abbrev pub invalid_block_size : ℕ
invalid_block_size = 2

abbrev pub invalid_chunk_size : ℕ
invalid_chunk_size = 3

abbrev pub wrong_phase : ℕ
wrong_phase = 4

abbrev pub invalid_parameter : ℕ
invalid_parameter = 5

abbrev pub wrong_blob_id : ℕ
wrong_blob_id = 6

abbrev pub blob_too_large : ℕ
blob_too_large = 7

-- ---- replies

abbrev pub mode_of : Option Parameters → ℕ
mode_of None = 0
mode_of (Some p) = p.mode

-- the Transfer Status of a phase
abbrev pub transfer_status : ℕ → BlobPhase → BlobReply
transfer_status status Inactive = TransferStatus status 0 0 None None []
transfer_status status (WaitingForStart t) = TransferStatus status 0 1 (Some t.id) None []
transfer_status status (NextBlock t p) = TransferStatus status p.mode 2 (Some t.id) (Some p) (missing t.held)
transfer_status status (NextChunk t p c) = TransferStatus status p.mode 3 (Some t.id) (Some p) (missing t.held)
transfer_status status (Complete t) = TransferStatus status (mode_of t.parameters) 4 (Some t.id) t.parameters (missing t.held)
transfer_status status (Suspended t p) = TransferStatus status p.mode 5 (Some t.id) (Some p) (missing t.held)

-- a session, a change, and the Transfer Status after both
abbrev pub tell : Server → Session → Change → ℕ → ℕ → Served
tell v l change to status =
    record { session = l; change = change; replies = (to, transfer_status status (serving_phase l (serving_after change v.serving))) ∷ [] }

-- a refusal changes nothing
abbrev pub refuse : Server → ℕ → ℕ → Served
refuse v to status = tell v v.session Same to status

-- a session, and a Block Status
abbrev pub tell_block : Session → ℕ → ℕ → ℕ → ℕ → Report → Served
tell_block l to status block size report = record { session = l; change = Same; replies = (to, BlockStatus status block size report) ∷ [] }

-- ---- BLOB Information Get

abbrev pub on_blob_information_get : Server → ℕ → Served
on_blob_information_get v to = record { session = v.session; change = Same; replies = (to, BlobInformationStatus v.capacity) ∷ [] }

-- ---- BLOB Transfer Get

abbrev pub on_transfer_get : Server → ℕ → Served
on_transfer_get v to = tell v v.session Same to success

-- ---- BLOB Transfer Start

abbrev pub same_parameters : Parameters → Parameters → Bool
same_parameters p q = (p.mode == q.mode) && (p.size == q.size) && (p.log == q.log) && (p.mtu == q.mtu)

-- whether these are the parameters that are there
abbrev pub are_parameters : Parameters → Option Parameters → Bool
are_parameters p None = false
are_parameters p (Some q) = same_parameters p q

-- the first one: the bank is begun
abbrev pub starts : Server → ℕ → Parameters → Transfer → Served
starts v to p t =
    if nat_lt v.capacity p.size then refuse v to blob_too_large
    else if nat_lt p.log least_log || nat_lt most_log p.log then refuse v to invalid_block_size
    else if not (p.size == t.size) then refuse v to invalid_parameter
    else tell v (linked v.now to v.session) (Begins p) to success

-- a transfer that stood still goes on
abbrev pub resumes : Server → ℕ → Parameters → Parameters → Served
resumes v to p q =
    if same_parameters p q then tell v (linked v.now to v.session) Same to success
    else refuse v to invalid_parameter

-- a start that was heard before
abbrev pub repeats : Server → Session → ℕ → Parameters → Transfer → Served
repeats v heard to p t =
    if are_parameters p t.parameters then tell v heard Same to success
    else refuse v to wrong_phase

-- another transfer's ID is refused
abbrev pub for_id : Server → ℕ → ℕ → Transfer → Served → Served
for_id v to id t served = if id == t.id then served else refuse v to wrong_blob_id

abbrev pub is_ready : Link → Bool
is_ready Ready = true
is_ready _ = false

abbrev pub on_transfer_start : Server → ℕ → ℕ → Parameters → BlobPhase → Served
on_transfer_start v to id p (WaitingForStart t) = for_id v to id t (starts v to p t)
on_transfer_start v to id p (Suspended t q) =
    if is_ready v.session.link then for_id v to id t (resumes v to p q) else refuse v to wrong_phase
on_transfer_start v to id p (NextBlock t q) = for_id v to id t (repeats v (heard_at v.now v.session) to p t)
on_transfer_start v to id p (NextChunk t q c) = for_id v to id t (repeats v (heard_at v.now v.session) to p t)
on_transfer_start v to id p (Complete t) = for_id v to id t (repeats v v.session to p t)
on_transfer_start v to id p Inactive = refuse v to wrong_phase

-- ---- BLOB Transfer Cancel

-- parameters and held blocks go, in a record where there are parameters
abbrev pub drop_transfer : Server → ℕ → Option Parameters → Served
drop_transfer v to None = tell v (unlinked v.session) Same to success
drop_transfer v to (Some p) = tell v (unlinked v.session) Drops to success

abbrev pub on_transfer_cancel : Server → ℕ → ℕ → Serving → Served
on_transfer_cancel v to id NoJob = tell v v.session Same to success
on_transfer_cancel v to id (Lacking t) = for_id v to id t (drop_transfer v to t.parameters)
on_transfer_cancel v to id (Whole t) = for_id v to id t (refuse v to wrong_phase)

-- ---- BLOB Block Start

-- the block is held already
abbrev pub held_again : Server → ℕ → ℕ → ℕ → Served
held_again v to block size =
    tell_block (heard_at v.now (record (v.session) { last = Some (record { number = block; chunk_size = size }) })) to success block size Nothing

-- the block becomes the current one, with no chunk received
abbrev pub opens : Server → ℕ → Parameters → ℕ → ℕ → Served
opens v to p block size =
    tell_block (heard_at v.now (record (v.session) {
      current = Some (record { number = block; chunk_size = size; chunks = empty (chunk_count (block_length p.size p.log block) size) });
      report = None;
    })) to success block size All

abbrev pub on_block_start : Server → ℕ → ℕ → ℕ → BlobPhase → Served
on_block_start v to block size (NextChunk t p c) =
    if (block == c.number) && (size == c.chunk_size)
    then tell_block (heard_at v.now v.session) to success block size (report_of (missing c.chunks))
    else tell_block v.session to wrong_phase block size All
on_block_start v to block size (NextBlock t p) =
    if nat_le (length t.held) block then tell_block v.session to invalid_block_number block size All
    else if nat_lt size least_chunk || nat_lt (min most_chunk (p.mtu - 4)) size then tell_block v.session to invalid_chunk_size block size All
    else if is_some (at t.held block) then held_again v to block size
    else opens v to p block size
on_block_start v to block size _ = tell_block v.session to wrong_phase block size All

-- ---- BLOB Block Get

-- the last block is told as one with all chunks
abbrev pub tell_last : Session → Session → ℕ → Option LastBlock → Served
tell_last l heard to None = tell_block l to wrong_phase 0 0 All
tell_last l heard to (Some b) = tell_block heard to success b.number b.chunk_size Nothing

abbrev pub on_block_get : Server → ℕ → BlobPhase → Served
on_block_get v to (NextChunk t p c) = tell_block (heard_at v.now v.session) to success c.number c.chunk_size (report_of (missing c.chunks))
on_block_get v to (NextBlock t p) = tell_last v.session (heard_at v.now v.session) to v.session.last
on_block_get v to (Complete t) = tell_last v.session v.session to v.session.last
on_block_get v to _ = tell_block v.session to wrong_phase 0 0 All

-- ---- BLOB Chunk Transfer

-- a Partial Block Report to the client, if there is one
abbrev pub to_client : Option ℕ → List ℕ → List (ℕ × BlobReply)
to_client None chunks = []
to_client (Some client) chunks = (client, PartialBlockReport chunks) ∷ []

-- in pull mode (MshMBT, Pull BLOB Transfer Mode)
abbrev pub is_pull : Parameters → Bool
is_pull p = p.mode == 2

-- all chunks are there: the block is held
abbrev pub completes : Session → Parameters → CurrentBlock → Slots → Served
completes l p c chunks = record {
  session = record l { current = None; last = Some (record { number = c.number; chunk_size = c.chunk_size }); report = None };
  change = Puts c.number (joined chunks);
  replies = if is_pull p then to_client l.client [] else [];
}

abbrev pub receives : Session → Parameters → CurrentBlock → Slots → Served
receives l p c chunks =
    if is_full chunks then completes l p c chunks
    else silently (record l { current = Some (record c { chunks = chunks }) })

abbrev pub on_chunk_transfer : Server → ℕ → List ℕ → BlobPhase → Served
on_chunk_transfer v chunk octets (NextChunk t p c) =
    if nat_le (length c.chunks) chunk then silently v.session
    else if not (length octets == chunk_length (block_length p.size p.log c.number) c.chunk_size chunk) then silently v.session
    else if is_some (at c.chunks chunk) then silently (heard_at v.now v.session)
    else receives (heard_at v.now v.session) p c (put c.chunks chunk octets)
on_chunk_transfer v chunk octets _ = silently v.session

-- ---- the time event

-- milliseconds after which a server that hears nothing cuts the link (MshMBT, Server Timeout)
abbrev pub timeout : ℕ → ℕ
timeout base = 10000 * (base + 1)

-- none was sent for this block, or none of the last one's chunks is missing still, or a second has passed since it
abbrev pub is_due : Server → CurrentBlock → Option PullReport → Bool
is_due v c None = true
is_due v c (Some last) = not (list_any (λ k. is_none (at c.chunks k)) last.chunks) || nat_le (last.moment + 1000) v.now

-- the first 16 missing chunks are asked for
abbrev pub asked_for : CurrentBlock → List ℕ
asked_for c = take 16 (members (missing c.chunks))

abbrev pub pulls : Server → CurrentBlock → Served
pulls v c =
    if is_due v c v.session.report then
    record {
      session = record (v.session) { report = Some (record { moment = v.now; chunks = asked_for c }) };
      change = Same;
      replies = to_client v.session.client (asked_for c);
    }
    else silently v.session

abbrev pub waits : Server → BlobPhase → Served
waits v (NextChunk t p c) = if is_pull p then pulls v c else silently v.session
waits v _ = silently v.session

abbrev pub times_out : Server → Transfer → Link → Served
times_out v t Cut = silently v.session
times_out v t _ =
    if nat_le (v.session.heard + timeout t.base) v.now then silently (unlinked v.session)
    else waits v (server_phase v)

abbrev pub on_server_time : Server → Serving → Served
on_server_time v (Lacking t) = times_out v t v.session.link
on_server_time v _ = silently v.session

-- ---- all messages

abbrev pub on_blob : Server → ℕ → BlobRequest → Served
on_blob v to BlobInformationGet = on_blob_information_get v to
on_blob v to TransferGet = on_transfer_get v to
on_blob v to (TransferStart id p) = on_transfer_start v to id p (server_phase v)
on_blob v to (TransferCancel id) = on_transfer_cancel v to id v.serving
on_blob v to (BlockStart block size) = on_block_start v to block size (server_phase v)
on_blob v to BlockGet = on_block_get v to (server_phase v)
on_blob v to (ChunkTransfer chunk octets) = on_chunk_transfer v chunk octets (server_phase v)
