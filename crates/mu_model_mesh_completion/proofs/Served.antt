-- What a node's BLOB server comes to is in the ranges of the grammar.
use Rattle.std.proofs.Common.{◌≡◌, ◌≤◌, ◌<◌, ◌^◌, ◌+◌, ◌-◌, ℕ, Bool, true, false, List, [], length, refl, cond, arith, Option, Some, None, ◌⊎◌, inl, inr}
use Rattle.std.specs.Prelude.{◌==◌, ◌&&◌, ◌||◌, nat_lt, nat_le, min, not, is_some}
use Rattle.std.specs.List.{AllByRecursion}
use Rattle.mu_model_wire.specs.Reports.{members}
use Rattle.mu_model_wire.specs.declared.reports.Report.{Report}
use Rattle.mu_model_wire.specs.declared.reports.Report.TheVariants.{All, Nothing}
use Rattle.mu_model_image.specs.Pieces.{block_length, chunk_length}
use Rattle.mu_model_node.specs.declared.LastBlock.{LastBlock}
use Rattle.mu_model_node.specs.declared.Link.{Link}
use Rattle.mu_model_node.specs.declared.Link.TheVariants.{Cut, Ready, Running}
use Rattle.mu_model_node.specs.declared.Parameters.{Parameters}
use Rattle.mu_model_node.specs.BlobMessages.{BlobRequest, BlobInformationGet, TransferGet, TransferStart, TransferCancel, BlockStart, BlockGet, ChunkTransfer, BlobReply, PartialBlockReport, least_log, most_log, least_chunk, most_chunk}
use Rattle.mu_model_node.specs.Slots.{Slots, at, put, is_full, missing}
use Rattle.mu_model_node.specs.BlobServer.{Transfer, CurrentBlock, Session, unlinked, heard_at, linked, Serving, NoJob, Lacking, Whole, Server, BlobPhase, Inactive, WaitingForStart, NextBlock, NextChunk, Complete, Suspended, serving_phase, server_phase, Change, Same, Begins, Drops, serving_after}
use Rattle.mu_model_node.specs.BlobTable as b
use Rattle.mu_model_node.specs.BlobTable.{Served, transfer_status, on_blob, on_server_time}
use Rattle.mu_model_node.specs.Sound.{IsPhase}
use Rattle.mu_model_client_laws.specs.Wire.{BlobInRange}
use Rattle.mu_model_mesh_completion.specs.Settled.{HasLast}
use Rattle.mu_model_mesh_completion.proofs.Replies.{BlobFits, ReportFits}
use Rattle.mu_model_mesh_completion.proofs.Shown.{members_small, taken_small, taken_few, report_fits, missing_few}

abbrev ChangeFits : Change → Type 0
ChangeFits (Begins p) = p.mtu < 2 ^ 16
ChangeFits _ = Unit {0}

-- a Transfer Status tells this phase, and another reply is in its ranges
abbrev pub Tells : BlobPhase → BlobReply → Type 0
Tells phase reply = ((status : ℕ) × (status ≤ 10) × (reply ≡ transfer_status status phase)) ⊎ BlobFits reply

abbrev AllTell : BlobPhase → List (ℕ × BlobReply) → Type 0
AllTell phase replies = AllByRecursion (λ (r : ℕ × BlobReply). Tells phase r.1) replies

pub record ServedFits (v : Server) (o : Served) : Type 0 where
  pub change : ChangeFits o.change
  pub last : HasLast o.session.last
  pub replies : AllTell (serving_phase o.session (serving_after o.change v.serving)) o.replies

told : (v : Server) (l : Session) (c : Change) (to status : ℕ) → ChangeFits c → HasLast l.last → status ≤ 10 → ServedFits v (b.tell v l c to status)
told v l c to status f h s = record { change = f; last = h; replies = (inl (status, s, refl), tt) }

refused : (v : Server) (to status : ℕ) → HasLast v.session.last → status ≤ 10 → ServedFits v (b.refuse v to status)
refused v to status h s = told v v.session Same to status tt h s

block_told : (v : Server) (l : Session) (to status block size : ℕ) (report : Report) → HasLast l.last → status ≤ 10 → block < 2 ^ 16 → size < 2 ^ 16 → ReportFits report → ServedFits v (b.tell_block l to status block size report)
block_told v l to status block size report h s k c r = record { change = tt; last = h; replies = (inr (s, k, c, r), tt) }

quiet : (v : Server) (l : Session) → HasLast l.last → ServedFits v (b.silently l)
quiet v l h = record { change = tt; last = h; replies = tt }

either : (v : Server) (test : Bool) (x y : Served) → ServedFits v x → ServedFits v y → ServedFits v (cond test x y)
either v true x y h k = h
either v false x y h k = k

-- ---- transfers

starts_fit : (v : Server) (to : ℕ) (p : Parameters) (t : Transfer) → HasLast v.session.last → p.mtu < 2 ^ 16 → ServedFits v (b.starts v to p t)
starts_fit v to p t h m =
    either v (nat_lt v.capacity p.size) _ _ (refused v to 7 h (omega arith))
    (either v (nat_lt p.log least_log || nat_lt most_log p.log) _ _ (refused v to 2 h (omega arith))
    (either v (not (p.size == t.size)) _ _ (refused v to 5 h (omega arith)) (told v (linked v.now to v.session) (Begins p) to 0 m h (omega arith))))

for_id_fits : (v : Server) (to id : ℕ) (t : Transfer) (x : Served) → HasLast v.session.last → ServedFits v x → ServedFits v (b.for_id v to id t x)
for_id_fits v to id t x h k = either v (id == t.id) _ _ k (refused v to 6 h (omega arith))

repeats_fit : (v : Server) (l : Session) (to : ℕ) (p : Parameters) (t : Transfer) → HasLast v.session.last → HasLast l.last → ServedFits v (b.repeats v l to p t)
repeats_fit v l to p t h k = either v (b.are_parameters p t.parameters) _ _ (told v l Same to 0 tt k (omega arith)) (refused v to 4 h (omega arith))

resumes_fit : (v : Server) (to : ℕ) (p q : Parameters) → HasLast v.session.last → ServedFits v (b.resumes v to p q)
resumes_fit v to p q h = either v (b.same_parameters p q) _ _ (told v (linked v.now to v.session) Same to 0 tt h (omega arith)) (refused v to 5 h (omega arith))

start_fits : (v : Server) (to id : ℕ) (p : Parameters) (phase : BlobPhase) → HasLast v.session.last → p.mtu < 2 ^ 16 → ServedFits v (b.on_transfer_start v to id p phase)
start_fits v to id p (WaitingForStart t) h m = for_id_fits v to id t (b.starts v to p t) h (starts_fit v to p t h m)
start_fits v to id p (Suspended t q) h m =
    either v (b.is_ready v.session.link) _ _ (for_id_fits v to id t (b.resumes v to p q) h (resumes_fit v to p q h)) (refused v to 4 h (omega arith))
start_fits v to id p (NextBlock t q) h m = for_id_fits v to id t (b.repeats v (heard_at v.now v.session) to p t) h (repeats_fit v (heard_at v.now v.session) to p t h h)
start_fits v to id p (NextChunk t q c) h m = for_id_fits v to id t (b.repeats v (heard_at v.now v.session) to p t) h (repeats_fit v (heard_at v.now v.session) to p t h h)
start_fits v to id p (Complete t) h m = for_id_fits v to id t (b.repeats v v.session to p t) h (repeats_fit v v.session to p t h h)
start_fits v to id p Inactive h m = refused v to 4 h (omega arith)

drop_fits : (v : Server) (to : ℕ) (p : Option Parameters) → ServedFits v (b.drop_transfer v to p)
drop_fits v to None = told v (unlinked v.session) Same to 0 tt tt (omega arith)
drop_fits v to (Some p) = told v (unlinked v.session) Drops to 0 tt tt (omega arith)

cancel_fits : (v : Server) (to id : ℕ) (serving : Serving) → HasLast v.session.last → ServedFits v (b.on_transfer_cancel v to id serving)
cancel_fits v to id NoJob h = told v v.session Same to 0 tt h (omega arith)
cancel_fits v to id (Lacking t) h = for_id_fits v to id t (b.drop_transfer v to t.parameters) h (drop_fits v to t.parameters)
cancel_fits v to id (Whole t) h = for_id_fits v to id t (b.refuse v to 4) h (refused v to 4 h (omega arith))

-- ---- blocks

block_fits : (v : Server) (to block size : ℕ) (phase : BlobPhase) → HasLast v.session.last → IsPhase phase → block < 2 ^ 16 → size < 2 ^ 16 → ServedFits v (b.on_block_start v to block size phase)
block_fits v to block size (NextChunk t p c) h s k l =
    either v ((block == c.number) && (size == c.chunk_size)) _ _
    (block_told v (heard_at v.now v.session) to 0 block size _ h (omega arith) k l (report_fits (missing c.chunks) (missing_few c.chunks s.few_chunks)))
    (block_told v v.session to 4 block size All h (omega arith) k l tt)
block_fits v to block size (NextBlock t p) h s k l =
    either v (nat_le (length t.held) block) _ _ (block_told v v.session to 1 block size All h (omega arith) k l tt)
    (either v (nat_lt size least_chunk || nat_lt (min most_chunk (p.mtu - 4)) size) _ _ (block_told v v.session to 3 block size All h (omega arith) k l tt)
    (either v (is_some (at t.held block)) _ _
    (block_told v (heard_at v.now (record (v.session) { last = Some (record { number = block; chunk_size = size }) })) to 0 block size Nothing (k, l) (omega arith) k l tt)
    (block_told v _ to 0 block size All h (omega arith) k l tt)))
block_fits v to block size Inactive h s k l = block_told v v.session to 4 block size All h (omega arith) k l tt
block_fits v to block size (WaitingForStart t) h s k l = block_told v v.session to 4 block size All h (omega arith) k l tt
block_fits v to block size (Complete t) h s k l = block_told v v.session to 4 block size All h (omega arith) k l tt
block_fits v to block size (Suspended t p) h s k l = block_told v v.session to 4 block size All h (omega arith) k l tt

last_fits : (v : Server) (l heard : Session) (to : ℕ) (last : Option LastBlock) → HasLast l.last → HasLast heard.last → HasLast last → ServedFits v (b.tell_last l heard to last)
last_fits v l heard to None h k m = block_told v l to 4 0 0 All h (omega arith) (omega arith) (omega arith) tt
last_fits v l heard to (Some last) h k m = block_told v heard to 0 last.number last.chunk_size Nothing k (omega arith) m.0 m.1 tt

get_fits : (v : Server) (to : ℕ) (phase : BlobPhase) → HasLast v.session.last → IsPhase phase → ServedFits v (b.on_block_get v to phase)
get_fits v to (NextChunk t p c) h s =
    block_told v (heard_at v.now v.session) to 0 c.number c.chunk_size _ h (omega arith) (omega (arith, s.current.number, s.transfer.few_blocks)) (omega (arith, s.current.size_below)) (report_fits (missing c.chunks) (missing_few c.chunks s.few_chunks))
get_fits v to (NextBlock t p) h s = last_fits v v.session (heard_at v.now v.session) to v.session.last h h h
get_fits v to (Complete t) h s = last_fits v v.session v.session to v.session.last h h h
get_fits v to Inactive h s = block_told v v.session to 4 0 0 All h (omega arith) (omega arith) (omega arith) tt
get_fits v to (WaitingForStart t) h s = block_told v v.session to 4 0 0 All h (omega arith) (omega arith) (omega arith) tt
get_fits v to (Suspended t p) h s = block_told v v.session to 4 0 0 All h (omega arith) (omega arith) (omega arith) tt

-- ---- chunks

to_client_tells : (phase : BlobPhase) (client : Option ℕ) (chunks : List ℕ) → BlobFits (PartialBlockReport chunks) → AllTell phase (b.to_client client chunks)
to_client_tells phase None chunks h = tt
to_client_tells phase (Some client) chunks h = (inr h, tt)

if_pull : (phase : BlobPhase) (test : Bool) (client : Option ℕ) → AllTell phase (cond test (b.to_client client []) [])
if_pull phase true client = to_client_tells phase client [] (tt, omega arith)
if_pull phase false client = tt

completes_fit : (v : Server) (l : Session) (p : Parameters) (c : CurrentBlock) (chunks : Slots) → c.number < 2 ^ 16 → c.chunk_size < 2 ^ 16 → ServedFits v (b.completes l p c chunks)
completes_fit v l p c chunks n s = record { change = tt; last = (n, s); replies = if_pull _ (b.is_pull p) l.client }

receives_fit : (v : Server) (l : Session) (p : Parameters) (c : CurrentBlock) (chunks : Slots) → HasLast l.last → c.number < 2 ^ 16 → c.chunk_size < 2 ^ 16 → ServedFits v (b.receives l p c chunks)
receives_fit v l p c chunks h n s = either v (is_full chunks) _ _ (completes_fit v l p c chunks n s) (quiet v _ h)

chunk_fits : (v : Server) (chunk : ℕ) (octets : List ℕ) (phase : BlobPhase) → HasLast v.session.last → IsPhase phase → ServedFits v (b.on_chunk_transfer v chunk octets phase)
chunk_fits v chunk octets (NextChunk t p c) h s =
    either v (nat_le (length c.chunks) chunk) _ _ (quiet v v.session h)
    (either v (not (length octets == chunk_length (block_length p.size p.log c.number) c.chunk_size chunk)) _ _ (quiet v v.session h)
    (either v (is_some (at c.chunks chunk)) _ _ (quiet v (heard_at v.now v.session) h)
    (receives_fit v (heard_at v.now v.session) p c (put c.chunks chunk octets) h (omega (arith, s.current.number, s.transfer.few_blocks)) (omega (arith, s.current.size_below)))))
chunk_fits v chunk octets Inactive h s = quiet v v.session h
chunk_fits v chunk octets (WaitingForStart t) h s = quiet v v.session h
chunk_fits v chunk octets (NextBlock t p) h s = quiet v v.session h
chunk_fits v chunk octets (Complete t) h s = quiet v v.session h
chunk_fits v chunk octets (Suspended t p) h s = quiet v v.session h

-- ---- all messages

pub blob_fits : (v : Server) (to : ℕ) (request : BlobRequest) → v.capacity < 2 ^ 32 → HasLast v.session.last → IsPhase (server_phase v) → BlobInRange request → ServedFits v (on_blob v to request)
blob_fits v to BlobInformationGet c h s k = record { change = tt; last = h; replies = (inr c, tt) }
blob_fits v to TransferGet c h s k = told v v.session Same to 0 tt h (omega arith)
blob_fits v to (TransferStart id p) c h s k = start_fits v to id p (server_phase v) h k.1.mtu_most
blob_fits v to (TransferCancel id) c h s k = cancel_fits v to id v.serving h
blob_fits v to (BlockStart block size) c h s k = block_fits v to block size (server_phase v) h s k.0 k.1
blob_fits v to BlockGet c h s k = get_fits v to (server_phase v) h s
blob_fits v to (ChunkTransfer chunk octets) c h s k = chunk_fits v chunk octets (server_phase v) h s

-- ---- time: a Partial Block Report is all that is sent

pub record TimeFits (o : Served) : Type 0 where
  pub same : o.change ≡ Same
  pub last : HasLast o.session.last
  pub replies : AllByRecursion (λ (r : ℕ × BlobReply). BlobFits r.1) o.replies

still : (l : Session) → HasLast l.last → TimeFits (b.silently l)
still l h = record { same = refl; last = h; replies = tt }

either_time : (test : Bool) (x y : Served) → TimeFits x → TimeFits y → TimeFits (cond test x y)
either_time true x y h k = h
either_time false x y h k = k

client_fits : (client : Option ℕ) (chunks : List ℕ) → BlobFits (PartialBlockReport chunks) → AllByRecursion (λ (r : ℕ × BlobReply). BlobFits r.1) (b.to_client client chunks)
client_fits None chunks h = tt
client_fits (Some client) chunks h = (h, tt)

pulls_fit : (v : Server) (c : CurrentBlock) → HasLast v.session.last → length c.chunks ≤ 2048 → TimeFits (b.pulls v c)
pulls_fit v c h few =
    either_time (b.is_due v c v.session.report) _ _
    (record {
      same = refl;
      last = h;
      replies = client_fits v.session.client (b.asked_for c) (taken_small 16 (members (missing c.chunks)) (members_small (missing c.chunks) (missing_few c.chunks few)), taken_few 16 (members (missing c.chunks)));
    })
    (still v.session h)

waits_fit : (v : Server) (phase : BlobPhase) → HasLast v.session.last → IsPhase phase → TimeFits (b.waits v phase)
waits_fit v (NextChunk t p c) h s = either_time (b.is_pull p) _ _ (pulls_fit v c h s.few_chunks) (still v.session h)
waits_fit v Inactive h s = still v.session h
waits_fit v (WaitingForStart t) h s = still v.session h
waits_fit v (NextBlock t p) h s = still v.session h
waits_fit v (Complete t) h s = still v.session h
waits_fit v (Suspended t p) h s = still v.session h

runs_fit : (v : Server) (t : Transfer) → HasLast v.session.last → IsPhase (server_phase v) → TimeFits (cond (nat_le (v.session.heard + b.timeout t.base) v.now) (b.silently (unlinked v.session)) (b.waits v (server_phase v)))
runs_fit v t h s = either_time (nat_le (v.session.heard + b.timeout t.base) v.now) _ _ (still (unlinked v.session) tt) (waits_fit v (server_phase v) h s)

times_fit : (v : Server) (t : Transfer) (link : Link) → HasLast v.session.last → IsPhase (server_phase v) → TimeFits (b.times_out v t link)
times_fit v t Cut h s = still v.session h
times_fit v t Ready h s = runs_fit v t h s
times_fit v t Running h s = runs_fit v t h s

pub time_fits : (v : Server) (serving : Serving) → HasLast v.session.last → IsPhase (server_phase v) → TimeFits (on_server_time v serving)
time_fits v (Lacking t) h s = times_fit v t v.session.link h s
time_fits v NoJob h s = still v.session h
time_fits v (Whole t) h s = still v.session h
