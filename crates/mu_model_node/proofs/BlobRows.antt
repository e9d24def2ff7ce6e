-- What each BLOB row does to what is kept: it changes it only where blocks are missing.
use Rattle.std.proofs.Common.{◌≡◌, ℕ, Bool, true, false, List, refl, cond, Option, Some, None}
use Rattle.std.specs.Prelude.{⊤, ◌==◌, ◌||◌, not, nat_lt}
use Rattle.mu_model_wire.specs.declared.reports.Report.{Report}
use Rattle.mu_model_node.specs.Slots.{put}
use Rattle.mu_model_node.specs.BlobMessages.{Parameters, BlobRequest, BlobInformationGet, TransferGet, TransferStart, TransferCancel, BlockStart, BlockGet, ChunkTransfer, least_log, most_log}
use Rattle.mu_model_node.specs.BlobServer.{Transfer, Link, Cut, Ready, Running, CurrentBlock, LastBlock, Session, heard_at, linked, Serving, NoJob, Lacking, Whole, Server, BlobPhase, Inactive, WaitingForStart, NextBlock, NextChunk, Complete, Suspended, running_phase, transfer_phase, serving_phase, server_phase, Change, Same, Begins}
use Rattle.mu_model_node.specs.BlobTable.{Served, silently, tell, refuse, tell_block, same_parameters, are_parameters, is_ready, starts, resumes, repeats, for_id, on_transfer_start, drop_transfer, on_transfer_cancel, on_block_start, tell_last, on_block_get, completes, on_chunk_transfer, is_due, is_pull, pulls, waits, times_out, on_server_time, on_blob}

abbrev pub IsLacking : Serving → Type 0
IsLacking (Lacking t) = ⊤
IsLacking _ = ⊥

abbrev pub MayWrite : Serving → Change → Type 0
MayWrite v Same = ⊤
MayWrite v _ = IsLacking v

-- a record, so that its arguments are found
pub record Sound (v : Serving) (o : Served) : Type 0 where
  pub writes : MayWrite v o.change

abbrev pub BlobOf : Serving → BlobPhase → Type 0
BlobOf v Inactive = ⊤
BlobOf v (Complete t) = ⊤
BlobOf v _ = IsLacking v

of_running : (v : Serving) (t : Transfer) (p : Parameters) (current : Option CurrentBlock) → IsLacking v → BlobOf v (running_phase t p current)
of_running v t p None h = h
of_running v t p (Some c) h = h

of_transfer : (v : Serving) (t : Transfer) (parameters : Option Parameters) (link : Link) (current : Option CurrentBlock) → IsLacking v → BlobOf v (transfer_phase t parameters link current)
of_transfer v t None Cut c h = tt
of_transfer v t None Ready c h = h
of_transfer v t None Running c h = h
of_transfer v t (Some p) Cut c h = h
of_transfer v t (Some p) Ready c h = h
of_transfer v t (Some p) Running c h = of_running v t p c h

pub blob_of : (l : Session) (v : Serving) → BlobOf v (serving_phase l v)
blob_of l NoJob = tt
blob_of l (Lacking t) = of_transfer (Lacking t) t t.parameters l.link l.current tt
blob_of l (Whole t) = tt

-- ---- shapes

split : (v : Serving) (b : Bool) (x y : Served) → Sound v x → Sound v y → Sound v (cond b x y)
split v true x y h k = h
split v false x y h k = k

same : (v : Serving) (o : Served) → o.change ≡ Same → Sound v o
same v o e = record { writes = rw e tt }

told : (v : Server) (l : Session) (change : Change) (to status : ℕ) → MayWrite v.serving change → Sound v.serving (tell v l change to status)
told v l change to status h = record { writes = h }

refused : (v : Server) (to status : ℕ) → Sound v.serving (refuse v to status)
refused v to status = record { writes = tt }

identified : (v : Server) (to id : ℕ) (t : Transfer) (o : Served) → Sound v.serving o → Sound v.serving (for_id v to id t o)
identified v to id t o h = split v.serving (id == t.id) o _ h (refused v to 6)

-- ---- rows

started : (v : Server) (to : ℕ) (p : Parameters) (t : Transfer) → IsLacking v.serving → Sound v.serving (starts v to p t)
started v to p t h =
    split v.serving (nat_lt v.capacity p.size) _ _ (refused v to 7)
    (split v.serving (nat_lt p.log least_log || nat_lt most_log p.log) _ _ (refused v to 2)
    (split v.serving (not (p.size == t.size)) _ _ (refused v to 5) (told v (linked v.now to v.session) (Begins p) to 0 h)))

resumed : (v : Server) (to : ℕ) (p q : Parameters) → Sound v.serving (resumes v to p q)
resumed v to p q = split v.serving (same_parameters p q) _ _ (told v (linked v.now to v.session) Same to 0 tt) (refused v to 5)

repeated : (v : Server) (heard : Session) (to : ℕ) (p : Parameters) (t : Transfer) → Sound v.serving (repeats v heard to p t)
repeated v heard to p t = split v.serving (are_parameters p t.parameters) _ _ (told v heard Same to 0 tt) (refused v to 4)

transfer_starts : (v : Server) (to id : ℕ) (p : Parameters) (phase : BlobPhase) → BlobOf v.serving phase → Sound v.serving (on_transfer_start v to id p phase)
transfer_starts v to id p (WaitingForStart t) h = identified v to id t _ (started v to p t h)
transfer_starts v to id p (Suspended t q) h = split v.serving (is_ready v.session.link) _ _ (identified v to id t _ (resumed v to p q)) (refused v to 4)
transfer_starts v to id p (NextBlock t q) h = identified v to id t _ (repeated v _ to p t)
transfer_starts v to id p (NextChunk t q c) h = identified v to id t _ (repeated v _ to p t)
transfer_starts v to id p (Complete t) h = identified v to id t _ (repeated v _ to p t)
transfer_starts v to id p Inactive h = refused v to 4

drops : (v : Server) (to : ℕ) (parameters : Option Parameters) → IsLacking v.serving → Sound v.serving (drop_transfer v to parameters)
drops v to None h = same v.serving _ refl
drops v to (Some p) h = record { writes = h }

transfer_cancels : (v : Server) (to id : ℕ) (serving : Serving) → v.serving ≡ serving → Sound v.serving (on_transfer_cancel v to id serving)
transfer_cancels v to id NoJob is = same v.serving _ refl
transfer_cancels v to id (Lacking t) is = identified v to id t _ (drops v to t.parameters (rw is tt))
transfer_cancels v to id (Whole t) is = identified v to id t _ (refused v to 4)

block : (v : Serving) (l : Session) (to status number size : ℕ) (report : Report) → Sound v (tell_block l to status number size report)
block v l to status number size report = record { writes = tt }

block_starts : (v : Server) (to number size : ℕ) (phase : BlobPhase) → Sound v.serving (on_block_start v to number size phase)
block_starts v to number size (NextChunk t p c) = search (split, block)
block_starts v to number size (NextBlock t p) = search (split, block)
block_starts v to number size _ = block v.serving _ to 4 number size _

last_tells : (v : Serving) (l heard : Session) (to : ℕ) (last : Option LastBlock) → Sound v (tell_last l heard to last)
last_tells v l heard to None = block v _ to 4 0 0 _
last_tells v l heard to (Some b) = block v _ to 0 b.number b.chunk_size _

block_gets : (v : Server) (to : ℕ) (phase : BlobPhase) → Sound v.serving (on_block_get v to phase)
block_gets v to (NextChunk t p c) = block v.serving _ to 0 c.number c.chunk_size _
block_gets v to (NextBlock t p) = last_tells v.serving v.session _ to v.session.last
block_gets v to (Complete t) = last_tells v.serving v.session _ to v.session.last
block_gets v to _ = block v.serving _ to 4 0 0 _

over : (v : Serving) (l : Session) → Sound v (silently l)
over v l = record { writes = tt }

chunks_come : (v : Server) (chunk : ℕ) (octets : List ℕ) (phase : BlobPhase) → BlobOf v.serving phase → Sound v.serving (on_chunk_transfer v chunk octets phase)
chunks_come v chunk octets (NextChunk t p c) h =
    let full : Sound v.serving (completes (heard_at v.now v.session) p c (put c.chunks chunk octets)) = record { writes = h } in
    search (split, over) depth 7
chunks_come v chunk octets _ h = over v.serving v.session

pub blob_so : (v : Server) (to : ℕ) (request : BlobRequest) → Sound v.serving (on_blob v to request)
blob_so v to BlobInformationGet = same v.serving _ refl
blob_so v to TransferGet = same v.serving _ refl
blob_so v to (TransferStart id p) = transfer_starts v to id p (server_phase v) (blob_of v.session v.serving)
blob_so v to (TransferCancel id) = transfer_cancels v to id v.serving refl
blob_so v to (BlockStart number size) = block_starts v to number size (server_phase v)
blob_so v to BlockGet = block_gets v to (server_phase v)
blob_so v to (ChunkTransfer chunk octets) = chunks_come v chunk octets (server_phase v) (blob_of v.session v.serving)

-- ---- a server's time event changes nothing that is kept

same_if : (b : Bool) (x y : Served) → x.change ≡ Same → y.change ≡ Same → (cond b x y).change ≡ Same
same_if true x y h k = h
same_if false x y h k = k

waits_same : (v : Server) (phase : BlobPhase) → (waits v phase).change ≡ Same
waits_same v (NextChunk t p c) = same_if (is_pull p) (pulls v c) (silently v.session) (same_if (is_due v c v.session.report) _ (silently v.session) refl refl) refl
waits_same v _ = refl

times_same : (v : Server) (t : Transfer) (link : Link) → (times_out v t link).change ≡ Same
times_same v t Cut = refl
times_same v t _ = search (same_if, waits_same)

pub time_same : (v : Server) (serving : Serving) → (on_server_time v serving).change ≡ Same
time_same v (Lacking t) = times_same v t v.session.link
time_same v _ = refl
