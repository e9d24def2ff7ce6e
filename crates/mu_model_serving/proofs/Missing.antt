-- Replies name what is missing of the block that comes.
use Rattle.std.proofs.Common.{◌≡◌, ℕ, Bool, true, false, List, [], ◌∷◌, length, replicate, zero, suc, arith, refl, sym, ap, subst, cond, Option, Some, None, is_some}
use Rattle.std.specs.Prelude.{◌==◌, ◌&&◌, ◌||◌, ◌-◌, min, map, is_none, nat_lt, nat_le, not}
use Rattle.std.specs.List.{All as AllOf}
use Rattle.std.proofs.lemmas.List.{length-map, length-replicate}
use Rattle.mu_model_wire.specs.Reports.{Reports, report_of, ReportOfASetNamesIt}
use Rattle.mu_model_wire.specs.declared.reports.Report.{Report}
use Rattle.mu_model_wire.specs.declared.reports.Report.TheVariants.{All, Nothing}
use Rattle.mu_model_image.specs.Pieces.{block_length, chunk_count, chunk_length}
use Rattle.mu_model_node.specs.Slots.{Slots, empty, at, put, is_full, missing}
use Rattle.mu_model_node.specs.declared.Parameters.{Parameters}
use Rattle.mu_model_node.specs.declared.Link.{Link}
use Rattle.mu_model_node.specs.declared.Link.TheVariants.{Cut, Ready, Running}
use Rattle.mu_model_node.specs.declared.LastBlock.{LastBlock}
use Rattle.mu_model_node.specs.BlobMessages.{BlobInformationGet, TransferGet, TransferStart, TransferCancel, BlockStart, BlockGet, ChunkTransfer, BlobReply, BlobInformationStatus, TransferStatus, BlockStatus, PartialBlockReport, least_log, most_log, least_chunk, most_chunk}
use Rattle.mu_model_node.specs.BlobServer.{Transfer, CurrentBlock, Session, unlinked, heard_at, linked, Serving, NoJob, Lacking, Whole, Server, BlobPhase, Inactive, WaitingForStart, NextBlock, NextChunk, Complete, Suspended, transfer_phase, serving_phase, server_phase, Change, Same, Begins, Drops, serving_after}
use Rattle.mu_model_node.specs.BlobTable.{Served, silently, success, invalid_block_number, invalid_block_size, invalid_chunk_size, wrong_phase, invalid_parameter, wrong_blob_id, blob_too_large, transfer_status, tell, refuse, tell_block, same_parameters, are_parameters, starts, resumes, repeats, for_id, is_ready, on_transfer_start, drop_transfer, on_transfer_cancel, held_again, opens, on_block_start, tell_last, on_block_get, to_client, is_pull, completes, receives, on_chunk_transfer}
use Rattle.mu_model_serving.specs.Missing.{NamesIn, NameMissing, MessagesNameMissing}

-- ---- lists of replies

none_of : {X : Type 0} (P : X → Type 0) → AllOf P []
none_of P k d h = absurd (omega arith)

one_of : {X : Type 0} (P : X → Type 0) (x : X) → P x → AllOf P (x ∷ [])
one_of P x h zero d below = h
one_of P x h (suc k) d below = absurd (omega arith)

-- ---- single replies

information : (phase : BlobPhase) (capacity : ℕ) → NamesIn phase (BlobInformationStatus capacity)
information Inactive n = tt
information (WaitingForStart t) n = tt
information (NextBlock t p) n = tt
information (NextChunk t p c) n = tt
information (Complete t) n = tt
information (Suspended t p) n = tt

status_of : (phase : BlobPhase) (a b c : ℕ) (id : Option ℕ) (p : Option Parameters) (set : List Bool) → NamesIn phase (TransferStatus a b c id p set)
status_of Inactive a b c id p set = tt
status_of (WaitingForStart t) a b c id p set = tt
status_of (NextBlock t q) a b c id p set = tt
status_of (NextChunk t q d) a b c id p set = tt
status_of (Complete t) a b c id p set = tt
status_of (Suspended t q) a b c id p set = tt

told : (phase : BlobPhase) (status : ℕ) (of : BlobPhase) → NamesIn phase (transfer_status status of)
told phase status Inactive = status_of phase status 0 0 None None []
told phase status (WaitingForStart t) = status_of phase status 0 1 (Some t.id) None []
told phase status (NextBlock t p) = status_of phase status p.mode 2 (Some t.id) (Some p) (missing t.held)
told phase status (NextChunk t p c) = status_of phase status p.mode 3 (Some t.id) (Some p) (missing t.held)
told phase status (Complete t) = status_of phase status _ 4 (Some t.id) t.parameters (missing t.held)
told phase status (Suspended t p) = status_of phase status p.mode 5 (Some t.id) (Some p) (missing t.held)

refused : (phase : BlobPhase) (status n size : ℕ) (report : Report) → (status ≡ 0 → ⊥) → NamesIn phase (BlockStatus status n size report)
refused Inactive status n size report never = tt
refused (WaitingForStart t) status n size report never = tt
refused (NextBlock t p) status n size report never = tt
refused (NextChunk t p c) status n size report never = λ is block. absurd (never is)
refused (Complete t) status n size report never = tt
refused (Suspended t p) status n size report never = tt

-- ---- rows

tells : (v : Server) (l : Session) (change : Change) (to status : ℕ) → NameMissing v (tell v l change to status)
tells v l change to status =
    let after = serving_phase l (serving_after change v.serving) in
    one_of (λ (reply : ℕ × BlobReply). NamesIn after reply.1) (to, transfer_status status after) (told after status after)

either : (v : Server) (b : Bool) (x y : Served) → NameMissing v x → NameMissing v y → NameMissing v (cond b x y)
either v true x y a b = a
either v false x y a b = b

refuses_block : (v : Server) (l : Session) (to status n size : ℕ) (report : Report) → (status ≡ 0 → ⊥) → NameMissing v (tell_block l to status n size report)
refuses_block v l to status n size report never =
    let after = serving_phase l (serving_after Same v.serving) in
    one_of (λ (reply : ℕ × BlobReply). NamesIn after reply.1) (to, BlockStatus status n size report) (refused after status n size report never)

refuses : (v : Server) (to status n size : ℕ) (report : Report) → (status ≡ 0 → ⊥) → NameMissing v (tell_block v.session to status n size report)
refuses v to status n size report never = refuses_block v v.session to status n size report never

starts_so : (v : Server) (to : ℕ) (p : Parameters) (t : Transfer) → NameMissing v (starts v to p t)
starts_so v to p t =
    either v (nat_lt v.capacity p.size) (refuse v to blob_too_large) (cond (nat_lt p.log least_log || nat_lt most_log p.log) (refuse v to invalid_block_size) (cond (not (p.size == t.size)) (refuse v to invalid_parameter) (tell v (linked v.now to v.session) (Begins p) to success)))
    (tells v v.session Same to blob_too_large)
    (either v (nat_lt p.log least_log || nat_lt most_log p.log) (refuse v to invalid_block_size) (cond (not (p.size == t.size)) (refuse v to invalid_parameter) (tell v (linked v.now to v.session) (Begins p) to success))
    (tells v v.session Same to invalid_block_size)
    (either v (not (p.size == t.size)) (refuse v to invalid_parameter) (tell v (linked v.now to v.session) (Begins p) to success) (tells v v.session Same to invalid_parameter) (tells v (linked v.now to v.session) (Begins p) to success)))

repeats_so : (v : Server) (l : Session) (to : ℕ) (p : Parameters) (t : Transfer) → NameMissing v (repeats v l to p t)
repeats_so v l to p t = either v (are_parameters p t.parameters) (tell v l Same to success) (refuse v to wrong_phase) (tells v l Same to success) (tells v v.session Same to wrong_phase)

resumes_so : (v : Server) (to : ℕ) (p q : Parameters) → NameMissing v (resumes v to p q)
resumes_so v to p q = either v (same_parameters p q) (tell v (linked v.now to v.session) Same to success) (refuse v to invalid_parameter) (tells v (linked v.now to v.session) Same to success) (tells v v.session Same to invalid_parameter)

for_so : (v : Server) (to id : ℕ) (t : Transfer) (o : Served) → NameMissing v o → NameMissing v (for_id v to id t o)
for_so v to id t o h = either v (id == t.id) o (refuse v to wrong_blob_id) h (tells v v.session Same to wrong_blob_id)

start_so : (v : Server) (to id : ℕ) (p : Parameters) (phase : BlobPhase) → NameMissing v (on_transfer_start v to id p phase)
start_so v to id p Inactive = tells v v.session Same to wrong_phase
start_so v to id p (WaitingForStart t) = for_so v to id t (starts v to p t) (starts_so v to p t)
start_so v to id p (NextBlock t q) = for_so v to id t (repeats v (heard_at v.now v.session) to p t) (repeats_so v (heard_at v.now v.session) to p t)
start_so v to id p (NextChunk t q c) = for_so v to id t (repeats v (heard_at v.now v.session) to p t) (repeats_so v (heard_at v.now v.session) to p t)
start_so v to id p (Complete t) = for_so v to id t (repeats v v.session to p t) (repeats_so v v.session to p t)
start_so v to id p (Suspended t q) = either v (is_ready v.session.link) (for_id v to id t (resumes v to p q)) (refuse v to wrong_phase) (for_so v to id t (resumes v to p q) (resumes_so v to p q)) (tells v v.session Same to wrong_phase)

drop_so : (v : Server) (to : ℕ) (q : Option Parameters) → NameMissing v (drop_transfer v to q)
drop_so v to None = tells v (unlinked v.session) Same to success
drop_so v to (Some p) = tells v (unlinked v.session) Drops to success

cancel_so : (v : Server) (to id : ℕ) (serving : Serving) → NameMissing v (on_transfer_cancel v to id serving)
cancel_so v to id NoJob = tells v v.session Same to success
cancel_so v to id (Lacking t) = for_so v to id t (drop_transfer v to t.parameters) (drop_so v to t.parameters)
cancel_so v to id (Whole t) = for_so v to id t (refuse v to wrong_phase) (tells v v.session Same to wrong_phase)

-- ---- blocks

all_of_empty : (n : ℕ) → map is_none (replicate {A = Option (List ℕ)} n None) ≡ replicate n true
all_of_empty zero = refl
all_of_empty (suc n) = ap (λ set. true ∷ set) (all_of_empty n)

names_all : (n : ℕ) → Reports All (missing (empty n))
names_all n = rw (length-map, length-replicate) (all_of_empty n)

never_1 : ◌≡◌ {A = ℕ} 1 0 → ⊥
never_1 e = absurd (omega arith)

never_3 : ◌≡◌ {A = ℕ} 3 0 → ⊥
never_3 e = absurd (omega arith)

never_4 : ◌≡◌ {A = ℕ} 4 0 → ⊥
never_4 e = absurd (omega arith)

-- a server with this job, this link and this block
abbrev with : ℕ → ℕ → Session → Transfer → Option Parameters → Link → Option CurrentBlock → Server
with capacity now l t q link current =
    record { capacity = capacity; serving = Lacking (record t { parameters = q }); session = record l { link = link; current = current }; now = now }

-- what is told in a phase without a block that comes
quiet_block : (phase : BlobPhase) (reply : BlobReply) → ((c : CurrentBlock) (t : Transfer) (p : Parameters) → phase ≡ NextChunk t p c → ⊥) → NamesIn phase reply
quiet_block Inactive reply never = tt
quiet_block (WaitingForStart t) reply never = tt
quiet_block (NextBlock t p) reply never = tt
quiet_block (NextChunk t p c) reply never = absurd (never c t p refl)
quiet_block (Complete t) reply never = tt
quiet_block (Suspended t p) reply never = tt

tells_report : (v : Server) (l : Session) (to n size : ℕ) (report : Report) → NamesIn (serving_phase l (serving_after Same v.serving)) (BlockStatus 0 n size report) → NameMissing v (tell_block l to 0 n size report)
tells_report v l to n size report h = one_of (λ (reply : ℕ × BlobReply). NamesIn (serving_phase l (serving_after Same v.serving)) reply.1) (to, BlockStatus 0 n size report) h

start_block : ReportOfASetNamesIt → (capacity now : ℕ) (l : Session) (t : Transfer) (q : Option Parameters) (link : Link) (current : Option CurrentBlock) (to block size : ℕ)
    → NameMissing (with capacity now l t q link current) (on_block_start (with capacity now l t q link current) to block size (server_phase (with capacity now l t q link current)))
start_block names capacity now l t None Cut current to block size = refuses (with capacity now l t None Cut current) to 4 block size All never_4
start_block names capacity now l t None Ready current to block size = refuses (with capacity now l t None Ready current) to 4 block size All never_4
start_block names capacity now l t None Running current to block size = refuses (with capacity now l t None Running current) to 4 block size All never_4
start_block names capacity now l t (Some p) Cut current to block size = refuses (with capacity now l t (Some p) Cut current) to 4 block size All never_4
start_block names capacity now l t (Some p) Ready current to block size = refuses (with capacity now l t (Some p) Ready current) to 4 block size All never_4
start_block names capacity now l t (Some p) Running None to block size =
    let v = with capacity now l t (Some p) Running None in
    either v (nat_le (length t.held) block) (tell_block v.session to invalid_block_number block size All) _ (refuses v to 1 block size All never_1)
    (either v (nat_lt size least_chunk || nat_lt (min most_chunk (p.mtu - 4)) size) (tell_block v.session to invalid_chunk_size block size All) _ (refuses v to 3 block size All never_3)
    (either v (is_some (at t.held block)) (held_again v to block size) (opens v to p block size)
    (tells_report v (heard_at v.now (record (v.session) { last = Some (record { number = block; chunk_size = size }) })) to block size Nothing tt)
    (tells_report v (heard_at v.now (record (v.session) { current = Some (record { number = block; chunk_size = size; chunks = empty (chunk_count (block_length p.size p.log block) size) }); report = None })) to block size All (λ _ _. names_all (chunk_count (block_length p.size p.log block) size)))))
start_block names capacity now l t (Some p) Running (Some c) to block size =
    let v = with capacity now l t (Some p) Running (Some c) in
    either v ((block == c.number) && (size == c.chunk_size)) (tell_block (heard_at v.now v.session) to success block size (report_of (missing c.chunks))) (tell_block v.session to wrong_phase block size All)
    (tells_report v (heard_at v.now v.session) to block size (report_of (missing c.chunks)) (λ _ _. names (missing c.chunks))) (refuses v to 4 block size All never_4)

block_so : ReportOfASetNamesIt → (v : Server) (serving : Serving) (to block size : ℕ) → v.serving ≡ serving → NameMissing v (on_block_start v to block size (serving_phase v.session serving))
block_so names v NoJob to block size e = refuses v to 4 block size All never_4
block_so names v (Whole t) to block size e = refuses v to 4 block size All never_4
block_so names v (Lacking t) to block size e =
    subst (λ (x : Serving). NameMissing (record v { serving = x }) (on_block_start (record v { serving = x }) to block size (serving_phase v.session (Lacking t)))) (sym e)
    (start_block names v.capacity v.now v.session t t.parameters v.session.link v.session.current to block size)

get_block : ReportOfASetNamesIt → (capacity now : ℕ) (l : Session) (t : Transfer) (q : Option Parameters) (link : Link) (current : Option CurrentBlock) (to : ℕ)
    → NameMissing (with capacity now l t q link current) (on_block_get (with capacity now l t q link current) to (server_phase (with capacity now l t q link current)))
get_block names capacity now l t None Cut current to = refuses (with capacity now l t None Cut current) to 4 0 0 All never_4
get_block names capacity now l t None Ready current to = refuses (with capacity now l t None Ready current) to 4 0 0 All never_4
get_block names capacity now l t None Running current to = refuses (with capacity now l t None Running current) to 4 0 0 All never_4
get_block names capacity now l t (Some p) Cut current to = refuses (with capacity now l t (Some p) Cut current) to 4 0 0 All never_4
get_block names capacity now l t (Some p) Ready current to = refuses (with capacity now l t (Some p) Ready current) to 4 0 0 All never_4
get_block names capacity now l t (Some p) Running None to = last_block l.last
  where
    last_block : (last : Option LastBlock) → NameMissing (with capacity now l t (Some p) Running None) (tell_last (record l { link = Running; current = None }) (heard_at now (record l { link = Running; current = None })) to last)
    last_block None = refuses_block (with capacity now l t (Some p) Running None) (record l { link = Running; current = None }) to 4 0 0 All never_4
    last_block (Some b) = tells_report (with capacity now l t (Some p) Running None) (heard_at now (record l { link = Running; current = None })) to b.number b.chunk_size Nothing tt
get_block names capacity now l t (Some p) Running (Some c) to =
    tells_report (with capacity now l t (Some p) Running (Some c)) (heard_at now (record l { link = Running; current = Some c })) to c.number c.chunk_size (report_of (missing c.chunks)) (λ _ _. names (missing c.chunks))

get_so : ReportOfASetNamesIt → (v : Server) (serving : Serving) (to : ℕ) → v.serving ≡ serving → NameMissing v (on_block_get v to (serving_phase v.session serving))
get_so names v NoJob to e = refuses v to 4 0 0 All never_4
get_so names v (Whole t) to e = subst (λ (x : Serving). NameMissing (record v { serving = x }) (tell_last v.session v.session to v.session.last)) (sym e) (last_block v.session.last)
  where
    last_block : (last : Option LastBlock) → NameMissing (record v { serving = Whole t }) (tell_last v.session v.session to last)
    last_block None = refuses_block (record v { serving = Whole t }) v.session to 4 0 0 All never_4
    last_block (Some b) = tells_report (record v { serving = Whole t }) v.session to b.number b.chunk_size Nothing tt
get_so names v (Lacking t) to e =
    subst (λ (x : Serving). NameMissing (record v { serving = x }) (on_block_get (record v { serving = x }) to (serving_phase v.session (Lacking t)))) (sym e)
    (get_block names v.capacity v.now v.session t t.parameters v.session.link v.session.current to)

-- ---- chunks

-- without a block that comes nothing is said of it
no_block : (l : Session) (serving : Serving) (reply : BlobReply) → l.current ≡ None → NamesIn (serving_phase l serving) reply
no_block l NoJob reply e = tt
no_block l (Whole t) reply e = tt
no_block l (Lacking t) reply e = rw e (of t.parameters l.link)
  where
    of : (q : Option Parameters) (link : Link) → NamesIn (transfer_phase t q link None) reply
    of None Cut = tt
    of None Ready = tt
    of None Running = tt
    of (Some p) Cut = tt
    of (Some p) Ready = tt
    of (Some p) Running = tt

silent : (v : Server) (l : Session) → NameMissing v (silently l)
silent v l = none_of (λ (reply : ℕ × BlobReply). NamesIn (serving_phase l (serving_after Same v.serving)) reply.1)

completed : (v : Server) (l : Session) (p : Parameters) (c : CurrentBlock) (chunks : Slots) → NameMissing v (completes l p c chunks)
completed v l p c chunks = all_of (is_pull p) l.client
  where
    says : ℕ × BlobReply → Type 0
    says reply = NamesIn (serving_phase (completes l p c chunks).session (serving_after (completes l p c chunks).change v.serving)) reply.1

    all_of : (b : Bool) (client : Option ℕ) → AllOf says (cond b (to_client client []) [])
    all_of true None = none_of says
    all_of true (Some client) = one_of says (client, PartialBlockReport []) (no_block (completes l p c chunks).session (serving_after (completes l p c chunks).change v.serving) (PartialBlockReport []) refl)
    all_of false client = none_of says

chunk_so : (v : Server) (chunk : ℕ) (octets : List ℕ) (phase : BlobPhase) → NameMissing v (on_chunk_transfer v chunk octets phase)
chunk_so v chunk octets Inactive = silent v v.session
chunk_so v chunk octets (WaitingForStart t) = silent v v.session
chunk_so v chunk octets (NextBlock t p) = silent v v.session
chunk_so v chunk octets (Complete t) = silent v v.session
chunk_so v chunk octets (Suspended t p) = silent v v.session
chunk_so v chunk octets (NextChunk t p c) =
    either v (nat_le (length c.chunks) chunk) (silently v.session) _ (silent v v.session)
    (either v (not (length octets == chunk_length (block_length p.size p.log c.number) c.chunk_size chunk)) (silently v.session) _ (silent v v.session)
    (either v (is_some (at c.chunks chunk)) (silently (heard_at v.now v.session)) (receives (heard_at v.now v.session) p c (put c.chunks chunk octets)) (silent v (heard_at v.now v.session))
    (either v (is_full (put c.chunks chunk octets)) (completes (heard_at v.now v.session) p c (put c.chunks chunk octets)) (silently (record (heard_at v.now v.session) { current = Some (record c { chunks = put c.chunks chunk octets }) }))
    (completed v (heard_at v.now v.session) p c (put c.chunks chunk octets)) (silent v (record (heard_at v.now v.session) { current = Some (record c { chunks = put c.chunks chunk octets }) })))))

pub messages_name : ReportOfASetNamesIt → MessagesNameMissing
messages_name names v from BlobInformationGet = one_of (λ (reply : ℕ × BlobReply). NamesIn (serving_phase v.session (serving_after Same v.serving)) reply.1) (from, BlobInformationStatus v.capacity) (information (serving_phase v.session (serving_after Same v.serving)) v.capacity)
messages_name names v from TransferGet = tells v v.session Same from success
messages_name names v from (TransferStart id p) = start_so v from id p (server_phase v)
messages_name names v from (TransferCancel id) = cancel_so v from id v.serving
messages_name names v from (BlockStart block size) = block_so names v v.serving from block size refl
messages_name names v from BlockGet = get_so names v v.serving from refl
messages_name names v from (ChunkTransfer chunk octets) = chunk_so v chunk octets (server_phase v)
