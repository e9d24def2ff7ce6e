-- Which BLOB messages put a block: the last chunk of the current block.
use Rattle.std.proofs.Common.{◌≡◌, ◌<◌, ◌≤◌, ℕ, zero, suc, ◌+◌, ◌-◌, ◌*◌, ◌^◌, min, Bool, true, false, List, [], ◌∷◌, length, refl, ap, ◌∙◌, cond, arith, Option, Some, None}
use Rattle.std.specs.Prelude.{⊤, ◌==◌, ◌&&◌, ◌||◌, not, nat_lt, nat_le, is_some}
use Rattle.std.proofs.lemmas.List.Sums.{sum_by-cons}
use Rattle.std.proofs.Math.Pow.{pow_mono}
use Rattle.mu_model_image.specs.Pieces.{piece_count, block_length, chunk_length}
use Rattle.mu_model_node.specs.declared.Link.{Link}
use Rattle.mu_model_node.specs.declared.Link.TheVariants.{Cut, Ready, Running}
use Rattle.mu_model_node.specs.declared.Parameters.{Parameters}
use Rattle.mu_model_node.specs.declared.LastBlock.{LastBlock}
use Rattle.mu_model_node.specs.Slots.{Slots, at, put, is_full, held_count}
use Rattle.mu_model_node.specs.BlobMessages.{BlobRequest, BlobInformationGet, TransferGet, TransferStart, TransferCancel, BlockStart, BlockGet, ChunkTransfer, least_log, most_log, least_chunk, most_chunk}
use Rattle.mu_model_node.specs.BlobServer.{Transfer, CurrentBlock, Session, Serving, NoJob, Lacking, Whole, Server, BlobPhase, Inactive, WaitingForStart, NextBlock, NextChunk, Complete, Suspended, running_phase, transfer_phase, serving_phase, server_phase, heard_at, Change, Same, Begins, Drops, Puts}
use Rattle.mu_model_node.specs.BlobTable.{Served, silently, refuse, same_parameters, are_parameters, is_ready, starts, resumes, repeats, for_id, on_transfer_start, drop_transfer, on_transfer_cancel, on_block_start, tell_last, on_block_get, completes, on_chunk_transfer, on_blob}
use Rattle.mu_model_node.specs.Sound.{AreBlocks}

-- a block that is put is the current one
abbrev pub PutsIn : BlobPhase → Change → Type 0
PutsIn (NextChunk t p c) (Puts block octets) = block ≡ c.number
PutsIn _ (Puts block octets) = ⊥
PutsIn _ _ = ⊤

-- no block is put
abbrev Putless : Change → Type 0
Putless change = (p : BlobPhase) → PutsIn p change

same_putless : Putless Same
same_putless Inactive = tt
same_putless (WaitingForStart t) = tt
same_putless (NextBlock t p) = tt
same_putless (NextChunk t p c) = tt
same_putless (Complete t) = tt
same_putless (Suspended t p) = tt

begins_putless : (q : Parameters) → Putless (Begins q)
begins_putless q Inactive = tt
begins_putless q (WaitingForStart t) = tt
begins_putless q (NextBlock t p) = tt
begins_putless q (NextChunk t p c) = tt
begins_putless q (Complete t) = tt
begins_putless q (Suspended t p) = tt

drops_putless : Putless Drops
drops_putless Inactive = tt
drops_putless (WaitingForStart t) = tt
drops_putless (NextBlock t p) = tt
drops_putless (NextChunk t p c) = tt
drops_putless (Complete t) = tt
drops_putless (Suspended t p) = tt

either : (b : Bool) (x y : Served) → Putless x.change → Putless y.change → Putless (cond b x y).change
either true x y h k = h
either false x y h k = k

refused : (v : Server) (to status : ℕ) → Putless (refuse v to status).change
refused v to status = same_putless

by_id : (v : Server) (to id : ℕ) (t : Transfer) (o : Served) → Putless o.change → Putless (for_id v to id t o).change
by_id v to id t o h = either (id == t.id) _ _ h (refused v to 6)

started : (v : Server) (to : ℕ) (p : Parameters) (t : Transfer) → Putless (starts v to p t).change
started v to p t =
    either (nat_lt v.capacity p.size) _ _ (refused v to 7)
    (either (nat_lt p.log least_log || nat_lt most_log p.log) _ _ (refused v to 2)
    (either (not (p.size == t.size)) _ _ (refused v to 5) (begins_putless p)))

resumed : (v : Server) (to : ℕ) (p q : Parameters) → Putless (resumes v to p q).change
resumed v to p q = either (same_parameters p q) _ _ same_putless (refused v to 5)

repeated : (v : Server) (heard : Session) (to : ℕ) (p : Parameters) (t : Transfer) → Putless (repeats v heard to p t).change
repeated v heard to p t = either (are_parameters p t.parameters) _ _ same_putless (refused v to 4)

transfer_starts : (v : Server) (to id : ℕ) (p : Parameters) (phase : BlobPhase) → Putless (on_transfer_start v to id p phase).change
transfer_starts v to id p (WaitingForStart t) = by_id v to id t _ (started v to p t)
transfer_starts v to id p (Suspended t q) = either (is_ready v.session.link) _ _ (by_id v to id t _ (resumed v to p q)) (refused v to 4)
transfer_starts v to id p (NextBlock t q) = by_id v to id t _ (repeated v (heard_at v.now v.session) to p t)
transfer_starts v to id p (NextChunk t q c) = by_id v to id t _ (repeated v (heard_at v.now v.session) to p t)
transfer_starts v to id p (Complete t) = by_id v to id t _ (repeated v v.session to p t)
transfer_starts v to id p Inactive = refused v to 4

dropped : (v : Server) (to : ℕ) (parameters : Option Parameters) → Putless (drop_transfer v to parameters).change
dropped v to None = same_putless
dropped v to (Some p) = drops_putless

transfer_cancels : (v : Server) (to id : ℕ) (serving : Serving) → Putless (on_transfer_cancel v to id serving).change
transfer_cancels v to id NoJob = same_putless
transfer_cancels v to id (Lacking t) = by_id v to id t _ (dropped v to t.parameters)
transfer_cancels v to id (Whole t) = by_id v to id t _ (refused v to 4)

block_starts : (v : Server) (to number size : ℕ) (phase : BlobPhase) → Putless (on_block_start v to number size phase).change
block_starts v to number size (NextChunk t p c) = either ((number == c.number) && (size == c.chunk_size)) _ _ same_putless same_putless
block_starts v to number size (NextBlock t p) =
    either (nat_le (length t.held) number) _ _ same_putless
    (either (nat_lt size least_chunk || nat_lt (min most_chunk (p.mtu - 4)) size) _ _ same_putless
    (either (is_some (at t.held number)) _ _ same_putless same_putless))
block_starts v to number size Inactive = same_putless
block_starts v to number size (WaitingForStart t) = same_putless
block_starts v to number size (Complete t) = same_putless
block_starts v to number size (Suspended t p) = same_putless

last_tells : (l heard : Session) (to : ℕ) (last : Option LastBlock) → Putless (tell_last l heard to last).change
last_tells l heard to None = same_putless
last_tells l heard to (Some b) = same_putless

block_gets : (v : Server) (to : ℕ) (phase : BlobPhase) → Putless (on_block_get v to phase).change
block_gets v to (NextChunk t p c) = same_putless
block_gets v to (NextBlock t p) = last_tells v.session (heard_at v.now v.session) to v.session.last
block_gets v to (Complete t) = last_tells v.session v.session to v.session.last
block_gets v to Inactive = same_putless
block_gets v to (WaitingForStart t) = same_putless
block_gets v to (Suspended t p) = same_putless

fills : (t : Transfer) (p : Parameters) (l : Session) (c : CurrentBlock) (chunks : Slots) (b : Bool) → PutsIn (NextChunk t p c) (cond b (completes l p c chunks) (silently (record l { current = Some (record c { chunks = chunks }) }))).change
fills t p l c chunks true = refl
fills t p l c chunks false = tt

or_not : (phase : BlobPhase) (b : Bool) (x y : Served) → PutsIn phase x.change → PutsIn phase y.change → PutsIn phase (cond b x y).change
or_not phase true x y h k = h
or_not phase false x y h k = k

chunk_comes : (v : Server) (chunk : ℕ) (octets : List ℕ) (phase : BlobPhase) → PutsIn phase (on_chunk_transfer v chunk octets phase).change
chunk_comes v chunk octets (NextChunk t p c) =
    or_not (NextChunk t p c) (nat_le (length c.chunks) chunk) _ _ tt
    (or_not (NextChunk t p c) (not (length octets == chunk_length (block_length p.size p.log c.number) c.chunk_size chunk)) _ _ tt
    (or_not (NextChunk t p c) (is_some (at c.chunks chunk)) _ _ tt
    (fills t p (heard_at v.now v.session) c (put c.chunks chunk octets) (is_full (put c.chunks chunk octets)))))
chunk_comes v chunk octets Inactive = tt
chunk_comes v chunk octets (WaitingForStart t) = tt
chunk_comes v chunk octets (NextBlock t p) = tt
chunk_comes v chunk octets (Complete t) = tt
chunk_comes v chunk octets (Suspended t p) = tt

pub puts_in : (v : Server) (from : ℕ) (request : BlobRequest) → PutsIn (server_phase v) (on_blob v from request).change
puts_in v from BlobInformationGet = same_putless (server_phase v)
puts_in v from TransferGet = same_putless (server_phase v)
puts_in v from (TransferStart id p) = transfer_starts v from id p (server_phase v) (server_phase v)
puts_in v from (TransferCancel id) = transfer_cancels v from id v.serving (server_phase v)
puts_in v from (BlockStart block size) = block_starts v from block size (server_phase v) (server_phase v)
puts_in v from BlockGet = block_gets v from (server_phase v) (server_phase v)
puts_in v from (ChunkTransfer chunk octets) = chunk_comes v chunk octets (server_phase v)

-- ---- the current block of a phase

pub record IsComingIn (v : Server) (t : Transfer) (c : CurrentBlock) : Type 0 where
  pub serving : v.serving ≡ Lacking t
  pub current : v.session.current ≡ Some c

running : (v : Server) (t : Transfer) (p : Parameters) (o : Option CurrentBlock) (t2 : Transfer) (p2 : Parameters) (c : CurrentBlock) → v.serving ≡ Lacking t → v.session.current ≡ o → running_phase t p o ≡ NextChunk t2 p2 c → IsComingIn v t2 c
running v t p None t2 p2 c h k e = cc
running v t p (Some d) t2 p2 c h k e = let same : t ≡ t2 = cc in let block : d ≡ c = cc in record { serving = h ∙ ap Lacking same; current = k ∙ ap Some block }

coming : (v : Server) (t : Transfer) (parameters : Option Parameters) (t2 : Transfer) (p2 : Parameters) (c : CurrentBlock) → v.serving ≡ Lacking t → transfer_phase t parameters v.session.link v.session.current ≡ NextChunk t2 p2 c → IsComingIn v t2 c
coming v t None t2 p2 c h e = by_link v.session.link e
  where
    by_link : (link : Link) → transfer_phase t None link v.session.current ≡ NextChunk t2 p2 c → IsComingIn v t2 c
    by_link Cut e = cc
    by_link Ready e = cc
    by_link Running e = cc
coming v t (Some p) t2 p2 c h e = by_link v.session.link e
  where
    by_link : (link : Link) → transfer_phase t (Some p) link v.session.current ≡ NextChunk t2 p2 c → IsComingIn v t2 c
    by_link Cut e = cc
    by_link Ready e = cc
    by_link Running e = running v t p v.session.current t2 p2 c h refl e

pub comes_in : (v : Server) (serving : Serving) (t : Transfer) (p : Parameters) (c : CurrentBlock) → v.serving ≡ serving → serving_phase v.session serving ≡ NextChunk t p c → IsComingIn v t c
comes_in v NoJob t p c h e = cc
comes_in v (Lacking x) t p c h e = coming v x x.parameters t p c h e
comes_in v (Whole x) t p c h e = cc

-- ---- one more block

pub count_put : (slots : Slots) (i : ℕ) (octets : List ℕ) → i < length slots → at slots i ≡ None → held_count (put slots i octets) ≡ held_count slots + 1
count_put [] i octets h e = absurd (omega arith)
count_put (None ∷ slots) zero octets h e =
    let now = sum_by-cons (λ (x : Option (List ℕ)). cond (is_some x) 1 0) (Some octets) slots in
    let was = sum_by-cons (λ (x : Option (List ℕ)). cond (is_some x) 1 0) None slots in
    omega (arith, now, was)
count_put (Some other ∷ slots) zero octets h e = cc
count_put (x ∷ slots) (suc i) octets h e =
    let others : held_count (put slots i octets) ≡ held_count slots + 1 = count_put slots i octets (omega arith) e in
    let now = sum_by-cons (λ (x : Option (List ℕ)). cond (is_some x) 1 0) x (put slots i octets) in
    let was = sum_by-cons (λ (x : Option (List ℕ)). cond (is_some x) 1 0) x slots in
    omega (arith, now, was, others)

pub at_put : (slots : Slots) (i : ℕ) (octets : List ℕ) → i < length slots → at (put slots i octets) i ≡ Some octets
at_put [] i octets h = absurd (omega arith)
at_put (x ∷ slots) zero octets h = refl
at_put (x ∷ slots) (suc i) octets h = at_put slots i octets (omega arith)

-- a block has at most 4 pages
block_is_short : (size log i : ℕ) → log ≤ 14 → block_length size log i ≤ 16384
block_is_short size log i h =
    let power : 2 ^ log ≤ 2 ^ 14 = pow_mono h in
    let e : (i + 1) * 2 ^ log ≡ i * 2 ^ log + 2 ^ log = grind arith in
    let bound : 2 ^ log ≤ 16384 = power in
    rw e (omega arith)

pub few_pages : (size : ℕ) (p : Parameters) (held : Slots) (block : ℕ) (octets : List ℕ) → AreBlocks size p held → at held block ≡ Some octets → piece_count (length octets) 4096 ≤ 4
few_pages size p held block octets h e =
    let whole : length octets ≡ block_length p.size p.log block = h.lengths block octets e in
    let short : length octets ≤ 16384 = rw whole (block_is_short p.size p.log block h.log_below) in
    omega arith
