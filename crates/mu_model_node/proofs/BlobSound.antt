-- What each BLOB row does to a sound server: the block that is the current one stays sound, and what is kept changes as it may.
use Rattle.std.proofs.Common.{◌≡◌, ◌<◌, ◌≤◌, ℕ, ◌+◌, ◌-◌, ◌*◌, Bool, true, false, List, length, refl, sym, subst, ◌∙◌, cond, arith, min, Option, Some, None}
use Rattle.std.specs.Prelude.{⊤, ◌==◌, ◌||◌, ◌&&◌, not, nat_lt, nat_le, is_some}
use Rattle.std.proofs.lemmas.List.{length-replicate}
use Rattle.std.proofs.lemmas.Bool.Decides.{nat_tests}
use Rattle.mu_model_wire.specs.declared.reports.Report.{Report}
use Rattle.mu_model_image.specs.Pieces.{block_length, chunk_count, chunk_length}
use Rattle.mu_model_node.specs.Slots.{Slots, empty, at, put, is_full}
use Rattle.mu_model_node.specs.BlobMessages.{Parameters, BlobRequest, BlobInformationGet, TransferGet, TransferStart, TransferCancel, BlockStart, BlockGet, ChunkTransfer, least_log, most_log, least_chunk, most_chunk}
use Rattle.mu_model_node.specs.BlobServer.{Transfer, Link, Cut, Ready, Running, CurrentBlock, LastBlock, Session, unlinked, heard_at, linked, Serving, NoJob, Lacking, Whole, Server, BlobPhase, Inactive, WaitingForStart, NextBlock, NextChunk, Complete, Suspended, running_phase, transfer_phase, serving_phase, server_phase, Change, Same, Begins, Drops, Puts}
use Rattle.mu_model_node.specs.BlobTable.{Served, silently, tell, refuse, tell_block, same_parameters, are_parameters, is_ready, starts, resumes, repeats, for_id, on_transfer_start, drop_transfer, on_transfer_cancel, held_again, opens, on_block_start, tell_last, on_block_get, completes, receives, on_chunk_transfer, is_due, is_pull, pulls, waits, times_out, on_server_time, on_blob}
use Rattle.mu_model_node.specs.Sound.{HaveLengths, IsCurrent, AreInRange, BlobRequestFits}
use Rattle.mu_model_node.proofs.Places.{empty_lengths, put_lengths, length_put, whole_length}

-- ---- a server's current block

pub record IsCurrentIn (t : Transfer) (c : CurrentBlock) : Type 0 where
  pub parameters : Parameters
  pub has : t.parameters ≡ Some parameters
  pub current : IsCurrent parameters t.held c

abbrev pub CurrentIn : Serving → Option CurrentBlock → Type 0
CurrentIn v None = ⊤
CurrentIn (Lacking t) (Some c) = IsCurrentIn t c
CurrentIn _ (Some c) = ⊥

-- a transfer may begin so
pub record MayBegin (capacity : ℕ) (t : Transfer) (p : Parameters) : Type 0 where
  pub range : AreInRange p
  pub room : p.size ≤ capacity
  pub log_above : least_log ≤ p.log
  pub log_below : p.log ≤ most_log
  pub size : p.size ≡ t.size

pub record Completes (t : Transfer) (block : ℕ) (octets : List ℕ) : Type 0 where
  pub parameters : Parameters
  pub has : t.parameters ≡ Some parameters
  pub number : block < length t.held
  pub unheld : at t.held block ≡ None
  pub whole : length octets ≡ block_length parameters.size parameters.log block

-- what a change may be, with the current block after it
abbrev pub ChangeIs : Server → Change → Option CurrentBlock → Type 0
ChangeIs v Same current = CurrentIn v.serving current
ChangeIs v (Begins p) current = (current ≡ None) × (t : Transfer) × (v.serving ≡ Lacking t) × MayBegin v.capacity t p
ChangeIs v Drops current = (current ≡ None) × (t : Transfer) × (v.serving ≡ Lacking t)
ChangeIs v (Puts block octets) current = (current ≡ None) × (t : Transfer) × (v.serving ≡ Lacking t) × Completes t block octets

pub record Good (v : Server) (o : Served) : Type 0 where
  pub change : ChangeIs v o.change o.session.current

-- ---- what a phase says

abbrev pub PhaseIs : Server → BlobPhase → Type 0
PhaseIs v (WaitingForStart t) = (v.serving ≡ Lacking t) × (t.parameters ≡ None)
PhaseIs v (NextBlock t p) = (v.serving ≡ Lacking t) × (t.parameters ≡ Some p)
PhaseIs v (NextChunk t p c) = (v.serving ≡ Lacking t) × (t.parameters ≡ Some p) × (v.session.current ≡ Some c)
PhaseIs v (Suspended t p) = (v.serving ≡ Lacking t) × (t.parameters ≡ Some p)
PhaseIs v (Complete t) = v.serving ≡ Whole t
PhaseIs v Inactive = ⊤

is_running : (v : Server) (t : Transfer) (p : Parameters) (current : Option CurrentBlock) → v.serving ≡ Lacking t → t.parameters ≡ Some p → v.session.current ≡ current → PhaseIs v (running_phase t p current)
is_running v t p None h e k = (h, e)
is_running v t p (Some c) h e k = (h, e, k)

is_transfer : (v : Server) (t : Transfer) (parameters : Option Parameters) (link : Link) → v.serving ≡ Lacking t → t.parameters ≡ parameters → PhaseIs v (transfer_phase t parameters link v.session.current)
is_transfer v t None Cut h e = tt
is_transfer v t None Ready h e = (h, e)
is_transfer v t None Running h e = (h, e)
is_transfer v t (Some p) Cut h e = (h, e)
is_transfer v t (Some p) Ready h e = (h, e)
is_transfer v t (Some p) Running h e = is_running v t p v.session.current h e refl

is_phase : (v : Server) (serving : Serving) → v.serving ≡ serving → PhaseIs v (serving_phase v.session serving)
is_phase v NoJob e = tt
is_phase v (Lacking t) e = is_transfer v t t.parameters v.session.link e refl
is_phase v (Whole t) e = e

pub phase_is : (v : Server) → PhaseIs v (server_phase v)
phase_is v = is_phase v v.serving refl

-- ---- shapes

split : (v : Server) (b : Bool) (x y : Served) → (b ≡ true → Good v x) → (b ≡ false → Good v y) → Good v (cond b x y)
split v true x y h k = h refl
split v false x y h k = k refl

-- the current block is the one that was
same : (v : Server) (o : Served) → o.change ≡ Same → o.session.current ≡ v.session.current → CurrentIn v.serving v.session.current → Good v o
same v o e k h = record { change = rw (e, k) h }

-- there is none
none : (v : Server) (o : Served) → o.change ≡ Same → o.session.current ≡ None → Good v o
none v o e k = record { change = rw (e, k) tt }

refused : (v : Server) (to status : ℕ) → CurrentIn v.serving v.session.current → Good v (refuse v to status)
refused v to status h = record { change = h }

identified : (v : Server) (to id : ℕ) (t : Transfer) (o : Served) → CurrentIn v.serving v.session.current → Good v o → Good v (for_id v to id t o)
identified v to id t o h k = split v (id == t.id) o _ (λ e. k) (λ e. refused v to 6 h)

-- without parameters there is no current block
none_without : (t : Transfer) (current : Option CurrentBlock) → t.parameters ≡ None → CurrentIn (Lacking t) current → current ≡ None
none_without t None e h = refl
none_without t (Some c) e h = let never : None ≡ Some h.parameters = sym e ∙ h.has in cc

is_none : {A : Type 0} (o : Option A) → is_some o ≡ false → o ≡ None
is_none None e = refl
is_none (Some a) e = cc

-- ---- rows

begun : (v : Server) (to : ℕ) (p : Parameters) (t : Transfer) → AreInRange p → v.serving ≡ Lacking t → v.session.current ≡ None → nat_lt v.capacity p.size ≡ false → (nat_lt p.log least_log || nat_lt most_log p.log) ≡ false → not (p.size == t.size) ≡ false → Good v (tell v (linked v.now to v.session) (Begins p) to 0)
begun v to p t range is empty room log size = record {
  change = (
    empty,
    t,
    is,
    record {
      range = range;
      room = grind (arith, nat_tests);
      log_above = grind (arith, nat_tests);
      log_below = grind (arith, nat_tests);
      size = grind (arith, nat_tests);
    },
  );
}

started : (v : Server) (to : ℕ) (p : Parameters) (t : Transfer) → AreInRange p → v.serving ≡ Lacking t → t.parameters ≡ None → CurrentIn v.serving v.session.current → Good v (starts v to p t)
started v to p t range is empty h =
    let gone : v.session.current ≡ None = none_without t v.session.current empty (subst (λ x. CurrentIn x v.session.current) is h) in
    split v (nat_lt v.capacity p.size) _ _ (λ a. refused v to 7 h)
    (λ a. split v (nat_lt p.log least_log || nat_lt most_log p.log) _ _ (λ b. refused v to 2 h)
    (λ b. split v (not (p.size == t.size)) _ _ (λ c. refused v to 5 h)
    (λ c. begun v to p t range is gone a b c)))

resumed : (v : Server) (to : ℕ) (p q : Parameters) → CurrentIn v.serving v.session.current → Good v (resumes v to p q)
resumed v to p q h = split v (same_parameters p q) _ _ (λ e. same v (tell v (linked v.now to v.session) Same to 0) refl refl h) (λ e. refused v to 5 h)

repeated : (v : Server) (heard : Session) (to : ℕ) (p : Parameters) (t : Transfer) → heard.current ≡ v.session.current → CurrentIn v.serving v.session.current → Good v (repeats v heard to p t)
repeated v heard to p t e h = split v (are_parameters p t.parameters) _ _ (λ a. same v (tell v heard Same to 0) refl e h) (λ a. refused v to 4 h)

transfer_starts : (v : Server) (to id : ℕ) (p : Parameters) (phase : BlobPhase) → AreInRange p → PhaseIs v phase → CurrentIn v.serving v.session.current → Good v (on_transfer_start v to id p phase)
transfer_starts v to id p (WaitingForStart t) range is h = identified v to id t _ h (started v to p t range is.0 is.1 h)
transfer_starts v to id p (Suspended t q) range is h = split v (is_ready v.session.link) _ _ (λ e. identified v to id t _ h (resumed v to p q h)) (λ e. refused v to 4 h)
transfer_starts v to id p (NextBlock t q) range is h = identified v to id t _ h (repeated v (heard_at v.now v.session) to p t refl h)
transfer_starts v to id p (NextChunk t q c) range is h = identified v to id t _ h (repeated v (heard_at v.now v.session) to p t refl h)
transfer_starts v to id p (Complete t) range is h = identified v to id t _ h (repeated v v.session to p t refl h)
transfer_starts v to id p Inactive range is h = refused v to 4 h

dropped : (v : Server) (to : ℕ) (t : Transfer) (parameters : Option Parameters) → v.serving ≡ Lacking t → Good v (drop_transfer v to parameters)
dropped v to t None is = none v (tell v (unlinked v.session) Same to 0) refl refl
dropped v to t (Some p) is = record { change = (refl, t, is) }

transfer_cancels : (v : Server) (to id : ℕ) (serving : Serving) → v.serving ≡ serving → CurrentIn v.serving v.session.current → Good v (on_transfer_cancel v to id serving)
transfer_cancels v to id NoJob is h = same v (tell v v.session Same to 0) refl refl h
transfer_cancels v to id (Lacking t) is h = identified v to id t _ h (dropped v to t t.parameters is)
transfer_cancels v to id (Whole t) is h = identified v to id t _ h (refused v to 4 h)

block : (v : Server) (l : Session) (to status number size : ℕ) (report : Report) → l.current ≡ v.session.current → CurrentIn v.serving v.session.current → Good v (tell_block l to status number size report)
block v l to status number size report e h = same v (tell_block l to status number size report) refl e h

opened : (v : Server) (to : ℕ) (t : Transfer) (p : Parameters) (number size : ℕ) → v.serving ≡ Lacking t → t.parameters ≡ Some p → nat_le (length t.held) number ≡ false → (nat_lt size least_chunk || nat_lt (min most_chunk (p.mtu - 4)) size) ≡ false → is_some (at t.held number) ≡ false → Good v (opens v to p number size)
opened v to t p number size is has below chunk unheld = record {
  change = rw is (record {
    parameters = p;
    has = has;
    current = record {
      number = grind (arith, nat_tests);
      unheld = is_none (at t.held number) unheld;
      size_above = grind (arith, nat_tests);
      size_below = grind (arith, nat_tests);
      count = length-replicate (chunk_count (block_length p.size p.log number) size) None;
      lengths = empty_lengths _ _;
    };
  });
}

block_starts : (v : Server) (to number size : ℕ) (phase : BlobPhase) → PhaseIs v phase → CurrentIn v.serving v.session.current → Good v (on_block_start v to number size phase)
block_starts v to number size (NextChunk t p c) is h =
    split v ((number == c.number) && (size == c.chunk_size)) _ _ (λ e. block v (heard_at v.now v.session) to 0 number size _ refl h) (λ e. block v v.session to 4 number size _ refl h)
block_starts v to number size (NextBlock t p) is h =
    split v (nat_le (length t.held) number) _ _ (λ a. block v v.session to 1 number size _ refl h)
    (λ a. split v (nat_lt size least_chunk || nat_lt (min most_chunk (p.mtu - 4)) size) _ _ (λ b. block v v.session to 3 number size _ refl h)
    (λ b. split v (is_some (at t.held number)) _ _ (λ c. same v (held_again v to number size) refl refl h)
    (λ c. opened v to t p number size is.0 is.1 a b c)))
block_starts v to number size _ is h = block v v.session to 4 number size _ refl h

last_tells : (v : Server) (heard : Session) (to : ℕ) (last : Option LastBlock) → heard.current ≡ v.session.current → CurrentIn v.serving v.session.current → Good v (tell_last v.session heard to last)
last_tells v heard to None e h = block v v.session to 4 0 0 _ refl h
last_tells v heard to (Some b) e h = block v heard to 0 b.number b.chunk_size _ e h

block_gets : (v : Server) (to : ℕ) (phase : BlobPhase) → CurrentIn v.serving v.session.current → Good v (on_block_get v to phase)
block_gets v to (NextChunk t p c) h = block v (heard_at v.now v.session) to 0 c.number c.chunk_size _ refl h
block_gets v to (NextBlock t p) h = last_tells v (heard_at v.now v.session) to v.session.last refl h
block_gets v to (Complete t) h = last_tells v v.session to v.session.last refl h
block_gets v to _ h = block v v.session to 4 0 0 _ refl h

over : (v : Server) (l : Session) → l.current ≡ v.session.current → CurrentIn v.serving v.session.current → Good v (silently l)
over v l e h = same v (silently l) refl e h

completed : (v : Server) (t : Transfer) (p : Parameters) (c : CurrentBlock) (chunks : Slots) → v.serving ≡ Lacking t → t.parameters ≡ Some p → IsCurrent p t.held c → length chunks ≡ length c.chunks → HaveLengths (chunk_length (block_length p.size p.log c.number) c.chunk_size) chunks → is_full chunks ≡ true → Good v (completes (heard_at v.now v.session) p c chunks)
completed v t p c chunks is has k count lengths full = record {
  change = (
    refl,
    t,
    is,
    record {
      parameters = p;
      has = has;
      number = k.number;
      unheld = k.unheld;
      whole = whole_length (block_length p.size p.log c.number) c.chunk_size chunks (omega (arith, k.size_above)) full (count ∙ k.count) lengths;
    },
  );
}

kept : (v : Server) (t : Transfer) (p : Parameters) (c : CurrentBlock) (chunks : Slots) → v.serving ≡ Lacking t → t.parameters ≡ Some p → IsCurrent p t.held c → length chunks ≡ length c.chunks → HaveLengths (chunk_length (block_length p.size p.log c.number) c.chunk_size) chunks → Good v (silently (record (heard_at v.now v.session) { current = Some (record c { chunks = chunks }) }))
kept v t p c chunks is has k count lengths = record {
  change = rw is (record {
    parameters = p;
    has = has;
    current = record {
      number = k.number;
      unheld = k.unheld;
      size_above = k.size_above;
      size_below = k.size_below;
      count = count ∙ k.count;
      lengths = lengths;
    };
  });
}

received : (v : Server) (t : Transfer) (p : Parameters) (c : CurrentBlock) (chunks : Slots) → v.serving ≡ Lacking t → t.parameters ≡ Some p → IsCurrent p t.held c → length chunks ≡ length c.chunks → HaveLengths (chunk_length (block_length p.size p.log c.number) c.chunk_size) chunks → Good v (receives (heard_at v.now v.session) p c chunks)
received v t p c chunks is has k count lengths =
    split v (is_full chunks) (completes (heard_at v.now v.session) p c chunks) _ (λ full. completed v t p c chunks is has k count lengths full) (λ lacks. kept v t p c chunks is has k count lengths)

-- the current block of a phase is sound
pub current_of : (v : Server) (t : Transfer) (p : Parameters) (c : CurrentBlock) → v.serving ≡ Lacking t → t.parameters ≡ Some p → v.session.current ≡ Some c → CurrentIn v.serving v.session.current → IsCurrent p t.held c
current_of v t p c is has at h =
    let own : IsCurrentIn t c = subst (CurrentIn (Lacking t)) at (subst (λ x. CurrentIn x v.session.current) is h) in
    let same_parameters : own.parameters ≡ p = cc (own.has, has) in
    subst (λ q. IsCurrent q t.held c) same_parameters own.current

chunks_come : (v : Server) (chunk : ℕ) (octets : List ℕ) (phase : BlobPhase) → PhaseIs v phase → CurrentIn v.serving v.session.current → Good v (on_chunk_transfer v chunk octets phase)
chunks_come v chunk octets (NextChunk t p c) is h =
    let k : IsCurrent p t.held c = current_of v t p c is.0 is.1 is.2 h in
    split v (nat_le (length c.chunks) chunk) _ _ (λ a. over v v.session refl h)
    (λ a. split v (not (length octets == chunk_length (block_length p.size p.log c.number) c.chunk_size chunk)) _ _ (λ b. over v v.session refl h)
    (λ b. split v (is_some (at c.chunks chunk)) _ _ (λ d. over v (heard_at v.now v.session) refl h)
    (λ d. received v t p c (put c.chunks chunk octets) is.0 is.1 k (length_put c.chunks chunk octets) (put_lengths _ c.chunks chunk octets (grind (arith, nat_tests)) k.lengths))))
chunks_come v chunk octets _ is h = over v v.session refl h

pub blob_good : (v : Server) (to : ℕ) (request : BlobRequest) → BlobRequestFits request → CurrentIn v.serving v.session.current → Good v (on_blob v to request)
blob_good v to BlobInformationGet fits h = record { change = h }
blob_good v to TransferGet fits h = record { change = h }
blob_good v to (TransferStart id p) fits h = transfer_starts v to id p (server_phase v) fits (phase_is v) h
blob_good v to (TransferCancel id) fits h = transfer_cancels v to id v.serving refl h
blob_good v to (BlockStart number size) fits h = block_starts v to number size (server_phase v) (phase_is v) h
blob_good v to BlockGet fits h = block_gets v to (server_phase v) h
blob_good v to (ChunkTransfer chunk octets) fits h = chunks_come v chunk octets (server_phase v) (phase_is v) h

-- ---- the time event

pulled : (v : Server) (c : CurrentBlock) → CurrentIn v.serving v.session.current → Good v (pulls v c)
pulled v c h = split v (is_due v c v.session.report) _ _ (λ e. record { change = h }) (λ e. over v v.session refl h)

waited : (v : Server) (phase : BlobPhase) → CurrentIn v.serving v.session.current → Good v (waits v phase)
waited v (NextChunk t p c) h = split v (is_pull p) _ _ (λ e. pulled v c h) (λ e. over v v.session refl h)
waited v _ h = over v v.session refl h

timed_out : (v : Server) (t : Transfer) (link : Link) → CurrentIn v.serving v.session.current → Good v (times_out v t link)
timed_out v t Cut h = over v v.session refl h
timed_out v t _ h = split v (nat_le (v.session.heard + 10000 * (t.base + 1)) v.now) _ _ (λ e. none v (silently (unlinked v.session)) refl refl) (λ e. waited v (server_phase v) h)

pub time_good : (v : Server) (serving : Serving) → CurrentIn v.serving v.session.current → Good v (on_server_time v serving)
time_good v (Lacking t) h = timed_out v t v.session.link h
time_good v _ h = over v v.session refl h
