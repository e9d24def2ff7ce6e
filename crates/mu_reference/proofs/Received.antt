-- A chunk that is received has its place.
use Rattle.std.proofs.Common.{◌≡◌, ◌<◌, ℕ, List, length, refl, sym, subst, ◌∙◌, ap, Option, Some, None, Result, Ok, Err}
use Rattle.mu_model_node.specs.declared.Parameters.{Parameters}
use Rattle.mu_model_node.specs.Slots.{at, put}
use Rattle.mu_model_node.specs.BlobServer.{Session, heard_at, Transfer, CurrentBlock, BlobPhase, NextChunk}
use Rattle.mu_model_node.specs.NodeState.{Job, NodeState, server_of, blob_phase}
use Rattle.std.specs.Prelude.{IfOk}
use Rattle.std.specs.declared.alloc.AllocError.{AllocError}
use Rattle.mu_model_image.specs.Pieces.{piece_count}
use Rattle.mu_model_node.specs.declared.FlashWork.{FlashWork}
use Rattle.mu_model_node.specs.declared.FlashWork.TheVariants.{Untouched, PutBlock}
use Rattle.mu_model_node.specs.BlobMessages.{ChunkTransfer}
use Rattle.mu_model_node.specs.BlobTable.{Served, silently, on_blob}
use Rattle.mu_model_node.specs.NodeOutcome.{work_of, with_session}
use Rattle.mu_model_node.specs.Sound.{IsNodeState, IsPhase}
use Rattle.mu_model_node.specs.Laws.{PhasesAreSound, WaitsForChunks, ChunksAreOfTheJob}
use Rattle.mu_reference.specs.declared.blob_table.ChunkStep.TheVariants.{Receive}
use Rattle.mu_reference.specs.declared.recording.Stop.{Stop}
use Rattle.mu_reference.specs.declared.blob_events.Served.{Served as ServedHere}
use Rattle.mu_reference.specs.Outcomes.{ServedAs}
use Rattle.mu_reference.proofs.Changes.{same_after, session_after}
use Rattle.mu_reference.specs.BlobRows.{chunk_stepped, ReceivesWithin, received_by, received_with, block_put, completed_with, completed_by, kept_with, kept_by, HasPlace, IsLastChunk}

place : (s : NodeState) (chunk : ℕ) (c : CurrentBlock) (j : Job) → s.session.current ≡ Some c → s.durable.job ≡ Some j → chunk < length c.chunks → at c.chunks chunk ≡ None → c.number < length j.held → at j.held c.number ≡ None → HasPlace chunk s.session.current s.durable.job
place s chunk c j e k h n l u = rw (e, k) (h, n, l, u)

placed_at : (s : NodeState) (chunk : ℕ) (q : Parameters) (phase : BlobPhase) → blob_phase s ≡ phase → ChunksAreOfTheJob → IsPhase phase → ReceivesWithin chunk phase (Receive q) → HasPlace chunk s.session.current s.durable.job
placed_at s chunk q (NextChunk t p c) e law sound h =
    let w : WaitsForChunks s t p c = law s t p c e in
    let below : c.number < length t.held = sound.current.number in
    let lacks : at t.held c.number ≡ None = sound.current.unheld in
    place s chunk c w.of w.current w.is h.1 h.2 (subst (λ (x : Transfer). c.number < length x.held) w.transfer below) (subst (λ (x : Transfer). at x.held c.number ≡ None) w.transfer lacks)
placed_at s chunk q _ e law sound h = absurd h

pub placed : (s : NodeState) (chunk : ℕ) (q : Parameters) → ChunksAreOfTheJob → PhasesAreSound → IsNodeState s → ReceivesWithin chunk (blob_phase s) (Receive q) → HasPlace chunk s.session.current s.durable.job
placed s chunk q law sound k h = placed_at s chunk q (blob_phase s) refl law (sound s k) h

received_at : (s : NodeState) (chunk : ℕ) (octets : List ℕ) (q : Parameters) (phase : BlobPhase) → blob_phase s ≡ phase → ChunksAreOfTheJob → ReceivesWithin chunk phase (Receive q) → chunk_stepped (server_of s) chunk octets phase (Receive q) ≡ received_by s q chunk octets
received_at s chunk octets q (NextChunk t p c) e law h =
    let w : WaitsForChunks s t p c = law s t p c e in
    sym (ap (received_with s q chunk octets) w.current)
received_at s chunk octets q _ e law h = absurd h

pub received_here : (s : NodeState) (chunk : ℕ) (octets : List ℕ) (q : Parameters) → ChunksAreOfTheJob → ReceivesWithin chunk (blob_phase s) (Receive q) → chunk_stepped (server_of s) chunk octets (blob_phase s) (Receive q) ≡ received_by s q chunk octets
received_here s chunk octets q law h = received_at s chunk octets q (blob_phase s) refl law h

-- nothing is answered, and what is kept stays
served_none : (s new : NodeState) (l : Session) (o : Served) → o ≡ silently l → new ≡ with_session s l → ServedAs s o (Ok (record { reply = None; work = Untouched })) new
served_none s new l o e k = subst (λ (x : Served). ServedAs s x (Ok (record { reply = None; work = Untouched })) new) (sym e) (k ∙ ap (λ (t : NodeState). with_session t l) (sym (same_after s s.durable.job)), refl, refl, refl)

-- the moment last heard comes before what is kept changes
heard_first : (s new : NodeState) (l : Session) (o : Served) (here : ServedHere) → ServedAs (with_session s l) o (Ok here) new → ServedAs s o (Ok here) new
heard_first s new l o here h = (h.0 ∙ ap (λ (x : NodeState). with_session x o.session) (session_after s l o.change s.durable.job), h.1, h.2, h.3)

completed_with_last : (s new : NodeState) (p : Parameters) (chunk : ℕ) (octets block : List ℕ) (here : ServedHere) (current : Option CurrentBlock) → IsLastChunk chunk octets current (Some block) → ServedAs (with_session s (heard_at s.moment s.session)) (completed_with (with_session s (heard_at s.moment s.session)) p block current) (Ok here) new → ServedAs s (received_with s p chunk octets current) (Ok here) new
completed_with_last s new p chunk octets block here None last h = absurd last
completed_with_last s new p chunk octets block here (Some c) last h =
    let first : ServedAs s (block_put (heard_at s.moment s.session) p c block) (Ok here) new = heard_first s new (heard_at s.moment s.session) (block_put (heard_at s.moment s.session) p c block) here h in
    rw (last.0, sym last.1) first

pub completed_last : (s new : NodeState) (p : Parameters) (chunk : ℕ) (octets block : List ℕ) (here : ServedHere) → IsLastChunk chunk octets s.session.current (Some block) → ServedAs (with_session s (heard_at s.moment s.session)) (completed_by (with_session s (heard_at s.moment s.session)) p block) (Ok here) new → ServedAs s (received_by s p chunk octets) (Ok here) new
completed_last s new p chunk octets block here last h = completed_with_last s new p chunk octets block here s.session.current last h

kept_with_more : (s new : NodeState) (p : Parameters) (chunk : ℕ) (octets : List ℕ) (current : Option CurrentBlock) → IsLastChunk chunk octets current None → new ≡ kept_with (with_session s (heard_at s.moment s.session)) chunk octets current → ServedAs s (received_with s p chunk octets current) (Ok (record { reply = None; work = Untouched })) new
kept_with_more s new p chunk octets None last h = absurd last
kept_with_more s new p chunk octets (Some c) last h =
    let l : Session = record (heard_at s.moment s.session) { current = Some (record c { chunks = put c.chunks chunk octets }) } in
    let first : ServedAs s (silently l) (Ok (record { reply = None; work = Untouched })) new = served_none s new l (silently l) refl h in
    rw last first

pub kept_more : (s new : NodeState) (p : Parameters) (chunk : ℕ) (octets : List ℕ) (here : ServedHere) → here ≡ record { reply = None; work = Untouched } → IsLastChunk chunk octets s.session.current None → new ≡ kept_by (with_session s (heard_at s.moment s.session)) chunk octets → ServedAs s (received_by s p chunk octets) (Ok here) new
kept_more s new p chunk octets here is last h = subst (λ (x : ServedHere). ServedAs s (received_by s p chunk octets) (Ok x) new) (sym is) (kept_with_more s new p chunk octets s.session.current last h)

pub served_same : (s new : NodeState) (l : Session) (o : Served) (here : ServedHere) → o ≡ silently l → new ≡ with_session s l → here ≡ record { reply = None; work = Untouched } → ServedAs s o (Ok here) new
served_same s new l o here e k is = subst (λ (x : ServedHere). ServedAs s o (Ok x) new) (sym is) (served_none s new l o e k)

pub served_as : (s new : NodeState) (o other : Served) (r : Result ServedHere Stop) → o ≡ other → ServedAs s other r new → ServedAs s o r new
served_as s new o other r e h = subst (λ (x : Served). ServedAs s x r new) (sym e) h

-- ---- the flash work of a chunk

kept_with_work : (s : NodeState) (p : Parameters) (chunk : ℕ) (octets : List ℕ) (current : Option CurrentBlock) → IsLastChunk chunk octets current None → Untouched ≡ work_of (received_with s p chunk octets current).change
kept_with_work s p chunk octets None last = absurd last
kept_with_work s p chunk octets (Some c) last = rw last refl

pub kept_work : (s : NodeState) (p : Parameters) (chunk : ℕ) (octets : List ℕ) → IsLastChunk chunk octets s.session.current None → Untouched ≡ work_of (received_by s p chunk octets).change
kept_work s p chunk octets last = kept_with_work s p chunk octets s.session.current last

last_with_work : (s : NodeState) (p : Parameters) (chunk : ℕ) (octets block : List ℕ) (pages : ℕ) (current : Option CurrentBlock) → IsLastChunk chunk octets current (Some block) → pages ≡ piece_count (length block) 4096 → PutBlock pages ≡ work_of (received_with s p chunk octets current).change
last_with_work s p chunk octets block pages None last e = absurd last
last_with_work s p chunk octets block pages (Some c) last e = rw (last.0, sym last.1, e) refl

pub last_work : (s : NodeState) (p : Parameters) (chunk : ℕ) (octets block : List ℕ) (pages : ℕ) → IsLastChunk chunk octets s.session.current (Some block) → pages ≡ piece_count (length block) 4096 → PutBlock pages ≡ work_of (received_by s p chunk octets).change
last_work s p chunk octets block pages last e = last_with_work s p chunk octets block pages s.session.current last e

pub received_work_is : (s : NodeState) (chunk : ℕ) (octets : List ℕ) (q : Parameters) (r : Result FlashWork AllocError) → ChunksAreOfTheJob → ReceivesWithin chunk (blob_phase s) (Receive q) → ((from : ℕ) → on_blob (server_of s) from (ChunkTransfer chunk octets) ≡ chunk_stepped (server_of s) chunk octets (blob_phase s) (Receive q)) → IfOk r (λ work. (p : Parameters) → work ≡ work_of (received_by s p chunk octets).change) → IfOk r (λ work. (from : ℕ) → work ≡ work_of (on_blob (server_of s) from (ChunkTransfer chunk octets)).change)
received_work_is s chunk octets q (Ok work) law within stepped h = λ from. h q ∙ sym (ap (λ (o : Served). work_of o.change) (stepped from ∙ received_here s chunk octets q law within))
received_work_is s chunk octets q (Err e) law within stepped h = tt
