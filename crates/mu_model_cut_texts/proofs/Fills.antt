-- What an event does to a node's record: it writes another, or it changes nothing, or it holds a block of a bank in filling.
use Rattle.std.proofs.Common.{◌≡◌, ◌+◌, ℕ, Bool, true, false, List, refl, sym, subst, cond, Option, Some, None, Result, Ok, Err}
use Rattle.std.specs.Prelude.{⊤, ◌==◌, ◌||◌, not, nat_lt, nat_le}
use Rattle.mu_model_image.specs.declared.Meta.{Meta}
use Rattle.mu_model_wire.specs.declared.reports.Report.{Report}
use Rattle.mu_model_image.specs.Meta.{is_fit}
use Rattle.mu_model_node.specs.declared.NodeConfig.{NodeConfig}
use Rattle.mu_model_node.specs.declared.Parameters.{Parameters}
use Rattle.mu_model_node.specs.declared.LastBlock.{LastBlock}
use Rattle.mu_model_node.specs.declared.Link.{Link}
use Rattle.mu_model_node.specs.declared.Link.TheVariants.{Cut, Ready, Running}
use Rattle.mu_model_node.specs.declared.Stored.{Stored}
use Rattle.mu_model_node.specs.declared.Stored.TheVariants.{Filling, Verified, Refused, Applied}
use Rattle.mu_model_node.specs.Slots.{joined}
use Rattle.mu_model_node.specs.BlobMessages.{BlobRequest, BlobInformationGet, TransferGet, TransferStart, TransferCancel, BlockStart, BlockGet, ChunkTransfer, least_log, most_log}
use Rattle.mu_model_node.specs.BlobServer.{Transfer, CurrentBlock, Session, linked, unlinked, Serving, NoJob, Lacking, Whole, Server, BlobPhase, Inactive, WaitingForStart, NextBlock, NextChunk, Complete, Suspended, server_phase, Change, Same, Begins, Drops, Puts}
use Rattle.mu_model_node.specs.BlobTable.{Served, silently, tell, refuse, tell_block, same_parameters, are_parameters, is_ready, is_due, timeout, drop_transfer, for_id, starts, resumes, repeats, on_transfer_start, on_transfer_cancel, on_block_start, on_block_get, tell_last, on_chunk_transfer, is_pull, pulls, waits, times_out, on_server_time, on_blob}
use Rattle.mu_model_node.specs.UpdateMessages.{UpdateStart, UpdateRequest, InformationGet, MetadataCheck, UpdateGet, StartUpdate, UpdateCancel, UpdateApply}
use Rattle.mu_model_node.specs.NodeMessages.{Request, OfUpdate, OfBlob, request_at}
use Rattle.mu_model_node.specs.NodeState.{Job, NodeDurable, NodeState, UpdatePhase, Idle, TransferError, TransferActive, Verifying, Succeeded, Failed, Applying, update_phase, serving_in, server_of, blob_phase, is_addressee}
use Rattle.mu_model_node.specs.NodeOutcome.{Outcome, job_changed, served}
use Rattle.mu_model_node.specs.UpdateTable.{same_start, check, takes_checked, takes, on_update_start, on_update_cancel, on_update_apply, on_update}
use Rattle.mu_model_node.specs.TimeTable.{verified, on_time}
use Rattle.mu_model_node.specs.Events.{NodeEvent, PacketComes, TimeComes, at_moment, passed_over, on_request, on_packet, on_event, node_step}
use Rattle.mu_model_node.specs.Laws.{blocks_held, WaitsForChunks, ChunksAreOfTheJob}
use Rattle.mu_model_node.specs.Sound.{HasCurrent, IsNodeState}
use Rattle.mu_model_world.specs.Outcomes.{held_in_stored, filling_held}

-- the held blocks are those of a bank in filling
abbrev pub Fills : Option Job → Type 0
Fills job = filling_held job ≡ blocks_held job

-- from the state that stood to the next
pub data Goes (old new : NodeDurable) : Type 0 where
  writes : new.count ≡ old.count + 1 → Goes old new
  stands : new ≡ old → Goes old new
  holds : Fills old.job → Fills new.job → Goes old new

-- ---- requests of an update

record Kind (s : NodeState) (o : Outcome) : Type 0 where
  pub goes : Goes s.durable o.next.durable

still : (s : NodeState) (o : Outcome) → o.next.durable ≡ s.durable → Kind s o
still s o e = record { goes = stands e }

either : (s : NodeState) (b : Bool) (x y : Outcome) → Kind s x → Kind s y → Kind s (cond b x y)
either s true x y h k = h
either s false x y h k = k

checked : (s : NodeState) (to : ℕ) (u : UpdateStart) (r : Result Meta ℕ) → Kind s (takes_checked s to u r)
checked s to u (Err status) = still s _ refl
checked s to u (Ok meta) = record { goes = writes refl }

taken : (s : NodeState) (to : ℕ) (u : UpdateStart) → Kind s (takes s to u)
taken s to u = checked s to u (check s.durable u.index u.metadata)

started : (s : NodeState) (to : ℕ) (u : UpdateStart) (phase : UpdatePhase) → Kind s (on_update_start s to u phase)
started s to u Idle = taken s to u
started s to u (TransferError j) = either s (same_start u j) _ _ (still s _ refl) (taken s to u)
started s to u (TransferActive j) = either s (same_start u j) _ _ (still s _ refl) (still s _ refl)
started s to u (Verifying j) = still s _ refl
started s to u (Succeeded j) = still s _ refl
started s to u (Failed j) = taken s to u
started s to u (Applying j) = still s _ refl

canceled : (s : NodeState) (to : ℕ) (phase : UpdatePhase) → Kind s (on_update_cancel s to phase)
canceled s to Idle = still s _ refl
canceled s to (Applying j) = still s _ refl
canceled s to _ = record { goes = writes refl }

applied : (s : NodeState) (to : ℕ) (phase : UpdatePhase) → Kind s (on_update_apply s to phase)
applied s to (Succeeded j) = record { goes = writes refl }
applied s to (Applying j) = still s _ refl
applied s to _ = still s _ refl

updated : (s : NodeState) (to : ℕ) (request : UpdateRequest) → Kind s (on_update s to request)
updated s to (InformationGet first limit) = still s _ refl
updated s to (MetadataCheck index metadata) = still s _ refl
updated s to UpdateGet = still s _ refl
updated s to (StartUpdate u) = started s to u (update_phase s)
updated s to UpdateCancel = canceled s to (update_phase s)
updated s to UpdateApply = applied s to (update_phase s)

-- ---- what the BLOB server does

-- no block is put
abbrev NoPut : Change → Type 0
NoPut (Puts block octets) = ⊥
NoPut _ = ⊤

pub record Unput (o : Served) : Type 0 where
  pub none : NoPut o.change

split : (b : Bool) (x y : Served) → Unput x → Unput y → Unput (cond b x y)
split true x y h k = h
split false x y h k = k

told : (v : Server) (l : Session) (change : Change) (to status : ℕ) → NoPut change → Unput (tell v l change to status)
told v l change to status h = record { none = h }

refused : (v : Server) (to status : ℕ) → Unput (refuse v to status)
refused v to status = record { none = tt }

block : (l : Session) (to status number size : ℕ) (report : Report) → Unput (tell_block l to status number size report)
block l to status number size report = record { none = tt }

over : (l : Session) → Unput (silently l)
over l = record { none = tt }

begun : (v : Server) (to : ℕ) (p : Parameters) (t : Transfer) → Unput (starts v to p t)
begun v to p t =
    split (nat_lt v.capacity p.size) _ _ (refused v to 7)
    (split (nat_lt p.log least_log || nat_lt most_log p.log) _ _ (refused v to 2)
    (split (not (p.size == t.size)) _ _ (refused v to 5) (told v (linked v.now to v.session) (Begins p) to 0 tt)))

resumed : (v : Server) (to : ℕ) (p q : Parameters) → Unput (resumes v to p q)
resumed v to p q = split (same_parameters p q) _ _ (told v (linked v.now to v.session) Same to 0 tt) (refused v to 5)

repeated : (v : Server) (heard : Session) (to : ℕ) (p : Parameters) (t : Transfer) → Unput (repeats v heard to p t)
repeated v heard to p t = split (are_parameters p t.parameters) _ _ (told v heard Same to 0 tt) (refused v to 4)

by_id : (v : Server) (to id : ℕ) (t : Transfer) (o : Served) → Unput o → Unput (for_id v to id t o)
by_id v to id t o h = split (id == t.id) o _ h (refused v to 6)

transfer_started : (v : Server) (to id : ℕ) (p : Parameters) (phase : BlobPhase) → Unput (on_transfer_start v to id p phase)
transfer_started v to id p (WaitingForStart t) = by_id v to id t _ (begun v to p t)
transfer_started v to id p (Suspended t q) = split (is_ready v.session.link) _ _ (by_id v to id t _ (resumed v to p q)) (refused v to 4)
transfer_started v to id p (NextBlock t q) = by_id v to id t _ (repeated v _ to p t)
transfer_started v to id p (NextChunk t q c) = by_id v to id t _ (repeated v _ to p t)
transfer_started v to id p (Complete t) = by_id v to id t _ (repeated v _ to p t)
transfer_started v to id p Inactive = refused v to 4

dropped : (v : Server) (to : ℕ) (p : Option Parameters) → Unput (drop_transfer v to p)
dropped v to None = told v (unlinked v.session) Same to 0 tt
dropped v to (Some p) = told v (unlinked v.session) Drops to 0 tt

transfer_canceled : (v : Server) (to id : ℕ) (serving : Serving) → Unput (on_transfer_cancel v to id serving)
transfer_canceled v to id NoJob = told v v.session Same to 0 tt
transfer_canceled v to id (Lacking t) = by_id v to id t _ (dropped v to t.parameters)
transfer_canceled v to id (Whole t) = by_id v to id t _ (refused v to 4)

block_started : (v : Server) (to number size : ℕ) (phase : BlobPhase) → Unput (on_block_start v to number size phase)
block_started v to number size (NextChunk t p c) = search (split, block)
block_started v to number size (NextBlock t p) = search (split, block)
block_started v to number size _ = block _ to 4 number size _

last_told : (l heard : Session) (to : ℕ) (last : Option LastBlock) → Unput (tell_last l heard to last)
last_told l heard to None = block _ to 4 0 0 _
last_told l heard to (Some b) = block _ to 0 b.number b.chunk_size _

block_told : (v : Server) (to : ℕ) (phase : BlobPhase) → Unput (on_block_get v to phase)
block_told v to (NextChunk t p c) = block _ to 0 c.number c.chunk_size _
block_told v to (NextBlock t p) = last_told v.session _ to v.session.last
block_told v to (Complete t) = last_told v.session _ to v.session.last
block_told v to _ = block _ to 4 0 0 _

pulled : (v : Server) (c : CurrentBlock) (b : Bool) (x : Served) → x.change ≡ Same → Unput (cond b x (silently v.session))
pulled v c true x e = record { none = rw e tt }
pulled v c false x e = over v.session

waited : (v : Server) (phase : BlobPhase) → Unput (waits v phase)
waited v (NextChunk t p c) = split (is_pull p) (pulls v c) _ (pulled v c (is_due v c v.session.report) _ refl) (over v.session)
waited v _ = over v.session

timed_out : (v : Server) (t : Transfer) (link : Link) → Unput (times_out v t link)
timed_out v t Cut = over v.session
timed_out v t Ready = split (nat_le (v.session.heard + timeout t.base) v.now) _ _ (over (unlinked v.session)) (waited v (server_phase v))
timed_out v t Running = split (nat_le (v.session.heard + timeout t.base) v.now) _ _ (over (unlinked v.session)) (waited v (server_phase v))

server_timed : (v : Server) (serving : Serving) → Unput (on_server_time v serving)
server_timed v (Lacking t) = timed_out v t v.session.link
server_timed v NoJob = over v.session
server_timed v (Whole t) = over v.session

-- ---- in the state of the node

abbrev FillingOf : Option Job → Type 0
FillingOf None = ⊥
FillingOf (Some j) = j.stored ≡ Filling

changes_none : (s : NodeState) (o : Served) (c : Change) → o.change ≡ c → (job : Option Job) → s.durable.job ≡ job → NoPut c → Kind s (served s o)
changes_none s o Same e None is h = still s _ (rw (e, is) refl)
changes_none s o Same e (Some j) is h = still s _ (rw (e, is) refl)
changes_none s o (Begins p) e None is h = still s _ (rw (e, is) refl)
changes_none s o (Begins p) e (Some j) is h = record { goes = writes (rw (e, is) refl) }
changes_none s o Drops e None is h = still s _ (rw (e, is) refl)
changes_none s o Drops e (Some j) is h = record { goes = writes (rw (e, is) refl) }
changes_none s o (Puts block octets) e job is h = absurd h

unput : (s : NodeState) (o : Served) → Unput o → Kind s (served s o)
unput s o h = changes_none s o o.change refl s.durable.job refl h.none

filling_held_all : (j : Job) (stored : Stored) → stored ≡ Filling → held_in_stored j stored ≡ blocks_held (Some j)
filling_held_all j Filling e = refl
filling_held_all j Verified e = cc
filling_held_all j Refused e = cc
filling_held_all j Applied e = cc

fills : (job : Option Job) (j : Job) → job ≡ Some j → j.stored ≡ Filling → Fills job
fills job j is e = subst Fills (sym is) (filling_held_all j j.stored e)

put : (s : NodeState) (o : Served) (c : Change) → o.change ≡ c → (job : Option Job) → s.durable.job ≡ job → FillingOf job → Kind s (served s o)
put s o (Puts number octets) e None is f = absurd f
put s o (Puts number octets) e (Some j) is f =
    record { goes = holds (fills s.durable.job j is f) (fills (served s o).next.durable.job (job_changed (Puts number octets) j) (rw (e, is) refl) f) }
put s o Same e job is f = changes_none s o Same e job is tt
put s o (Begins p) e job is f = changes_none s o (Begins p) e job is tt
put s o Drops e job is f = changes_none s o Drops e job is tt

current_fills : (job : Option Job) (current : Option CurrentBlock) (c : CurrentBlock) → current ≡ Some c → HasCurrent job current → FillingOf job
current_fills job None c e h = cc
current_fills job (Some d) c e h = subst FillingOf (sym h.is) h.filling

module _ (chunks : ChunksAreOfTheJob) where
  chunk_came : (s : NodeState) (chunk : ℕ) (octets : List ℕ) (phase : BlobPhase) → IsNodeState s → blob_phase s ≡ phase → Kind s (served s (on_chunk_transfer (server_of s) chunk octets phase))
  chunk_came s chunk octets (NextChunk t p c) sound is =
      let waits : WaitsForChunks s t p c = chunks s t p c is in
      put s _ _ refl s.durable.job refl (current_fills s.durable.job s.session.current c waits.current sound.current)
  chunk_came s chunk octets Inactive sound is = unput s _ (over s.session)
  chunk_came s chunk octets (WaitingForStart t) sound is = unput s _ (over s.session)
  chunk_came s chunk octets (NextBlock t p) sound is = unput s _ (over s.session)
  chunk_came s chunk octets (Complete t) sound is = unput s _ (over s.session)
  chunk_came s chunk octets (Suspended t p) sound is = unput s _ (over s.session)

  blob_came : (s : NodeState) (to : ℕ) (request : BlobRequest) → IsNodeState s → Kind s (served s (on_blob (server_of s) to request))
  blob_came s to BlobInformationGet sound = unput s (on_blob (server_of s) to BlobInformationGet) (record { none = tt })
  blob_came s to TransferGet sound = unput s _ (told (server_of s) s.session Same to 0 tt)
  blob_came s to (TransferStart id p) sound = unput s _ (transfer_started (server_of s) to id p (server_phase (server_of s)))
  blob_came s to (TransferCancel id) sound = unput s _ (transfer_canceled (server_of s) to id (server_of s).serving)
  blob_came s to (BlockStart block size) sound = unput s _ (block_started (server_of s) to block size (server_phase (server_of s)))
  blob_came s to BlockGet sound = unput s _ (block_told (server_of s) to (server_phase (server_of s)))
  blob_came s to (ChunkTransfer chunk octets) sound = chunk_came s chunk octets (blob_phase s) sound refl

  request_came : (s : NodeState) (from : ℕ) (request : Request) → IsNodeState s → Kind s (on_request s from request)
  request_came s from (OfUpdate request) sound = updated s from request
  request_came s from (OfBlob request) sound = blob_came s from request sound

  verified_so : (s : NodeState) (j : Job) (b : Bool) → Goes s.durable (verified s j b).durable
  verified_so s j true = writes refl
  verified_so s j false = writes refl

  time_came : (s : NodeState) (phase : UpdatePhase) → Kind s (on_time s phase)
  time_came s (Applying j) = record { goes = writes refl }
  time_came s (Verifying j) = record { goes = verified_so s j (is_fit (joined j.held) j.meta) }
  time_came s Idle = unput s _ (server_timed (server_of s) (serving_in Idle))
  time_came s (TransferError j) = unput s _ (server_timed (server_of s) (serving_in (TransferError j)))
  time_came s (TransferActive j) = unput s _ (server_timed (server_of s) (serving_in (TransferActive j)))
  time_came s (Succeeded j) = unput s _ (server_timed (server_of s) (serving_in (Succeeded j)))
  time_came s (Failed j) = unput s _ (server_timed (server_of s) (serving_in (Failed j)))

  packet_came : (config : NodeConfig) (s : NodeState) (from : ℕ) (request : Option Request) → IsNodeState s → Goes s.durable (on_packet config s from request).next.durable
  packet_came config s from (Some request) sound = (request_came s from request sound).goes
  packet_came config s from None sound = stands refl

  event_came : (config : NodeConfig) (s : NodeState) (event : NodeEvent) → IsNodeState s → Goes s.durable (on_event config s event).next.durable
  event_came config s (PacketComes packet) sound =
      elim (is_addressee config packet) as (λ b. Goes s.durable (cond b (on_packet config s packet.from (request_at packet.payload)) (passed_over s)).next.durable) [
        | true ↦ packet_came config s packet.from (request_at packet.payload) sound
        | false ↦ stands refl
      ]
  event_came config s TimeComes sound = (time_came s (update_phase s)).goes

  moved : (s : NodeState) (now : ℕ) → IsNodeState s → IsNodeState (at_moment s now)
  moved s now h = record { durable = h.durable; fresh = h.fresh; current = h.current }

  -- EACH EVENT GOES SO
  pub event_goes : (config : NodeConfig) (s : NodeState) (event : NodeEvent) (now : ℕ) → IsNodeState s → Goes s.durable (node_step config s event now).next.durable
  event_goes config s event now h = event_came config (at_moment s now) event (moved s now h)
