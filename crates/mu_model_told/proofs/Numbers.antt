-- The numbers of a node's job stay in the ranges of the grammar.
use Rattle.std.proofs.Common.{ℕ, Bool, true, false, cond, Option, Some, None, Result, Ok, Err}
use Rattle.std.specs.Prelude.{MatchOption}
use Rattle.mu_model_image.specs.declared.Meta.{Meta}
use Rattle.mu_model_image.specs.Meta.{is_fit}
use Rattle.mu_model_node.specs.Slots.{joined}
use Rattle.mu_model_node.specs.declared.NodeConfig.{NodeConfig}
use Rattle.mu_model_node.specs.declared.Link.{Link}
use Rattle.mu_model_node.specs.declared.Link.TheVariants.{Cut, Ready, Running}
use Rattle.mu_model_node.specs.declared.Parameters.{Parameters}
use Rattle.mu_model_node.specs.declared.Stored.{Stored}
use Rattle.mu_model_node.specs.declared.Stored.TheVariants.{Filling, Verified, Refused, Applied}
use Rattle.mu_model_node.specs.BlobServer.{Change, Same, Begins, Drops, Puts}
use Rattle.mu_model_node.specs.BlobTable.{Served, on_blob, on_server_time}
use Rattle.mu_model_node.specs.Slots.{is_full}
use Rattle.mu_model_node.specs.UpdateMessages.{UpdateStart, UpdateRequest, InformationGet, MetadataCheck, UpdateGet, StartUpdate, UpdateCancel, UpdateApply}
use Rattle.mu_model_node.specs.NodeMessages.{Request, OfUpdate, OfBlob, request_at}
use Rattle.mu_model_node.specs.NodeState.{Job, NodeState, UpdatePhase, Idle, TransferError, TransferActive, Verifying, Succeeded, Failed, Applying, link_phase, filling_phase, stored_phase, job_phase, update_phase, serving_in, server_of}
use Rattle.mu_model_node.specs.NodeOutcome.{Outcome, job_after, served}
use Rattle.mu_model_node.specs.UpdateTable.{check, takes_checked, takes, same_start, on_update_start, on_update_cancel, on_update_apply, on_update}
use Rattle.mu_model_node.specs.TimeTable.{verified, on_time}
use Rattle.mu_model_node.specs.Events.{NodeEvent, PacketComes, TimeComes, on_request, on_packet, on_event, passed_over, at_moment}
use Rattle.mu_model_node.specs.NodeState.{is_addressee}
use Rattle.mu_model_told.specs.Laws.{AreStartNumbers, AreUpdateNumbers, AreRequestNumbers, AreNumbers, AreJobNumbers, HasNumbers, NumbersStay}

-- the job of a phase
abbrev pub PhaseHas : UpdatePhase → Type 0
PhaseHas Idle = Unit {0}
PhaseHas (TransferError j) = AreJobNumbers j
PhaseHas (TransferActive j) = AreJobNumbers j
PhaseHas (Verifying j) = AreJobNumbers j
PhaseHas (Succeeded j) = AreJobNumbers j
PhaseHas (Failed j) = AreJobNumbers j
PhaseHas (Applying j) = AreJobNumbers j

link_has : (j : Job) (link : Link) → AreJobNumbers j → PhaseHas (link_phase j link)
link_has j Cut h = h
link_has j Ready h = h
link_has j Running h = h

filling_has : (j : Job) (link : Link) (p : Option Parameters) → AreJobNumbers j → PhaseHas (filling_phase j link p)
filling_has j link None h = link_has j link h
filling_has j link (Some p) h = by_full (is_full j.held)
  where
    by_full : (b : Bool) → PhaseHas (cond b (Verifying j) (link_phase j link))
    by_full true = h
    by_full false = link_has j link h

stored_has : (j : Job) (link : Link) (stored : Stored) → AreJobNumbers j → PhaseHas (stored_phase j link stored)
stored_has j link Filling h = filling_has j link j.parameters h
stored_has j link Verified h = h
stored_has j link Refused h = h
stored_has j link Applied h = h

pub phase_has : (link : Link) (job : Option Job) → HasNumbers job → PhaseHas (job_phase link job)
phase_has link None h = tt
phase_has link (Some j) h = stored_has j link j.stored h

-- ---- what the BLOB server did

after_has : (s : NodeState) (c : Change) (job : Option Job) → HasNumbers s.durable.job → HasNumbers job → HasNumbers (job_after s c job).durable.job
after_has s c None h k = h
after_has s Same (Some j) h k = h
after_has s (Puts block octets) (Some j) h k = record { ttl = k.ttl; base = k.base; id = k.id; index = k.index }
after_has s (Begins p) (Some j) h k = record { ttl = k.ttl; base = k.base; id = k.id; index = k.index }
after_has s Drops (Some j) h k = record { ttl = k.ttl; base = k.base; id = k.id; index = k.index }

served_has : (s : NodeState) (o : Served) → HasNumbers s.durable.job → HasNumbers (served s o).next.durable.job
served_has s o h = after_has s o.change s.durable.job h h

-- ---- update requests

pub checked_has : (s : NodeState) (to : ℕ) (u : UpdateStart) (r : Result Meta ℕ) → AreStartNumbers u → HasNumbers s.durable.job → HasNumbers (takes_checked s to u r).next.durable.job
checked_has s to u (Err status) k h = h
checked_has s to u (Ok meta) k h = record { ttl = k.ttl; base = k.base; id = k.id; index = k.index }

takes_has : (s : NodeState) (to : ℕ) (u : UpdateStart) → AreStartNumbers u → HasNumbers s.durable.job → HasNumbers (takes s to u).next.durable.job
takes_has s to u k h = checked_has s to u (check s.durable u.index u.metadata) k h

either_has : (b : Bool) (x y : Outcome) → HasNumbers x.next.durable.job → HasNumbers y.next.durable.job → HasNumbers (cond b x y).next.durable.job
either_has true x y h k = h
either_has false x y h k = k

pub start_has : (s : NodeState) (to : ℕ) (u : UpdateStart) (phase : UpdatePhase) → AreStartNumbers u → HasNumbers s.durable.job → HasNumbers (on_update_start s to u phase).next.durable.job
start_has s to u Idle k h = takes_has s to u k h
start_has s to u (TransferError j) k h = either_has (same_start u j) _ _ h (takes_has s to u k h)
start_has s to u (TransferActive j) k h = either_has (same_start u j) _ _ h h
start_has s to u (Verifying j) k h = h
start_has s to u (Succeeded j) k h = h
start_has s to u (Failed j) k h = takes_has s to u k h
start_has s to u (Applying j) k h = h

pub cancel_has : (s : NodeState) (to : ℕ) (phase : UpdatePhase) → HasNumbers s.durable.job → HasNumbers (on_update_cancel s to phase).next.durable.job
cancel_has s to Idle h = h
cancel_has s to (TransferError j) h = tt
cancel_has s to (TransferActive j) h = tt
cancel_has s to (Verifying j) h = tt
cancel_has s to (Succeeded j) h = tt
cancel_has s to (Failed j) h = tt
cancel_has s to (Applying j) h = h

pub apply_has : (s : NodeState) (to : ℕ) (phase : UpdatePhase) → PhaseHas phase → HasNumbers s.durable.job → HasNumbers (on_update_apply s to phase).next.durable.job
apply_has s to Idle k h = h
apply_has s to (TransferError j) k h = h
apply_has s to (TransferActive j) k h = h
apply_has s to (Verifying j) k h = h
apply_has s to (Succeeded j) k h = record { ttl = k.ttl; base = k.base; id = k.id; index = k.index }
apply_has s to (Failed j) k h = h
apply_has s to (Applying j) k h = h

update_has : (s : NodeState) (to : ℕ) (request : UpdateRequest) → AreUpdateNumbers request → HasNumbers s.durable.job → HasNumbers (on_update s to request).next.durable.job
update_has s to (InformationGet first limit) k h = h
update_has s to (MetadataCheck index metadata) k h = h
update_has s to UpdateGet k h = h
update_has s to (StartUpdate u) k h = start_has s to u (update_phase s) k h
update_has s to UpdateCancel k h = cancel_has s to (update_phase s) h
update_has s to UpdateApply k h = apply_has s to (update_phase s) (phase_has s.session.link s.durable.job h) h

-- ---- events

request_has : (s : NodeState) (from : ℕ) (request : Request) → AreRequestNumbers request → HasNumbers s.durable.job → HasNumbers (on_request s from request).next.durable.job
request_has s from (OfUpdate request) k h = update_has s from request k h
request_has s from (OfBlob request) k h = served_has s (on_blob (server_of s) from request) h

verified_has : (s : NodeState) (j : Job) (b : Bool) → AreJobNumbers j → HasNumbers (verified s j b).durable.job
verified_has s j true k = record { ttl = k.ttl; base = k.base; id = k.id; index = k.index }
verified_has s j false k = record { ttl = k.ttl; base = k.base; id = k.id; index = k.index }

time_has : (s : NodeState) (phase : UpdatePhase) → PhaseHas phase → HasNumbers s.durable.job → HasNumbers (on_time s phase).next.durable.job
time_has s (Applying j) k h = tt
time_has s (Verifying j) k h = verified_has s j (is_fit (joined j.held) j.meta) k
time_has s Idle k h = served_has s (on_server_time (server_of s) (serving_in Idle)) h
time_has s (TransferError j) k h = served_has s (on_server_time (server_of s) (serving_in (TransferError j))) h
time_has s (TransferActive j) k h = served_has s (on_server_time (server_of s) (serving_in (TransferActive j))) h
time_has s (Succeeded j) k h = served_has s (on_server_time (server_of s) (serving_in (Succeeded j))) h
time_has s (Failed j) k h = served_has s (on_server_time (server_of s) (serving_in (Failed j))) h

packet_has : (config : NodeConfig) (s : NodeState) (from : ℕ) (request : Option Request) → MatchOption request (Unit {0}) AreRequestNumbers → HasNumbers s.durable.job → HasNumbers (on_packet config s from request).next.durable.job
packet_has config s from (Some request) k h = request_has s from request k h
packet_has config s from None k h = h

event_has : (config : NodeConfig) (s : NodeState) (event : NodeEvent) → AreNumbers event → HasNumbers s.durable.job → HasNumbers (on_event config s event).next.durable.job
event_has config s (PacketComes packet) k h =
    elim (is_addressee config packet) as (λ b. HasNumbers (cond b (on_packet config s packet.from (request_at packet.payload)) (passed_over s)).next.durable.job) [ true ↦ packet_has config s packet.from (request_at packet.payload) k h | false ↦ h ]
event_has config s TimeComes k h = time_has s (update_phase s) (phase_has s.session.link s.durable.job h) h

pub numbers_stay : NumbersStay
numbers_stay config s event now k h = event_has config (at_moment s now) event k h
