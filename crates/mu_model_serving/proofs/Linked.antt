-- Of a job that was refused the link is Cut.
use Rattle.std.proofs.Common.{◌≡◌, ℕ, Bool, true, false, refl, sym, ap, subst, ◌∙◌, cond, Option, Some, None, Result, Ok, Err}
use Rattle.mu_model_image.specs.declared.Meta.{Meta}
use Rattle.mu_model_image.specs.Meta.{is_fit}
use Rattle.mu_model_node.specs.Slots.{is_full, joined}
use Rattle.mu_model_node.specs.declared.Parameters.{Parameters}
use Rattle.mu_model_node.specs.declared.NodeConfig.{NodeConfig}
use Rattle.mu_model_node.specs.BlobMessages.{BlobRequest, BlobInformationGet, TransferGet, TransferStart, TransferCancel, BlockStart, BlockGet, ChunkTransfer}
use Rattle.mu_model_node.specs.UpdateMessages.{UpdateStart, UpdateRequest, InformationGet, MetadataCheck, UpdateGet, StartUpdate, UpdateCancel, UpdateApply}
use Rattle.mu_model_node.specs.NodeMessages.{Request, OfUpdate, OfBlob, request_at}
use Rattle.mu_model_node.specs.declared.Link.{Link}
use Rattle.mu_model_node.specs.declared.Link.TheVariants.{Cut, Ready, Running}
use Rattle.mu_model_node.specs.BlobServer.{Session, NoJob, Change, Same, Begins, Drops, Puts, heard_at, made_ready}
use Rattle.mu_model_node.specs.BlobTable.{Served, silently, on_blob, on_server_time}
use Rattle.mu_model_node.specs.declared.Stored.{Stored}
use Rattle.mu_model_node.specs.declared.Stored.TheVariants.{Filling, Verified, Refused, Applied}
use Rattle.mu_model_node.specs.NodeState.{Job, NodeState, is_addressee, UpdatePhase, Idle, TransferError, TransferActive, Verifying, Succeeded, Failed, Applying, link_phase, filling_phase, stored_phase, job_phase, update_phase, serving_in, server_of}
use Rattle.mu_model_node.specs.NodeOutcome.{job_after, served, with_session}
use Rattle.mu_model_node.specs.UpdateTable.{check, takes_checked, takes, same_start, answer, on_update_start, on_update_cancel, on_update_apply, on_update}
use Rattle.mu_model_node.specs.declared.FlashWork.TheVariants.{Untouched}
use Rattle.mu_model_node.specs.TimeTable.{verified, on_time}
use Rattle.mu_model_node.specs.Events.{NodeEvent, PacketComes, TimeComes, at_moment, on_request, on_packet, passed_over, on_event}
use Rattle.mu_model_serving.specs.Laws.{CutIfRefused, HasItsLink, IsLinked, BootsAreLinked, EventsKeepLinked}

-- ---- boots

cut_by : (st : Stored) → CutIfRefused st Cut
cut_by Filling = tt
cut_by Verified = tt
cut_by Refused = refl
cut_by Applied = tt

cut_job : (job : Option Job) → HasItsLink job Cut
cut_job None = tt
cut_job (Some j) = cut_by j.stored

pub boots_linked : BootsAreLinked
boots_linked d = cut_job d.job

-- ---- BLOB messages

-- without a job no message changes the session
quiet : (capacity : ℕ) (l : Session) (now from : ℕ) (request : BlobRequest) → (on_blob (record { capacity = capacity; serving = NoJob; session = l; now = now }) from request).session ≡ l
quiet capacity l now from BlobInformationGet = refl
quiet capacity l now from TransferGet = refl
quiet capacity l now from (TransferStart id p) = refl
quiet capacity l now from (TransferCancel id) = refl
quiet capacity l now from (BlockStart block size) = refl
quiet capacity l now from BlockGet = refl
quiet capacity l now from (ChunkTransfer chunk octets) = refl

by_stored : (capacity : ℕ) (l : Session) (now from : ℕ) (request : BlobRequest) (j : Job) (st : Stored) → CutIfRefused st l.link
    → CutIfRefused st (on_blob (record { capacity = capacity; serving = serving_in (stored_phase j l.link st); session = l; now = now }) from request).session.link
by_stored capacity l now from request j Filling h = tt
by_stored capacity l now from request j Verified h = tt
by_stored capacity l now from request j Refused h = ap (λ (k : Session). k.link) (quiet capacity l now from request) ∙ h
by_stored capacity l now from request j Applied h = tt

by_job : (capacity : ℕ) (l : Session) (now from : ℕ) (request : BlobRequest) (job : Option Job) → HasItsLink job l.link
    → HasItsLink job (on_blob (record { capacity = capacity; serving = serving_in (job_phase l.link job); session = l; now = now }) from request).session.link
by_job capacity l now from request None h = tt
by_job capacity l now from request (Some j) h = by_stored capacity l now from request j j.stored h

after_linked : (s : NodeState) (c : Change) (job : Option Job) (link : Link) → s.durable.job ≡ job → HasItsLink job link → HasItsLink (job_after s c job).durable.job link
after_linked s c None link e h = rw e tt
after_linked s Same (Some j) link e h = subst (λ x. HasItsLink x link) (sym e) h
after_linked s (Begins p) (Some j) link e h = h
after_linked s Drops (Some j) link e h = h
after_linked s (Puts block octets) (Some j) link e h = h

served_linked : (s : NodeState) (o : Served) → HasItsLink s.durable.job o.session.link → IsLinked (served s o).next
served_linked s o h = after_linked s o.change s.durable.job o.session.link refl h

blob_linked : (s : NodeState) (from : ℕ) (request : BlobRequest) → IsLinked s → IsLinked (served s (on_blob (server_of s) from request)).next
blob_linked s from request h = served_linked s (on_blob (server_of s) from request) (by_job s.durable.capacity s.session s.moment from request s.durable.job h)

-- ---- while blocks come any link goes

abbrev AnyBy : UpdatePhase → Stored → Type 0
AnyBy (TransferError j) st = (link : Link) → CutIfRefused st link
AnyBy (TransferActive j) st = (link : Link) → CutIfRefused st link
AnyBy _ st = Unit {0}

abbrev AnyLink : UpdatePhase → Option Job → Type 0
AnyLink phase None = Unit {0}
AnyLink phase (Some j) = AnyBy phase j.stored

any_linked : (j : Job) (link : Link) → AnyBy (link_phase j link) Filling
any_linked j Cut = λ other. tt
any_linked j Ready = λ other. tt
any_linked j Running = λ other. tt

any_filling : (j : Job) (link : Link) (p : Option Parameters) → AnyBy (filling_phase j link p) Filling
any_filling j link None = any_linked j link
any_filling j link (Some p) = elim (is_full j.held) as (λ b. AnyBy (cond b (Verifying j) (link_phase j link)) Filling) [ true ↦ tt | false ↦ any_linked j link ]

any_stored : (j : Job) (link : Link) (st : Stored) → AnyBy (stored_phase j link st) st
any_stored j link Filling = any_filling j link j.parameters
any_stored j link Verified = tt
any_stored j link Refused = tt
any_stored j link Applied = tt

any_job : (link : Link) (job : Option Job) → AnyLink (job_phase link job) job
any_job link None = tt
any_job link (Some j) = any_stored j link j.stored

while_broken : (j : Job) (job : Option Job) → AnyLink (TransferError j) job → (link : Link) → HasItsLink job link
while_broken j None h link = tt
while_broken j (Some own) h link = h link

while_coming : (j : Job) (job : Option Job) → AnyLink (TransferActive j) job → (link : Link) → HasItsLink job link
while_coming j None h link = tt
while_coming j (Some own) h link = h link

-- ---- update messages

takes_linked : (s : NodeState) (to : ℕ) (u : UpdateStart) (r : Result Meta ℕ) → IsLinked s → IsLinked (takes_checked s to u r).next
takes_linked s to u (Ok meta) h = tt
takes_linked s to u (Err status) h = h

start_linked : (s : NodeState) (to : ℕ) (u : UpdateStart) (phase : UpdatePhase) → AnyLink phase s.durable.job → IsLinked s → IsLinked (on_update_start s to u phase).next
start_linked s to u Idle a h = takes_linked s to u (check s.durable u.index u.metadata) h
start_linked s to u (TransferError j) a h =
    elim (same_start u j) as (λ b. IsLinked (cond b (answer (with_session s (made_ready s.moment s.session)) Untouched to 0) (takes s to u)).next) [
      | true ↦ while_broken j s.durable.job a Ready
      | false ↦ takes_linked s to u (check s.durable u.index u.metadata) h
    ]
start_linked s to u (TransferActive j) a h =
    elim (same_start u j) as (λ b. IsLinked (cond b (answer (with_session s (heard_at s.moment s.session)) Untouched to 0) (answer s Untouched to 2)).next) [ true ↦ h | false ↦ h ]
start_linked s to u (Verifying j) a h = h
start_linked s to u (Succeeded j) a h = h
start_linked s to u (Failed j) a h = takes_linked s to u (check s.durable u.index u.metadata) h
start_linked s to u (Applying j) a h = h

cancel_linked : (s : NodeState) (to : ℕ) (phase : UpdatePhase) → IsLinked s → IsLinked (on_update_cancel s to phase).next
cancel_linked s to Idle h = h
cancel_linked s to (TransferError j) h = tt
cancel_linked s to (TransferActive j) h = tt
cancel_linked s to (Verifying j) h = tt
cancel_linked s to (Succeeded j) h = tt
cancel_linked s to (Failed j) h = tt
cancel_linked s to (Applying j) h = h

apply_linked : (s : NodeState) (to : ℕ) (phase : UpdatePhase) → IsLinked s → IsLinked (on_update_apply s to phase).next
apply_linked s to Idle h = h
apply_linked s to (TransferError j) h = h
apply_linked s to (TransferActive j) h = h
apply_linked s to (Verifying j) h = h
apply_linked s to (Succeeded j) h = tt
apply_linked s to (Failed j) h = h
apply_linked s to (Applying j) h = h

update_linked : (s : NodeState) (to : ℕ) (request : UpdateRequest) → IsLinked s → IsLinked (on_update s to request).next
update_linked s to (InformationGet first limit) h = h
update_linked s to (MetadataCheck index metadata) h = h
update_linked s to UpdateGet h = h
update_linked s to (StartUpdate u) h = start_linked s to u (update_phase s) (any_job s.session.link s.durable.job) h
update_linked s to UpdateCancel h = cancel_linked s to (update_phase s) h
update_linked s to UpdateApply h = apply_linked s to (update_phase s) h

-- ---- time

verified_linked : (s : NodeState) (j : Job) (b : Bool) → IsLinked (verified s j b)
verified_linked s j true = tt
verified_linked s j false = refl

time_linked : (s : NodeState) (phase : UpdatePhase) → AnyLink phase s.durable.job → IsLinked s → IsLinked (on_time s phase).next
time_linked s Idle a h = served_linked s (silently s.session) h
time_linked s (TransferError j) a h = served_linked s (on_server_time (server_of s) (serving_in (TransferError j))) (while_broken j s.durable.job a _)
time_linked s (TransferActive j) a h = served_linked s (on_server_time (server_of s) (serving_in (TransferActive j))) (while_coming j s.durable.job a _)
time_linked s (Verifying j) a h = verified_linked s j (is_fit (joined j.held) j.meta)
time_linked s (Succeeded j) a h = served_linked s (silently s.session) h
time_linked s (Failed j) a h = served_linked s (silently s.session) h
time_linked s (Applying j) a h = tt

-- ---- events

pub request_linked : (s : NodeState) (from : ℕ) (request : Request) → IsLinked s → IsLinked (on_request s from request).next
request_linked s from (OfUpdate request) h = update_linked s from request h
request_linked s from (OfBlob request) h = blob_linked s from request h

packet_linked : (config : NodeConfig) (s : NodeState) (from : ℕ) (request : Option Request) → IsLinked s → IsLinked (on_packet config s from request).next
packet_linked config s from (Some request) h = request_linked s from request h
packet_linked config s from None h = h

event_linked : (config : NodeConfig) (s : NodeState) (event : NodeEvent) → IsLinked s → IsLinked (on_event config s event).next
event_linked config s (PacketComes packet) h =
    elim (is_addressee config packet) as (λ b. IsLinked (cond b (on_packet config s packet.from (request_at packet.payload)) (passed_over s)).next) [
      | true ↦ packet_linked config s packet.from (request_at packet.payload) h
      | false ↦ h
    ]
event_linked config s TimeComes h = time_linked s (update_phase s) (any_job s.session.link s.durable.job) h

pub events_linked : EventsKeepLinked
events_linked config s event now h = event_linked config (at_moment s now) event h
