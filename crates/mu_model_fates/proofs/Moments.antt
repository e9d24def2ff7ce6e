-- The moment of a node is the greatest that it was handed.
use Rattle.std.proofs.Common.{◌≡◌, ℕ, Bool, true, false, refl, cond, Option, Some, None, Result, Ok, Err, max}
use Rattle.mu_model_image.specs.declared.Meta.{Meta}
use Rattle.mu_model_image.specs.Meta.{is_fit}
use Rattle.mu_model_node.specs.Slots.{joined}
use Rattle.mu_model_node.specs.BlobServer.{Change, Same, Begins, Drops, Puts}
use Rattle.mu_model_node.specs.BlobTable.{Served, on_blob, on_server_time}
use Rattle.mu_model_node.specs.UpdateMessages.{UpdateStart, UpdateRequest, InformationGet, MetadataCheck, UpdateGet, StartUpdate, UpdateCancel, UpdateApply}
use Rattle.mu_model_node.specs.NodeMessages.{Request, OfUpdate, OfBlob, request_at}
use Rattle.mu_model_node.specs.NodeState.{Job, NodeState, UpdatePhase, Idle, TransferError, TransferActive, Verifying, Succeeded, Failed, Applying, update_phase, serving_in, server_of, is_addressee}
use Rattle.mu_model_node.specs.NodeOutcome.{Outcome, job_after, served}
use Rattle.mu_model_node.specs.UpdateTable as u
use Rattle.mu_model_node.specs.UpdateTable.{check, same_start, on_update}
use Rattle.mu_model_node.specs.TimeTable.{verified, on_time}
use Rattle.mu_model_node.specs.declared.NodeConfig.{NodeConfig}
use Rattle.mu_model_node.specs.Events.{NodeEvent, PacketComes, TimeComes, at_moment, on_packet, passed_over, on_request, node_step}

abbrev Keeps : NodeState → Outcome → Type 0
Keeps s o = o.next.moment ≡ s.moment

after_keeps : (s : NodeState) (c : Change) (job : Option Job) → (job_after s c job).moment ≡ s.moment
after_keeps s c None = refl
after_keeps s Same (Some j) = refl
after_keeps s (Puts block octets) (Some j) = refl
after_keeps s (Begins p) (Some j) = refl
after_keeps s Drops (Some j) = refl

served_keeps : (s : NodeState) (o : Served) → Keeps s (served s o)
served_keeps s o = after_keeps s o.change s.durable.job

either : (s : NodeState) (b : Bool) (x y : Outcome) → Keeps s x → Keeps s y → Keeps s (cond b x y)
either s true x y h k = h
either s false x y h k = k

checked_keeps : (s : NodeState) (to : ℕ) (start : UpdateStart) (r : Result Meta ℕ) → Keeps s (u.takes_checked s to start r)
checked_keeps s to start (Ok meta) = refl
checked_keeps s to start (Err status) = refl

takes_keeps : (s : NodeState) (to : ℕ) (start : UpdateStart) → Keeps s (u.takes s to start)
takes_keeps s to start = checked_keeps s to start (check s.durable start.index start.metadata)

start_keeps : (s : NodeState) (to : ℕ) (start : UpdateStart) (phase : UpdatePhase) → Keeps s (u.on_update_start s to start phase)
start_keeps s to start Idle = takes_keeps s to start
start_keeps s to start (TransferError j) = either s (same_start start j) _ _ refl (takes_keeps s to start)
start_keeps s to start (TransferActive j) = either s (same_start start j) _ _ refl refl
start_keeps s to start (Verifying j) = refl
start_keeps s to start (Succeeded j) = refl
start_keeps s to start (Failed j) = takes_keeps s to start
start_keeps s to start (Applying j) = refl

cancel_keeps : (s : NodeState) (to : ℕ) (phase : UpdatePhase) → Keeps s (u.on_update_cancel s to phase)
cancel_keeps s to Idle = refl
cancel_keeps s to (TransferError j) = refl
cancel_keeps s to (TransferActive j) = refl
cancel_keeps s to (Verifying j) = refl
cancel_keeps s to (Succeeded j) = refl
cancel_keeps s to (Failed j) = refl
cancel_keeps s to (Applying j) = refl

apply_keeps : (s : NodeState) (to : ℕ) (phase : UpdatePhase) → Keeps s (u.on_update_apply s to phase)
apply_keeps s to Idle = refl
apply_keeps s to (TransferError j) = refl
apply_keeps s to (TransferActive j) = refl
apply_keeps s to (Verifying j) = refl
apply_keeps s to (Succeeded j) = refl
apply_keeps s to (Failed j) = refl
apply_keeps s to (Applying j) = refl

update_keeps : (s : NodeState) (to : ℕ) (request : UpdateRequest) → Keeps s (on_update s to request)
update_keeps s to (InformationGet first limit) = refl
update_keeps s to (MetadataCheck index metadata) = refl
update_keeps s to UpdateGet = refl
update_keeps s to (StartUpdate start) = start_keeps s to start (update_phase s)
update_keeps s to UpdateCancel = cancel_keeps s to (update_phase s)
update_keeps s to UpdateApply = apply_keeps s to (update_phase s)

pub request_keeps : (s : NodeState) (from : ℕ) (request : Request) → (on_request s from request).next.moment ≡ s.moment
request_keeps s from (OfUpdate request) = update_keeps s from request
request_keeps s from (OfBlob request) = served_keeps s (on_blob (server_of s) from request)

verified_keeps : (s : NodeState) (j : Job) (b : Bool) → (verified s j b).moment ≡ s.moment
verified_keeps s j true = refl
verified_keeps s j false = refl

time_by_phase : (s : NodeState) (phase : UpdatePhase) → Keeps s (on_time s phase)
time_by_phase s (Applying j) = refl
time_by_phase s (Verifying j) = verified_keeps s j (is_fit (joined j.held) j.meta)
time_by_phase s Idle = served_keeps s (on_server_time (server_of s) (serving_in Idle))
time_by_phase s (TransferError j) = served_keeps s (on_server_time (server_of s) (serving_in (TransferError j)))
time_by_phase s (TransferActive j) = served_keeps s (on_server_time (server_of s) (serving_in (TransferActive j)))
time_by_phase s (Succeeded j) = served_keeps s (on_server_time (server_of s) (serving_in (Succeeded j)))
time_by_phase s (Failed j) = served_keeps s (on_server_time (server_of s) (serving_in (Failed j)))

pub time_keeps : (s : NodeState) → (on_time s (update_phase s)).next.moment ≡ s.moment
time_keeps s = time_by_phase s (update_phase s)

-- ---- steps

packet_keeps : (config : NodeConfig) (s : NodeState) (from : ℕ) (request : Option Request) → (on_packet config s from request).next.moment ≡ s.moment
packet_keeps config s from (Some request) = request_keeps s from request
packet_keeps config s from None = refl

pub step_is_greatest : (config : NodeConfig) (s : NodeState) (event : NodeEvent) (now : ℕ) → (node_step config s event now).next.moment ≡ max s.moment now
step_is_greatest config s (PacketComes p) now =
    elim (is_addressee config p) as (λ t. (cond t (on_packet config (at_moment s now) p.from (request_at p.payload)) (passed_over (at_moment s now))).next.moment ≡ max s.moment now) [
      | true ↦ packet_keeps config (at_moment s now) p.from (request_at p.payload)
      | false ↦ refl
    ]
step_is_greatest config s TimeComes now = time_keeps (at_moment s now)
