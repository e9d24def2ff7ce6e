-- Each packet that an event sends tells what is so.
use Rattle.std.proofs.Common.{◌≡◌, ◌<◌, ℕ, Bool, true, false, List, [], ◌∷◌, map, refl, cond, arith, Option, Some, None, Result, Ok, Err}
use Rattle.std.specs.Prelude.{nat_lt, nat_le, slice_get, MatchOption}
use Rattle.std.specs.List.{AllByRecursion}
use Rattle.mu_model_image.specs.declared.Meta.{Meta}
use Rattle.mu_model_image.specs.Meta.{Image, meta_from}
use Rattle.mu_model_image.specs.Laws.{ImagesHaveMetadata}
use Rattle.mu_model_wire.specs.Opcodes.{OneOctetIsKept, TwoOctetsAreKept}
use Rattle.mu_model_wire.specs.Packet.{Packet}
use Rattle.mu_model_wire.specs.Laws.{CanonicalIsRead, GrammarHolds}
use Rattle.mu_model_node.specs.declared.NodeConfig.{NodeConfig}
use Rattle.mu_model_node.specs.BlobMessages.{BlobReply}
use Rattle.mu_model_node.specs.BlobServer.{heard_at, made_ready}
use Rattle.mu_model_node.specs.BlobTable.{Served, on_blob, on_server_time}
use Rattle.mu_model_node.specs.UpdateMessages.{UpdateStart, UpdateRequest, InformationGet, MetadataCheck, UpdateGet, StartUpdate, UpdateCancel, UpdateApply}
use Rattle.mu_model_node.specs.NodeMessages.{Request, OfUpdate, OfBlob, Reply, request_at, reply_octets, reply_packet}
use Rattle.mu_model_node.specs.NodeState.{Job, NodeDurable, NodeState, UpdatePhase, Idle, TransferError, TransferActive, Verifying, Succeeded, Failed, Applying, update_phase, serving_in, server_of, is_addressee}
use Rattle.mu_model_node.specs.NodeOutcome.{Outcome, by_blob, with_session, served}
use Rattle.mu_model_node.specs.UpdateTable.{success, wrong_phase, check_image, check, status_of, takes_checked, takes, same_start, repeated, on_update_start, on_update_cancel, on_update_apply, on_update}
use Rattle.mu_model_node.specs.TimeTable.{on_time}
use Rattle.mu_model_node.specs.Events.{NodeEvent, PacketComes, TimeComes, on_request, on_packet, on_event, passed_over, at_moment}
use Rattle.mu_model_node.specs.Sound.{IsNodeState}
use Rattle.mu_model_client.specs.Answers.{answer_at}
use Rattle.mu_model_told.specs.Laws.{AreStartNumbers, AreUpdateNumbers, AreRequestNumbers, AreNumbers, HasNumbers, IsSo, ToldIsSo}
use Rattle.mu_model_told.proofs.Numbers.{PhaseHas, phase_has, apply_has, checked_has}
use Rattle.mu_model_told.proofs.Told.{blob_so, metadata_so, status_so, information_so}

-- what is so of the state after an event
abbrev Tells : NodeState → List (ℕ × Reply) → Type 0
Tells s replies = AllByRecursion (λ (r : ℕ × Reply). IsSo s (answer_at (reply_octets r.1))) replies

abbrev TellsAfter : Outcome → Type 0
TellsAfter o = Tells o.next o.replies

-- ---- the check

meta_small : (d : NodeDurable) (active : Image) (meta : Meta) (a b : Bool) (status : ℕ) → cond a (Err 5) (cond b (Err 5) (Ok meta)) ≡ Err status → status < 8
meta_small d active meta true b status e = let is : 5 ≡ status = cc in omega (arith, is)
meta_small d active meta false true status e = let is : 5 ≡ status = cc in omega (arith, is)
meta_small d active meta false false status e = cc

image_small : (d : NodeDurable) (active : Option Image) (meta : Option Meta) (status : ℕ) → check_image d active meta ≡ Err status → status < 8
image_small d None meta status e = let is : 4 ≡ status = cc in omega (arith, is)
image_small d (Some active) None status e = let is : 5 ≡ status = cc in omega (arith, is)
image_small d (Some active) (Some meta) status e = meta_small d active meta (nat_lt d.capacity meta.size) (nat_le meta.version active.meta.version) status e

-- ---- update requests

checked_tells : CanonicalIsRead → GrammarHolds → (s : NodeState) (to : ℕ) (u : UpdateStart) (r : Result Meta ℕ) → check s.durable u.index u.metadata ≡ r → AreStartNumbers u → HasNumbers s.durable.job → TellsAfter (takes_checked s to u r)
checked_tells again grammar s to u (Err status) e k h = (status_so again grammar s status (image_small s.durable (slice_get s.durable.images u.index) (meta_from u.metadata) status e) h, tt)
checked_tells again grammar s to u (Ok meta) e k h = (status_so again grammar (takes_checked s to u (Ok meta)).next success (omega arith) (checked_has s to u (Ok meta) k h), tt)

takes_tells : CanonicalIsRead → GrammarHolds → (s : NodeState) (to : ℕ) (u : UpdateStart) → AreStartNumbers u → HasNumbers s.durable.job → TellsAfter (takes s to u)
takes_tells again grammar s to u k h = checked_tells again grammar s to u (check s.durable u.index u.metadata) refl k h

either_tells : (b : Bool) (x y : Outcome) → TellsAfter x → TellsAfter y → TellsAfter (cond b x y)
either_tells true x y h k = h
either_tells false x y h k = k

wrong_or_not : (b : Bool) → cond b success wrong_phase < 8
wrong_or_not true = omega arith
wrong_or_not false = omega arith

repeated_tells : CanonicalIsRead → GrammarHolds → (s : NodeState) (to : ℕ) (u : UpdateStart) (j : Job) → HasNumbers s.durable.job → TellsAfter (repeated s to u j)
repeated_tells again grammar s to u j h = (status_so again grammar s (cond (same_start u j) success wrong_phase) (wrong_or_not (same_start u j)) h, tt)

start_tells : CanonicalIsRead → GrammarHolds → (s : NodeState) (to : ℕ) (u : UpdateStart) (phase : UpdatePhase) → AreStartNumbers u → HasNumbers s.durable.job → TellsAfter (on_update_start s to u phase)
start_tells again grammar s to u Idle k h = takes_tells again grammar s to u k h
start_tells again grammar s to u (TransferError j) k h = either_tells (same_start u j) _ _ (status_so again grammar (with_session s (made_ready s.moment s.session)) success (omega arith) h, tt) (takes_tells again grammar s to u k h)
start_tells again grammar s to u (TransferActive j) k h = either_tells (same_start u j) _ _ (status_so again grammar (with_session s (heard_at s.moment s.session)) success (omega arith) h, tt) (status_so again grammar s wrong_phase (omega arith) h, tt)
start_tells again grammar s to u (Verifying j) k h = repeated_tells again grammar s to u j h
start_tells again grammar s to u (Succeeded j) k h = repeated_tells again grammar s to u j h
start_tells again grammar s to u (Failed j) k h = takes_tells again grammar s to u k h
start_tells again grammar s to u (Applying j) k h = repeated_tells again grammar s to u j h

cancel_tells : CanonicalIsRead → GrammarHolds → (s : NodeState) (to : ℕ) (phase : UpdatePhase) → HasNumbers s.durable.job → TellsAfter (on_update_cancel s to phase)
cancel_tells again grammar s to Idle h = (status_so again grammar s success (omega arith) h, tt)
cancel_tells again grammar s to (TransferError j) h = (status_so again grammar (on_update_cancel s to (TransferError j)).next success (omega arith) tt, tt)
cancel_tells again grammar s to (TransferActive j) h = (status_so again grammar (on_update_cancel s to (TransferActive j)).next success (omega arith) tt, tt)
cancel_tells again grammar s to (Verifying j) h = (status_so again grammar (on_update_cancel s to (Verifying j)).next success (omega arith) tt, tt)
cancel_tells again grammar s to (Succeeded j) h = (status_so again grammar (on_update_cancel s to (Succeeded j)).next success (omega arith) tt, tt)
cancel_tells again grammar s to (Failed j) h = (status_so again grammar (on_update_cancel s to (Failed j)).next success (omega arith) tt, tt)
cancel_tells again grammar s to (Applying j) h = (status_so again grammar s wrong_phase (omega arith) h, tt)

apply_tells : CanonicalIsRead → GrammarHolds → (s : NodeState) (to : ℕ) (phase : UpdatePhase) → PhaseHas phase → HasNumbers s.durable.job → TellsAfter (on_update_apply s to phase)
apply_tells again grammar s to Idle k h = (status_so again grammar s wrong_phase (omega arith) h, tt)
apply_tells again grammar s to (TransferError j) k h = (status_so again grammar s wrong_phase (omega arith) h, tt)
apply_tells again grammar s to (TransferActive j) k h = (status_so again grammar s wrong_phase (omega arith) h, tt)
apply_tells again grammar s to (Verifying j) k h = (status_so again grammar s wrong_phase (omega arith) h, tt)
apply_tells again grammar s to (Succeeded j) k h = (status_so again grammar (on_update_apply s to (Succeeded j)).next success (omega arith) (apply_has s to (Succeeded j) k h), tt)
apply_tells again grammar s to (Failed j) k h = (status_so again grammar s wrong_phase (omega arith) h, tt)
apply_tells again grammar s to (Applying j) k h = (status_so again grammar s success (omega arith) h, tt)

module _ (one : OneOctetIsKept) (two : TwoOctetsAreKept) where
  update_tells : CanonicalIsRead → GrammarHolds → ImagesHaveMetadata → (s : NodeState) (to : ℕ) (request : UpdateRequest) → AreUpdateNumbers request → IsNodeState s → HasNumbers s.durable.job → TellsAfter (on_update s to request)
  update_tells again grammar images s to (InformationGet first limit) k sound h = (information_so again grammar images s first limit k sound, tt)
  update_tells again grammar images s to (MetadataCheck index metadata) k sound h = (metadata_so one two s (status_of (check s.durable index metadata)) index, tt)
  update_tells again grammar images s to UpdateGet k sound h = (status_so again grammar s success (omega arith) h, tt)
  update_tells again grammar images s to (StartUpdate u) k sound h = start_tells again grammar s to u (update_phase s) k h
  update_tells again grammar images s to UpdateCancel k sound h = cancel_tells again grammar s to (update_phase s) h
  update_tells again grammar images s to UpdateApply k sound h = apply_tells again grammar s to (update_phase s) (phase_has s.session.link s.durable.job h) h

  -- ---- events

  blob_tells : (s : NodeState) (replies : List (ℕ × BlobReply)) → Tells s (map by_blob replies)
  blob_tells s [] = tt
  blob_tells s (reply ∷ replies) = (blob_so one two s reply.1, blob_tells s replies)

  served_tells : (s : NodeState) (o : Served) → TellsAfter (served s o)
  served_tells s o = blob_tells (served s o).next o.replies

  request_tells : CanonicalIsRead → GrammarHolds → ImagesHaveMetadata → (s : NodeState) (from : ℕ) (request : Request) → AreRequestNumbers request → IsNodeState s → HasNumbers s.durable.job → TellsAfter (on_request s from request)
  request_tells again grammar images s from (OfUpdate request) k sound h = update_tells again grammar images s from request k sound h
  request_tells again grammar images s from (OfBlob request) k sound h = served_tells s (on_blob (server_of s) from request)

  time_tells : (s : NodeState) (phase : UpdatePhase) → TellsAfter (on_time s phase)
  time_tells s (Applying j) = tt
  time_tells s (Verifying j) = tt
  time_tells s Idle = served_tells s (on_server_time (server_of s) (serving_in Idle))
  time_tells s (TransferError j) = served_tells s (on_server_time (server_of s) (serving_in (TransferError j)))
  time_tells s (TransferActive j) = served_tells s (on_server_time (server_of s) (serving_in (TransferActive j)))
  time_tells s (Succeeded j) = served_tells s (on_server_time (server_of s) (serving_in (Succeeded j)))
  time_tells s (Failed j) = served_tells s (on_server_time (server_of s) (serving_in (Failed j)))

  -- what is told goes out in packets
  abbrev Says : NodeState → List Packet → Type 0
  Says s sent = AllByRecursion (λ (p : Packet). IsSo s (answer_at p.payload)) sent

  in_packets : (s : NodeState) (address : ℕ) (replies : List (ℕ × Reply)) → Tells s replies → Says s (map (reply_packet address) replies)
  in_packets s address [] h = tt
  in_packets s address (r ∷ replies) h = (h.0, in_packets s address replies h.1)

  packet_says : CanonicalIsRead → GrammarHolds → ImagesHaveMetadata → (config : NodeConfig) (s : NodeState) (from : ℕ) (request : Option Request) → MatchOption request (Unit {0}) AreRequestNumbers → IsNodeState s → HasNumbers s.durable.job → Says (on_packet config s from request).next (on_packet config s from request).sent
  packet_says again grammar images config s from (Some request) k sound h = in_packets (on_request s from request).next config.address (on_request s from request).replies (request_tells again grammar images s from request k sound h)
  packet_says again grammar images config s from None k sound h = tt

  event_says : CanonicalIsRead → GrammarHolds → ImagesHaveMetadata → (config : NodeConfig) (s : NodeState) (event : NodeEvent) → AreNumbers event → IsNodeState s → HasNumbers s.durable.job → Says (on_event config s event).next (on_event config s event).sent
  event_says again grammar images config s (PacketComes packet) k sound h =
      elim (is_addressee config packet) as (λ b. Says (cond b (on_packet config s packet.from (request_at packet.payload)) (passed_over s)).next (cond b (on_packet config s packet.from (request_at packet.payload)) (passed_over s)).sent) [ true ↦ packet_says again grammar images config s packet.from (request_at packet.payload) k sound h | false ↦ tt ]
  event_says again grammar images config s TimeComes k sound h = in_packets (on_time s (update_phase s)).next config.address (on_time s (update_phase s)).replies (time_tells s (update_phase s))

  moved : (s : NodeState) (now : ℕ) → IsNodeState s → IsNodeState (at_moment s now)
  moved s now h = record { durable = h.durable; fresh = h.fresh; current = h.current }

  pub told_is_so : GrammarHolds → CanonicalIsRead → ImagesHaveMetadata → ToldIsSo
  told_is_so grammar again images config s event now numbers h k = event_says again grammar images config (at_moment s now) event numbers (moved s now h) k
