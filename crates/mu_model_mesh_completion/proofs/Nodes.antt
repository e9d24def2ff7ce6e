-- A node's states stay in the ranges of the grammar, and so is all that it replies.
use Rattle.std.proofs.Common.{◌≡◌, ◌≤◌, ◌<◌, ◌^◌, ℕ, zero, suc, Bool, true, false, List, [], ◌∷◌, length, map, take, drop, refl, sym, subst, cond, arith, Option, Some, None, Result, Ok, Err, inl, inr}
use Rattle.std.specs.Prelude.{slice_get, nat_lt, nat_le}
use Rattle.std.specs.List.{AllByRecursion}
use Rattle.std.proofs.lemmas.List.{length-map}
use Rattle.mu_model_image.specs.declared.Meta.{Meta}
use Rattle.mu_model_image.specs.Meta.{Image, meta_from, is_fit, firmware_id, own_company}
use Rattle.mu_model_image.specs.Laws.{ImagesHaveMetadata}
use Rattle.mu_model_node.specs.declared.Link.{Link}
use Rattle.mu_model_node.specs.declared.Link.TheVariants.{Cut, Ready, Running}
use Rattle.mu_model_node.specs.declared.Parameters.{Parameters}
use Rattle.mu_model_node.specs.declared.Stored.{Stored}
use Rattle.mu_model_node.specs.declared.Stored.TheVariants.{Filling, Verified, Refused, Applied}
use Rattle.mu_model_node.specs.Slots.{is_full, joined}
use Rattle.mu_model_node.specs.BlobMessages.{BlobRequest, BlobInformationGet, TransferGet, TransferStart, TransferCancel, BlockStart, BlockGet, ChunkTransfer, BlobReply}
use Rattle.mu_model_node.specs.BlobServer.{Change, Same, Begins, Drops, Puts, BlobPhase}
use Rattle.mu_model_node.specs.BlobTable.{Served, on_blob, on_server_time}
use Rattle.mu_model_node.specs.UpdateMessages.{UpdateStart, UpdateRequest, InformationGet, MetadataCheck, UpdateGet, StartUpdate, UpdateCancel, UpdateApply}
use Rattle.mu_model_node.specs.NodeMessages.{Request, OfUpdate, OfBlob, Reply, ByUpdate}
use Rattle.mu_model_node.specs.NodeState.{Job, NodeDurable, NodeState, UpdatePhase, Idle, TransferError, TransferActive, Verifying, Succeeded, Failed, Applying, update_number, link_phase, filling_phase, stored_phase, job_phase, update_phase, serving_in, server_of, blob_phase}
use Rattle.mu_model_node.specs.NodeOutcome.{Outcome, by_blob, job_after, served}
use Rattle.mu_model_node.specs.UpdateTable as u
use Rattle.mu_model_node.specs.UpdateTable.{check_image, check, status_of, shown, same_start, update_status_in, update_status, on_update}
use Rattle.mu_model_node.specs.TimeTable.{verified, on_time}
use Rattle.mu_model_node.specs.Events.{at_moment, on_request}
use Rattle.mu_model_node.specs.Sound.{IsActiveImage, IsNodeState, RequestFits}
use Rattle.mu_model_node.specs.Laws.{RequestsKeepStatesSound, TimeKeepsStatesSound, PhasesAreSound, ToldPhaseIsThePhase}
use Rattle.mu_model_told.specs.Laws.{ids_of}
use Rattle.mu_model_client_laws.specs.Wire.{UpdateInRange, InRange}
use Rattle.mu_model_mesh_completion.specs.Settled.{HasLast}
use Rattle.mu_model_mesh_completion.proofs.Replies.{AreIds, UpdateFits, BlobFits, ReplyFits}
use Rattle.mu_model_mesh_completion.proofs.Shown.{JobFits, PhaseFits, capacity_small, phase_fits, status_fits}
use Rattle.mu_model_mesh_completion.proofs.Served.{Tells, ServedFits, blob_fits, time_fits}

-- ---- states

-- what a run has beside a sound state
pub record Ranges (s : NodeState) : Type 0 where
  pub job : JobFits s.durable.job
  pub last : HasLast s.session.last

abbrev pub Replied : List (ℕ × Reply) → Type 0
Replied replies = AllByRecursion (λ (r : ℕ × Reply). ReplyFits r.1) replies

pub record OutcomeFits (o : Outcome) : Type 0 where
  pub ranges : Ranges o.next
  pub replies : Replied o.replies

-- ---- the phase

abbrev Between : ℕ → Type 0
Between n = (1 ≤ n) × (n ≤ 6)

link_number : (j : Job) (link : Link) → Between (update_number (link_phase j link))
link_number j Cut = (omega arith, omega arith)
link_number j Ready = (omega arith, omega arith)
link_number j Running = (omega arith, omega arith)

filling_number : (j : Job) (link : Link) (p : Option Parameters) → Between (update_number (filling_phase j link p))
filling_number j link None = link_number j link
filling_number j link (Some p) = elim (is_full j.held) as (λ b. Between (update_number (cond b (Verifying j) (link_phase j link)))) [ true ↦ (omega arith, omega arith) | false ↦ link_number j link ]

stored_number : (j : Job) (link : Link) (stored : Stored) → Between (update_number (stored_phase j link stored))
stored_number j link Filling = filling_number j link j.parameters
stored_number j link Verified = (omega arith, omega arith)
stored_number j link Refused = (omega arith, omega arith)
stored_number j link Applied = (omega arith, omega arith)

-- the job of a phase
abbrev PhaseHas : UpdatePhase → Type 0
PhaseHas Idle = Unit {0}
PhaseHas (TransferError j) = JobFits (Some j)
PhaseHas (TransferActive j) = JobFits (Some j)
PhaseHas (Verifying j) = JobFits (Some j)
PhaseHas (Succeeded j) = JobFits (Some j)
PhaseHas (Failed j) = JobFits (Some j)
PhaseHas (Applying j) = JobFits (Some j)

link_has : (j : Job) (link : Link) → JobFits (Some j) → PhaseHas (link_phase j link)
link_has j Cut h = h
link_has j Ready h = h
link_has j Running h = h

filling_has : (j : Job) (link : Link) (p : Option Parameters) → JobFits (Some j) → PhaseHas (filling_phase j link p)
filling_has j link None h = link_has j link h
filling_has j link (Some p) h = elim (is_full j.held) as (λ b. PhaseHas (cond b (Verifying j) (link_phase j link))) [ true ↦ h | false ↦ link_has j link h ]

stored_has : (j : Job) (link : Link) (stored : Stored) → JobFits (Some j) → PhaseHas (stored_phase j link stored)
stored_has j link Filling h = filling_has j link j.parameters h
stored_has j link Verified h = h
stored_has j link Refused h = h
stored_has j link Applied h = h

phase_has : (link : Link) (job : Option Job) → JobFits job → PhaseHas (job_phase link job)
phase_has link None h = tt
phase_has link (Some j) h = stored_has j link j.stored h

-- ---- update messages

job_told : (status : ℕ) (link : Link) (job : Option Job) → status < 8 → JobFits job → UpdateFits (update_status_in status (job_phase link job) job)
job_told status link None s h = (s, refl)
job_told status link (Some j) s h =
    let n = stored_number j link j.stored in
    (s, n.0, n.1, record { ttl = h.0.ttl; base = h.0.base; id = h.0.id; index = h.0.index })

told : (o : Outcome) (to status : ℕ) → o.replies ≡ (to, ByUpdate (update_status status o.next)) ∷ [] → status < 8 → Ranges o.next → OutcomeFits o
told o to status e k h = record { ranges = h; replies = subst Replied (sym e) (job_told status o.next.session.link o.next.durable.job k h.job, tt) }

meta_small : (meta : Meta) (a b : Bool) (status : ℕ) → cond a (Err 5) (cond b (Err 5) (Ok meta)) ≡ Err status → status < 8
meta_small meta true b status e = let is : 5 ≡ status = cc in omega (arith, is)
meta_small meta false true status e = let is : 5 ≡ status = cc in omega (arith, is)
meta_small meta false false status e = cc

image_small : (d : NodeDurable) (active : Option Image) (meta : Option Meta) (status : ℕ) → check_image d active meta ≡ Err status → status < 8
image_small d None meta status e = let is : 4 ≡ status = cc in omega (arith, is)
image_small d (Some active) None status e = let is : 5 ≡ status = cc in omega (arith, is)
image_small d (Some active) (Some meta) status e = meta_small meta (nat_lt d.capacity meta.size) (nat_le meta.version active.meta.version) status e

status_small : (d : NodeDurable) (index : ℕ) (metadata : List ℕ) (r : Result Meta ℕ) → check d index metadata ≡ r → status_of r < 8
status_small d index metadata (Ok meta) e = omega arith
status_small d index metadata (Err status) e = image_small d (slice_get d.images index) (meta_from metadata) status e

checked_fits : (s : NodeState) (to : ℕ) (start : UpdateStart) (r : Result Meta ℕ) → check s.durable start.index start.metadata ≡ r → UpdateInRange (StartUpdate start) → Ranges s → OutcomeFits (u.takes_checked s to start r)
checked_fits s to start (Err status) e k h = told _ to status refl (image_small s.durable (slice_get s.durable.images start.index) (meta_from start.metadata) status e) h
checked_fits s to start (Ok meta) e k h = told _ to 0 refl (omega arith) (record { job = (record { ttl = k.ttl; base = k.base; id = k.id; index = k.index }, tt); last = tt })

takes_fits : (s : NodeState) (to : ℕ) (start : UpdateStart) → UpdateInRange (StartUpdate start) → Ranges s → OutcomeFits (u.takes s to start)
takes_fits s to start k h = checked_fits s to start (check s.durable start.index start.metadata) refl k h

either : (b : Bool) (x y : Outcome) → OutcomeFits x → OutcomeFits y → OutcomeFits (cond b x y)
either true x y h k = h
either false x y h k = k

wrong_or_not : (b : Bool) → cond b 0 2 < 8
wrong_or_not true = omega arith
wrong_or_not false = omega arith

repeated_fits : (s : NodeState) (to : ℕ) (start : UpdateStart) (j : Job) → Ranges s → OutcomeFits (u.repeated s to start j)
repeated_fits s to start j h = told _ to (cond (same_start start j) 0 2) refl (wrong_or_not (same_start start j)) h

start_fits : (s : NodeState) (to : ℕ) (start : UpdateStart) (phase : UpdatePhase) → UpdateInRange (StartUpdate start) → Ranges s → OutcomeFits (u.on_update_start s to start phase)
start_fits s to start Idle k h = takes_fits s to start k h
start_fits s to start (TransferError j) k h =
    either (same_start start j) _ _ (told _ to 0 refl (omega arith) (record { job = h.job; last = h.last })) (takes_fits s to start k h)
start_fits s to start (TransferActive j) k h =
    either (same_start start j) _ _ (told _ to 0 refl (omega arith) (record { job = h.job; last = h.last })) (told _ to 2 refl (omega arith) h)
start_fits s to start (Verifying j) k h = repeated_fits s to start j h
start_fits s to start (Succeeded j) k h = repeated_fits s to start j h
start_fits s to start (Failed j) k h = takes_fits s to start k h
start_fits s to start (Applying j) k h = repeated_fits s to start j h

cancel_fits : (s : NodeState) (to : ℕ) (phase : UpdatePhase) → Ranges s → OutcomeFits (u.on_update_cancel s to phase)
cancel_fits s to Idle h = told _ to 0 refl (omega arith) h
cancel_fits s to (TransferError j) h = told _ to 0 refl (omega arith) (record { job = tt; last = tt })
cancel_fits s to (TransferActive j) h = told _ to 0 refl (omega arith) (record { job = tt; last = tt })
cancel_fits s to (Verifying j) h = told _ to 0 refl (omega arith) (record { job = tt; last = tt })
cancel_fits s to (Succeeded j) h = told _ to 0 refl (omega arith) (record { job = tt; last = tt })
cancel_fits s to (Failed j) h = told _ to 0 refl (omega arith) (record { job = tt; last = tt })
cancel_fits s to (Applying j) h = told _ to 2 refl (omega arith) h

apply_fits : (s : NodeState) (to : ℕ) (phase : UpdatePhase) → PhaseHas phase → Ranges s → OutcomeFits (u.on_update_apply s to phase)
apply_fits s to (Succeeded j) k h =
    told _ to 0 refl (omega arith) (record { job = (record { ttl = k.0.ttl; base = k.0.base; id = k.0.id; index = k.0.index }, k.1); last = h.last })
apply_fits s to (Applying j) k h = told _ to 0 refl (omega arith) h
apply_fits s to Idle k h = told _ to 2 refl (omega arith) h
apply_fits s to (TransferError j) k h = told _ to 2 refl (omega arith) h
apply_fits s to (TransferActive j) k h = told _ to 2 refl (omega arith) h
apply_fits s to (Verifying j) k h = told _ to 2 refl (omega arith) h
apply_fits s to (Failed j) k h = told _ to 2 refl (omega arith) h

-- ---- Firmware IDs of active images

id_length : ImagesHaveMetadata → (capacity : ℕ) (image : Image) → capacity < 2 ^ 32 → IsActiveImage capacity image → length (firmware_id own_company image.meta) ≡ 38
id_length law capacity image small h =
    let made = law 0 image.octets (omega (arith, h.some, h.fit.size)) (omega (arith, h.room, h.fit.size, small)) (omega arith) in
    let digest : length image.meta.digest ≡ 32 = subst (λ (os : List ℕ). length os ≡ 32) h.fit.digest made.digest_length in
    omega (arith, digest)

are_ids : ImagesHaveMetadata → (capacity : ℕ) (images : List Image) → capacity < 2 ^ 32 → ((index : ℕ) (image : Image) → slice_get images index ≡ Some image → IsActiveImage capacity image) → AreIds (ids_of images)
are_ids law capacity [] small h = tt
are_ids law capacity (x ∷ images) small h = (id_length law capacity x small (h 0 x refl), are_ids law capacity images small (λ index. h (suc index)))

all_dropped : (n : ℕ) (ids : List (List ℕ)) → AreIds ids → AreIds (drop n ids)
all_dropped zero ids h = h
all_dropped (suc n) [] h = tt
all_dropped (suc n) (x ∷ ids) h = all_dropped n ids h.1

all_taken : (n : ℕ) (ids : List (List ℕ)) → AreIds ids → AreIds (take n ids)
all_taken zero ids h = tt
all_taken (suc n) [] h = tt
all_taken (suc n) (x ∷ ids) h = (h.0, all_taken n ids h.1)

taken_few : (n : ℕ) (ids : List (List ℕ)) → length (take n ids) ≤ length ids
taken_few zero ids = omega arith
taken_few (suc n) [] = omega arith
taken_few (suc n) (x ∷ ids) = omega (arith, taken_few n ids)

dropped_few : (n : ℕ) (ids : List (List ℕ)) → length (drop n ids) ≤ length ids
dropped_few zero ids = omega arith
dropped_few (suc n) [] = omega arith
dropped_few (suc n) (x ∷ ids) = omega (arith, dropped_few n ids)

information_fits : ImagesHaveMetadata → (s : NodeState) (to first limit : ℕ) → first < 256 → IsNodeState s → Ranges s → OutcomeFits (u.on_information_get s to first limit)
information_fits law s to first limit f h r =
    let ids : List (List ℕ) = ids_of s.durable.images in
    let small : s.durable.capacity < 2 ^ 32 = omega (arith, capacity_small s h) in
    let own : AreIds ids = are_ids law s.durable.capacity s.durable.images small h.durable.images in
    let few : length (take limit (drop first ids)) ≤ 2 = omega (arith, taken_few limit (drop first ids), dropped_few first ids, length-map s.durable.images (λ (image : Image). firmware_id own_company image.meta), h.durable.two_images) in
    let all : length s.durable.images < 256 = omega (arith, h.durable.two_images) in
    record { ranges = r; replies = ((all, f, few, all_taken limit (drop first ids) (all_dropped first ids own)), tt) }

update_fits : ImagesHaveMetadata → (s : NodeState) (to : ℕ) (request : UpdateRequest) → UpdateInRange request → IsNodeState s → Ranges s → OutcomeFits (on_update s to request)
update_fits law s to (InformationGet first limit) k sound h = information_fits law s to first limit k.0 sound h
update_fits law s to (MetadataCheck index metadata) k sound h =
    record { ranges = h; replies = ((status_small s.durable index metadata (check s.durable index metadata) refl, k.0), tt) }
update_fits law s to UpdateGet k sound h = told _ to 0 refl (omega arith) h
update_fits law s to (StartUpdate start) k sound h = start_fits s to start (update_phase s) k h
update_fits law s to UpdateCancel k sound h = cancel_fits s to (update_phase s) h
update_fits law s to UpdateApply k sound h = apply_fits s to (update_phase s) (phase_has s.session.link s.durable.job h.job) h

-- ---- BLOB messages

after_has : (s : NodeState) (c : Change) (job : Option Job) → JobFits s.durable.job → JobFits job → ((q : Parameters) → c ≡ Begins q → q.mtu < 2 ^ 16) → JobFits (job_after s c job).durable.job
after_has s c None h k m = h
after_has s Same (Some j) h k m = h
after_has s (Puts block octets) (Some j) h k m = (record { ttl = k.0.ttl; base = k.0.base; id = k.0.id; index = k.0.index }, k.1)
after_has s (Begins q) (Some j) h k m = (record { ttl = k.0.ttl; base = k.0.base; id = k.0.id; index = k.0.index }, m q refl)
after_has s Drops (Some j) h k m = (record { ttl = k.0.ttl; base = k.0.base; id = k.0.id; index = k.0.index }, tt)

each_fits : (phase : BlobPhase) (replies : List (ℕ × BlobReply)) → AllByRecursion (λ (r : ℕ × BlobReply). Tells phase r.1) replies → PhaseFits phase → Replied (map by_blob replies)
each_fits phase [] h k = tt
each_fits phase (r ∷ replies) h k =
    (elim h.0 as (λ x. BlobFits r.1) [ inl x ↦ rw x.2 (status_fits x.0 phase x.1 k) | inr fit ↦ fit ], each_fits phase replies h.1 k)

sound_request : (request : Request) → InRange request → RequestFits request
sound_request (OfUpdate request) h = tt
sound_request (OfBlob BlobInformationGet) h = tt
sound_request (OfBlob TransferGet) h = tt
sound_request (OfBlob (TransferStart id p)) h = record { some = h.1.size_least; mode_above = h.1.mode_least; mode_below = h.1.mode_most; mtu_above = h.1.mtu_least }
sound_request (OfBlob (TransferCancel id)) h = tt
sound_request (OfBlob (BlockStart block size)) h = tt
sound_request (OfBlob BlockGet) h = tt
sound_request (OfBlob (ChunkTransfer chunk octets)) h = tt

blob_outcome : (o : Served) (s : NodeState) → JobFits s.durable.job → HasLast o.session.last → ((q : Parameters) → o.change ≡ Begins q → q.mtu < 2 ^ 16) → Ranges (served s o).next
blob_outcome o s h k m = record { job = after_has s o.change s.durable.job h h m; last = k }

begins_small : (s : NodeState) (o : Served) → ServedFits (server_of s) o → (q : Parameters) → o.change ≡ Begins q → q.mtu < 2 ^ 16
begins_small s o h q e = rw e at h.change

pub record Laws : Type 0 where
  pub images : ImagesHaveMetadata
  pub requests : RequestsKeepStatesSound
  pub time : TimeKeepsStatesSound
  pub phases : PhasesAreSound
  pub told : ToldPhaseIsThePhase

-- a node's state, whatever comes to it in the ranges of the grammar
pub record NodeFits (s : NodeState) : Type 0 where
  pub sound : IsNodeState s
  pub ranges : Ranges s

pub record NodeStepFits (o : Outcome) : Type 0 where
  pub next : NodeFits o.next
  pub replies : Replied o.replies

blob_replies : Laws → (s : NodeState) (from : ℕ) (request : BlobRequest) → InRange (OfBlob request) → NodeFits s → OutcomeFits (on_request s from (OfBlob request))
blob_replies laws s from request k h =
    let o : Served = on_blob (server_of s) from request in
    let fit = blob_fits (server_of s) from request (omega (arith, capacity_small s h.sound)) h.ranges.last (laws.phases s h.sound) k in
    let ranges : Ranges (on_request s from (OfBlob request)).next = blob_outcome o s h.ranges.job fit.last (begins_small s o fit) in
    let sound : IsNodeState (on_request s from (OfBlob request)).next = laws.requests s from (OfBlob request) (sound_request (OfBlob request) k) h.sound in
    let shown : PhaseFits (blob_phase (on_request s from (OfBlob request)).next) = phase_fits (on_request s from (OfBlob request)).next sound ranges.job (laws.phases (on_request s from (OfBlob request)).next sound) in
    record { ranges = ranges; replies = each_fits _ o.replies fit.replies (subst PhaseFits (laws.told s from request) shown) }

request_outcome : Laws → (s : NodeState) (from : ℕ) (request : Request) → InRange request → NodeFits s → OutcomeFits (on_request s from request)
request_outcome laws s from (OfUpdate request) k h = update_fits laws.images s from request k h.sound h.ranges
request_outcome laws s from (OfBlob request) k h = blob_replies laws s from request k h

pub request_fits : Laws → (s : NodeState) (from : ℕ) (request : Request) → InRange request → NodeFits s → NodeStepFits (on_request s from request)
request_fits laws s from request k h =
    let o = request_outcome laws s from request k h in
    record { next = record { sound = laws.requests s from request (sound_request request k) h.sound; ranges = o.ranges }; replies = o.replies }

-- ---- time

verified_has : (s : NodeState) (j : Job) (b : Bool) → JobFits (Some j) → HasLast s.session.last → Ranges (verified s j b)
verified_has s j true k l = record { job = (record { ttl = k.0.ttl; base = k.0.base; id = k.0.id; index = k.0.index }, k.1); last = l }
verified_has s j false k l = record { job = (record { ttl = k.0.ttl; base = k.0.base; id = k.0.id; index = k.0.index }, tt); last = tt }

same_begins : (c : Change) → c ≡ Same → (q : Parameters) → c ≡ Begins q → q.mtu < 2 ^ 16
same_begins c e q k = cc

blob_replied : (replies : List (ℕ × BlobReply)) → AllByRecursion (λ (r : ℕ × BlobReply). BlobFits r.1) replies → Replied (map by_blob replies)
blob_replied [] h = tt
blob_replied (r ∷ replies) h = (h.0, blob_replied replies h.1)

blob_time : Laws → (s : NodeState) (phase : UpdatePhase) → NodeFits s → OutcomeFits (served s (on_server_time (server_of s) (serving_in phase)))
blob_time laws s phase h =
    let fit = time_fits (server_of s) (serving_in phase) h.ranges.last (laws.phases s h.sound) in
    record {
      ranges = blob_outcome (on_server_time (server_of s) (serving_in phase)) s h.ranges.job fit.last (same_begins _ fit.same);
      replies = blob_replied _ fit.replies;
    }

time_outcome : Laws → (s : NodeState) (phase : UpdatePhase) → PhaseHas phase → NodeFits s → OutcomeFits (on_time s phase)
time_outcome laws s (Applying j) k h = record { ranges = record { job = tt; last = tt }; replies = tt }
time_outcome laws s (Verifying j) k h = record { ranges = verified_has s j (is_fit (joined j.held) j.meta) k h.ranges.last; replies = tt }
time_outcome laws s Idle k h = blob_time laws s Idle h
time_outcome laws s (TransferError j) k h = blob_time laws s (TransferError j) h
time_outcome laws s (TransferActive j) k h = blob_time laws s (TransferActive j) h
time_outcome laws s (Succeeded j) k h = blob_time laws s (Succeeded j) h
time_outcome laws s (Failed j) k h = blob_time laws s (Failed j) h

pub node_time_fits : Laws → (s : NodeState) → NodeFits s → NodeStepFits (on_time s (update_phase s))
node_time_fits laws s h =
    let o = time_outcome laws s (update_phase s) (phase_has s.session.link s.durable.job h.ranges.job) h in
    record { next = record { sound = laws.time s h.sound; ranges = o.ranges }; replies = o.replies }

pub moved : (s : NodeState) (now : ℕ) → NodeFits s → NodeFits (at_moment s now)
moved s now h = record {
  sound = record { durable = h.sound.durable; fresh = h.sound.fresh; current = h.sound.current };
  ranges = record { job = h.ranges.job; last = h.ranges.last };
}
