-- The few ways in which an event may change the durable state, and that each row is one of them.
use Rattle.std.proofs.Common.{◌≡◌, ◌<◌, ℕ, Bool, true, false, List, [], ◌∷◌, refl, sym, ap, subst, arith, cond, Option, Some, None, Result, Ok, Err, set}
use Rattle.std.specs.Prelude.{⊤, slice_get, ◌||◌}
use Rattle.std.proofs.lemmas.Bool.Decides.{nat_tests}
use Rattle.std.proofs.lemmas.Slice.Eq.{bytes_eq-Decides}
use Rattle.sha2.specs.Sha256.{sha256}
use Rattle.mu_model_image.specs.declared.Meta.{Meta}
use Rattle.mu_model_image.specs.Meta.{Image, IsFit, is_fit, meta_from}
use Rattle.mu_model_node.specs.Slots.{Slots, is_full, joined}
use Rattle.mu_model_node.specs.BlobMessages.{Parameters}
use Rattle.mu_model_node.specs.UpdateMessages.{UpdateStart, UpdateRequest, InformationGet, MetadataCheck, UpdateGet, StartUpdate, UpdateCancel, UpdateApply}
use Rattle.mu_model_node.specs.NodeMessages.{Request, OfUpdate, OfBlob, request_at}
use Rattle.mu_model_node.specs.BlobServer.{Link, Cut, Ready, Running, Change, Same}
use Rattle.mu_model_node.specs.BlobTable.{Served, on_server_time}
use Rattle.mu_model_node.specs.FlashWork.{Untouched, Recorded}
use Rattle.mu_model_node.specs.NodeState.{Stored, Filling, Verified, Refused, Applied, Job, NodeDurable, NodeState, UpdatePhase, Idle, TransferError, TransferActive, Verifying, Succeeded, Failed, Applying, update_number, link_phase, filling_phase, stored_phase, job_phase, update_phase, serving_in, server_of, is_addressee}
use Rattle.mu_model_node.specs.NodeOutcome.{Outcome, job_changed, served}
use Rattle.mu_model_node.specs.UpdateTable.{same_start, new_job, check, check_image, takes_checked, takes, on_update_start, on_update_cancel, on_update_apply, on_update}
use Rattle.mu_model_node.specs.TimeTable.{verified, image_of_job, on_time}
use Rattle.mu_model_node.specs.Events.{NodeEvent, PacketComes, TimeComes, at_moment, on_request, on_packet, on_event, node_step}
use Rattle.mu_model_node.specs.Log.{Took, is_new, same_job, took}
use Rattle.mu_model_node.specs.Safe.{InOrder, none, here}
use Rattle.mu_model_node.specs.declared.NodeConfig.{NodeConfig}
use Rattle.mu_model_node.proofs.BlobRows.{IsLacking, MayWrite, blob_so, time_same}

-- a job that may be replaced
abbrev pub IsOpenIn : Stored → Type 0
IsOpenIn Filling = ⊤
IsOpenIn Verified = ⊥
IsOpenIn Refused = ⊤
IsOpenIn Applied = ⊥

abbrev pub IsOpen : Option Job → Type 0
IsOpen None = ⊤
IsOpen (Some j) = IsOpenIn j.stored

-- a job that may go
abbrev pub MayGoIn : Stored → Type 0
MayGoIn Applied = ⊥
MayGoIn _ = ⊤

-- the job of an Update Start is as it asks
pub record IsOf (u : UpdateStart) (j : Job) : Type 0 where
  pub id : j.id ≡ u.id
  pub index : j.index ≡ u.index
  pub meta : meta_from u.metadata ≡ Some j.meta

-- what an event is to a node: a message that it takes, time, or a packet that isn't handled
pub data Cause : Type 0 where
  ByRequest : Request → Cause
  ByTime : Cause
  ByNothing : Cause

-- how an event may change the durable state of a node in state s
pub data Move (cause : Cause) (s : NodeState) (d : NodeDurable) : Type 0 where
  Stays : d.images ≡ s.durable.images → d.job ≡ s.durable.job → Move cause s d
  Loses : (i : Job) → cause ≡ ByRequest (OfUpdate UpdateCancel) → s.durable.job ≡ Some i → MayGoIn i.stored → d.images ≡ s.durable.images → d.job ≡ None → Move cause s d
  Takes : (u : UpdateStart) (j : Job) (active : Image) → cause ≡ ByRequest (OfUpdate (StartUpdate u)) → IsOf u j → j.stored ≡ Filling → IsOpen s.durable.job → slice_get s.durable.images j.index ≡ Some active → active.meta.version < j.meta.version → InOrder (Took j.id j.index j.meta ∷ []) (took s.durable.job (Some j)) → d.images ≡ s.durable.images → d.job ≡ Some j → Move cause s d
  Fills : (i : Job) (parameters : Option Parameters) (held : Slots) → s.durable.job ≡ Some i → i.stored ≡ Filling → d.images ≡ s.durable.images → d.job ≡ Some (record i { parameters = parameters; held = held }) → Move cause s d
  Verifies : (i : Job) → cause ≡ ByTime → s.durable.job ≡ Some i → i.stored ≡ Filling → update_number (update_phase s) ≡ 3 → IsFit (joined i.held) i.meta → d.images ≡ s.durable.images → d.job ≡ Some (record i { stored = Verified }) → Move cause s d
  Refuses : (i : Job) → cause ≡ ByTime → s.durable.job ≡ Some i → i.stored ≡ Filling → d.images ≡ s.durable.images → d.job ≡ Some (record i { stored = Refused; parameters = None; held = [] }) → Move cause s d
  Asks : (i : Job) → cause ≡ ByRequest (OfUpdate UpdateApply) → s.durable.job ≡ Some i → i.stored ≡ Verified → d.images ≡ s.durable.images → d.job ≡ Some (record i { stored = Applied }) → Move cause s d
  Activates : (i : Job) → cause ≡ ByTime → s.durable.job ≡ Some i → i.stored ≡ Applied → d.images ≡ set s.durable.images i.index (image_of_job i) → d.job ≡ None → Move cause s d

-- ---- what a phase says of the job

abbrev pub PhaseOf : Option Job → UpdatePhase → Type 0
PhaseOf job Idle = job ≡ None
PhaseOf job (TransferError j) = (job ≡ Some j) × (j.stored ≡ Filling)
PhaseOf job (TransferActive j) = (job ≡ Some j) × (j.stored ≡ Filling)
PhaseOf job (Verifying j) = (job ≡ Some j) × (j.stored ≡ Filling)
PhaseOf job (Succeeded j) = (job ≡ Some j) × (j.stored ≡ Verified)
PhaseOf job (Failed j) = (job ≡ Some j) × (j.stored ≡ Refused)
PhaseOf job (Applying j) = (job ≡ Some j) × (j.stored ≡ Applied)

of_link : (j : Job) (link : Link) → j.stored ≡ Filling → PhaseOf (Some j) (link_phase j link)
of_link j Cut e = (refl, e)
of_link j Ready e = (refl, e)
of_link j Running e = (refl, e)

of_filling : (j : Job) (link : Link) (parameters : Option Parameters) → j.stored ≡ Filling → PhaseOf (Some j) (filling_phase j link parameters)
of_filling j link None e = of_link j link e
of_filling j link (Some p) e = elim (is_full j.held) as (λ b. PhaseOf (Some j) (cond b (Verifying j) (link_phase j link))) [ true ↦ (refl, e) | false ↦ of_link j link e ]

of_stored : (j : Job) (link : Link) (stored : Stored) → j.stored ≡ stored → PhaseOf (Some j) (stored_phase j link stored)
of_stored j link Filling e = of_filling j link j.parameters e
of_stored j link Verified e = (refl, e)
of_stored j link Refused e = (refl, e)
of_stored j link Applied e = (refl, e)

pub phase_of : (link : Link) (job : Option Job) → PhaseOf job (job_phase link job)
phase_of link None = refl
phase_of link (Some j) = of_stored j link j.stored refl

-- ---- outcomes

pub record Moves (cause : Cause) (s : NodeState) (o : Outcome) : Type 0 where
  pub move : Move cause s o.next.durable

stays : {cause : Cause} (s : NodeState) (o : Outcome) → o.next.durable ≡ s.durable → Moves cause s o
stays s o e = record { move = Stays (ap (λ (d : NodeDurable). d.images) e) (ap (λ (d : NodeDurable). d.job) e) }

split : {cause : Cause} (s : NodeState) (b : Bool) (x y : Outcome) → Moves cause s x → Moves cause s y → Moves cause s (cond b x y)
split s true x y h k = h
split s false x y h k = k

split_by : {cause : Cause} (s : NodeState) (b : Bool) (x y : Outcome) → (b ≡ true → Moves cause s x) → (b ≡ false → Moves cause s y) → Moves cause s (cond b x y)
split_by s true x y h k = h refl
split_by s false x y h k = k refl

-- ---- a new job

check_gives : (d : NodeDurable) (image : Option Image) (offer : Option Meta) (meta : Meta) → check_image d image offer ≡ Ok meta → (offer ≡ Some meta) × (active : Image) × (image ≡ Some active) × (active.meta.version < meta.version)
check_gives d None offer meta h = cc
check_gives d (Some active) None meta h = cc
check_gives d (Some active) (Some other) meta h =
    let same : Some other ≡ Some meta = grind arith in
    let newer : active.meta.version < other.version = grind (arith, nat_tests) in
    let is : other ≡ meta = cc in
    (same, active, refl, subst (λ (m : Meta). active.meta.version < m.version) is newer)

begins : (s : NodeState) (to : ℕ) (u : UpdateStart) (r : Result Meta ℕ) → IsOpen s.durable.job
    → ((meta : Meta) → r ≡ Ok meta → (is_new s.durable.job (new_job u meta) ≡ true) × (meta_from u.metadata ≡ Some meta) × (active : Image) × (slice_get s.durable.images u.index ≡ Some active) × (active.meta.version < meta.version))
    → Moves (ByRequest (OfUpdate (StartUpdate u))) s (takes_checked s to u r)
begins s to u (Err status) free f = stays s _ refl
begins s to u (Ok meta) free f =
    let g = f meta refl in
    let new : is_new s.durable.job (new_job u meta) ≡ true = g.0 in
    record { move = Takes u (new_job u meta) g.2 refl (record { id = refl; index = refl; meta = g.1 }) refl free g.3 g.4 (rw new (here none)) refl refl }

or_true : (b : Bool) → (b || true) ≡ true
or_true true = refl
or_true false = refl

offers : (s : NodeState) (to : ℕ) (u : UpdateStart) → IsOpen s.durable.job → ((meta : Meta) → meta_from u.metadata ≡ Some meta → is_new s.durable.job (new_job u meta) ≡ true) → Moves (ByRequest (OfUpdate (StartUpdate u))) s (takes s to u)
offers s to u free f = begins s to u (check s.durable u.index u.metadata) free (λ meta e. let g = check_gives s.durable (slice_get s.durable.images u.index) (meta_from u.metadata) meta e in (f meta g.0, g.0, g.1, g.2, g.3))

starts : (s : NodeState) (to : ℕ) (u : UpdateStart) (phase : UpdatePhase) → PhaseOf s.durable.job phase → Moves (ByRequest (OfUpdate (StartUpdate u))) s (on_update_start s to u phase)
starts s to u Idle h = offers s to u (rw h tt) (λ meta e. rw h refl)
starts s to u (TransferError j) h =
    split_by s (same_start u j) _ _ (λ yes. stays s _ refl)
    (λ no. offers s to u (rw (h.0, h.1) tt) (λ meta e.
    let new : (same_job (new_job u meta) j) ≡ false = rw e at no in
    rw (h.0, new) refl))
starts s to u (TransferActive j) h = split s (same_start u j) _ _ (stays s _ refl) (stays s _ refl)
starts s to u (Verifying j) h = stays s _ refl
starts s to u (Succeeded j) h = stays s _ refl
starts s to u (Failed j) h = offers s to u (rw (h.0, h.1) tt) (λ meta e. rw (h.0, h.1) (or_true _))
starts s to u (Applying j) h = stays s _ refl

cancels : (s : NodeState) (to : ℕ) (phase : UpdatePhase) → PhaseOf s.durable.job phase → Moves (ByRequest (OfUpdate UpdateCancel)) s (on_update_cancel s to phase)
cancels s to Idle h = stays s _ refl
cancels s to (Applying j) h = stays s _ refl
cancels s to (TransferError j) h = record { move = Loses j refl h.0 (rw (h.1) tt) refl refl }
cancels s to (TransferActive j) h = record { move = Loses j refl h.0 (rw (h.1) tt) refl refl }
cancels s to (Verifying j) h = record { move = Loses j refl h.0 (rw (h.1) tt) refl refl }
cancels s to (Succeeded j) h = record { move = Loses j refl h.0 (rw (h.1) tt) refl refl }
cancels s to (Failed j) h = record { move = Loses j refl h.0 (rw (h.1) tt) refl refl }

applies : (s : NodeState) (to : ℕ) (phase : UpdatePhase) → PhaseOf s.durable.job phase → Moves (ByRequest (OfUpdate UpdateApply)) s (on_update_apply s to phase)
applies s to (Succeeded j) h = record { move = Asks j refl h.0 h.1 refl refl }
applies s to (Applying j) h = stays s _ refl
applies s to _ h = stays s _ refl

updates : (s : NodeState) (to : ℕ) (request : UpdateRequest) → Moves (ByRequest (OfUpdate request)) s (on_update s to request)
updates s to (InformationGet first limit) = stays s _ refl
updates s to (MetadataCheck index metadata) = stays s _ refl
updates s to UpdateGet = stays s _ refl
updates s to (StartUpdate u) = starts s to u (update_phase s) (phase_of s.session.link s.durable.job)
updates s to UpdateCancel = cancels s to (update_phase s) (phase_of s.session.link s.durable.job)
updates s to UpdateApply = applies s to (update_phase s) (phase_of s.session.link s.durable.job)

-- ---- BLOB messages

-- a job whose blocks are missing is being filled
abbrev FillingOf : Option Job → Type 0
FillingOf None = ⊥
FillingOf (Some j) = j.stored ≡ Filling

lacking : (job : Option Job) (phase : UpdatePhase) → PhaseOf job phase → IsLacking (serving_in phase) → FillingOf job
lacking job (TransferError j) h k = rw (h.0) h.1
lacking job (TransferActive j) h k = rw (h.0) h.1
lacking job _ h k = absurd k

change_moves : {cause : Cause} (s : NodeState) (o : Served) (c : Change) → o.change ≡ c → (job : Option Job) → s.durable.job ≡ job → MayWrite (serving_in (update_phase s)) c → Moves cause s (served s o)
change_moves s o Same e None is h = stays s _ (rw (e, is) refl)
change_moves s o Same e (Some j) is h = stays s _ (rw (e, is) refl)
change_moves s o c e None is h = absurd (subst FillingOf is (lacking s.durable.job (update_phase s) (phase_of s.session.link s.durable.job) h))
change_moves s o c e (Some j) is h =
    let f : j.stored ≡ Filling = subst FillingOf is (lacking s.durable.job (update_phase s) (phase_of s.session.link s.durable.job) h) in
    record { move = Fills j (job_changed c j).parameters (job_changed c j).held is f (rw (e, is) refl) (rw (e, is) refl) }

serves : {cause : Cause} (s : NodeState) (o : Served) → MayWrite (server_of s).serving o.change → Moves cause s (served s o)
serves s o h = change_moves s o o.change refl s.durable.job refl h

-- ---- time

pub fits_true : (octets : List ℕ) (meta : Meta) → is_fit octets meta ≡ true → IsFit octets meta
fits_true octets meta e = record {
  size = grind (arith, nat_tests);
  digest = grind (arith, nat_tests, bytes_eq-Decides (sha256 octets) meta.digest);
}

seals : (s : NodeState) (j : Job) (b : Bool) → s.durable.job ≡ Some j → j.stored ≡ Filling → update_number (update_phase s) ≡ 3 → (b ≡ true → IsFit (joined j.held) j.meta) → Moves ByTime s (record { next = verified s j b; replies = []; work = Recorded false })
seals s j true is e three f = record { move = Verifies j refl is e three (f refl) refl refl }
seals s j false is e three f = record { move = Refuses j refl is e refl refl }

times : (s : NodeState) (phase : UpdatePhase) → update_phase s ≡ phase → PhaseOf s.durable.job phase → Moves ByTime s (on_time s phase)
times s (Applying j) is h = record { move = Activates j refl h.0 h.1 refl refl }
times s (Verifying j) is h = seals s j (is_fit (joined j.held) j.meta) h.0 h.1 (ap update_number is) (fits_true (joined j.held) j.meta)
times s phase is h = serves s (on_server_time (server_of s) (serving_in phase)) (subst (MayWrite (server_of s).serving) (sym (time_same (server_of s) (serving_in phase))) tt)

-- ---- all

pub asks : (s : NodeState) (from : ℕ) (request : Request) → Moves (ByRequest request) s (on_request s from request)
asks s from (OfUpdate request) = updates s from request
asks s from (OfBlob request) = serves s _ (blob_so (server_of s) from request).writes

pub passes : (s : NodeState) → Moves ByTime s (on_time s (update_phase s))
passes s = times s (update_phase s) refl (phase_of s.session.link s.durable.job)

abbrev pub cause_in : Option Request → Cause
cause_in (Some request) = ByRequest request
cause_in None = ByNothing

abbrev pub cause_by : Bool → Option Request → Cause
cause_by true request = cause_in request
cause_by false request = ByNothing

abbrev pub cause_of : NodeConfig → NodeEvent → Cause
cause_of config (PacketComes packet) = cause_by (is_addressee config packet) (request_at packet.payload)
cause_of config TimeComes = ByTime

packet_moves : (config : NodeConfig) (s : NodeState) (from : ℕ) (request : Option Request) → Move (cause_in request) s (on_packet config s from request).next.durable
packet_moves config s from (Some request) = (asks s from request).move
packet_moves config s from None = Stays refl refl

event_moves : (config : NodeConfig) (s : NodeState) (event : NodeEvent) → Move (cause_of config event) s (on_event config s event).next.durable
event_moves config s (PacketComes packet) =
    elim (is_addressee config packet) as (λ b. Move (cause_by b (request_at packet.payload)) s (cond b (on_packet config s packet.from (request_at packet.payload)) (record { next = s; sent = []; handled = false; work = Untouched })).next.durable) [
      | true ↦ packet_moves config s packet.from (request_at packet.payload)
      | false ↦ Stays refl refl
    ]
event_moves config s TimeComes = (passes s).move

-- EACH EVENT MOVES THE DURABLE STATE
pub steps : (config : NodeConfig) (s : NodeState) (event : NodeEvent) (now : ℕ) → Move (cause_of config event) (at_moment s now) (node_step config s event now).next.durable
steps config s event now = event_moves config (at_moment s now) event
