-- The few ways in which an event may change the durable state, and that each row is one of them.
use Rattle.std.proofs.Common.{◌≡◌, ◌<◌, ℕ, Bool, true, false, [], refl, ap, subst, arith, cond, Option, Some, None, Result, Ok, Err, set}
use Rattle.std.specs.Prelude.{slice_get, ◌||◌}
use Rattle.std.proofs.lemmas.Bool.Decides.{nat_tests}
use Rattle.mu_model_image.specs.declared.Meta.{Meta}
use Rattle.mu_model_image.specs.Meta.{Image, is_fit, meta_from}
use Rattle.mu_model_node.specs.declared.FlashWork.TheVariants.{Recorded}
use Rattle.mu_model_node.specs.declared.Link.{Link}
use Rattle.mu_model_node.specs.declared.Link.TheVariants.{Cut, Ready, Running}
use Rattle.mu_model_node.specs.declared.NodeConfig.{NodeConfig}
use Rattle.mu_model_node.specs.declared.Parameters.{Parameters}
use Rattle.mu_model_node.specs.declared.Stored.{Stored}
use Rattle.mu_model_node.specs.declared.Stored.TheVariants.{Filling, Verified, Refused, Applied}
use Rattle.mu_model_node.specs.Slots.{Slots, is_full, joined}
use Rattle.mu_model_node.specs.UpdateMessages.{UpdateStart, UpdateRequest, InformationGet, MetadataCheck, UpdateGet, StartUpdate, UpdateCancel, UpdateApply}
use Rattle.mu_model_node.specs.NodeMessages.{Request, OfUpdate, OfBlob, request_at}
use Rattle.mu_model_node.specs.BlobServer.{Change, Same}
use Rattle.mu_model_node.specs.BlobTable.{Served, on_server_time, on_blob}
use Rattle.mu_model_node.specs.NodeState.{Job, NodeDurable, NodeState, UpdatePhase, Idle, TransferError, TransferActive, Verifying, Succeeded, Failed, Applying, link_phase, filling_phase, stored_phase, job_phase, update_phase, serving_in, server_of, is_addressee}
use Rattle.mu_model_node.specs.NodeOutcome.{Outcome, job_changed, served}
use Rattle.mu_model_node.specs.UpdateTable.{same_start, new_job, check, check_image, takes_checked, takes, on_update_start, on_update_cancel, on_update_apply, on_update}
use Rattle.mu_model_node.specs.TimeTable.{verified, image_of_job, on_time}
use Rattle.mu_model_node.specs.Events.{NodeEvent, PacketComes, TimeComes, at_moment, on_request, on_packet, passed_over, on_event, node_step}
use Rattle.mu_model_node.specs.Log.{is_new, same_job}
use Rattle.mu_model_fates.proofs.Traces.{IsOpen, MayGoIn}

-- how an event may change the durable state
pub data Move (old new : NodeDurable) : Type 0 where
  Stays : new.images ≡ old.images → new.job ≡ old.job → Move old new
  Fills : (i : Job) (parameters : Option Parameters) (held : Slots) → old.job ≡ Some i → new.images ≡ old.images → new.job ≡ Some (record i { parameters = parameters; held = held }) → Move old new
  Takes : (j : Job) (active : Image) → j.stored ≡ Filling → IsOpen old.job → slice_get old.images j.index ≡ Some active → active.meta.version < j.meta.version → is_new old.job j ≡ true
      → new.images ≡ old.images → new.job ≡ Some j → Move old new
  Verifies : (i : Job) → old.job ≡ Some i → i.stored ≡ Filling → new.images ≡ old.images → new.job ≡ Some (record i { stored = Verified }) → Move old new
  Refuses : (i : Job) → old.job ≡ Some i → i.stored ≡ Filling → new.images ≡ old.images → new.job ≡ Some (record i { stored = Refused; parameters = None; held = [] }) → Move old new
  Asks : (i : Job) → old.job ≡ Some i → i.stored ≡ Verified → new.images ≡ old.images → new.job ≡ Some (record i { stored = Applied }) → Move old new
  Loses : (i : Job) → old.job ≡ Some i → MayGoIn i.stored → new.images ≡ old.images → new.job ≡ None → Move old new
  Activates : (i : Job) → old.job ≡ Some i → i.stored ≡ Applied → new.images ≡ set old.images i.index (image_of_job i) → new.job ≡ None → Move old new

-- ---- what a phase says of the job

abbrev PhaseOf : Option Job → UpdatePhase → Type 0
PhaseOf job Idle = job ≡ None
PhaseOf job (TransferError j) = (job ≡ Some j) × (j.stored ≡ Filling)
PhaseOf job (TransferActive j) = (job ≡ Some j) × (j.stored ≡ Filling)
PhaseOf job (Verifying j) = (job ≡ Some j) × (j.stored ≡ Filling)
PhaseOf job (Succeeded j) = (job ≡ Some j) × (j.stored ≡ Verified)
PhaseOf job (Failed j) = (job ≡ Some j) × (j.stored ≡ Refused)
PhaseOf job (Applying j) = (job ≡ Some j) × (j.stored ≡ Applied)

of_link : (j : Job) (link : Link) → j.stored ≡ Filling → PhaseOf (Some j) (link_phase j link)
of_link j Cut e = (refl, e)
of_link j Ready e = (refl, e)
of_link j Running e = (refl, e)

of_filling : (j : Job) (link : Link) (parameters : Option Parameters) → j.stored ≡ Filling → PhaseOf (Some j) (filling_phase j link parameters)
of_filling j link None e = of_link j link e
of_filling j link (Some p) e = elim (is_full j.held) as (λ b. PhaseOf (Some j) (cond b (Verifying j) (link_phase j link))) [ true ↦ (refl, e) | false ↦ of_link j link e ]

of_stored : (j : Job) (link : Link) (stored : Stored) → j.stored ≡ stored → PhaseOf (Some j) (stored_phase j link stored)
of_stored j link Filling e = of_filling j link j.parameters e
of_stored j link Verified e = (refl, e)
of_stored j link Refused e = (refl, e)
of_stored j link Applied e = (refl, e)

phase_of : (link : Link) (job : Option Job) → PhaseOf job (job_phase link job)
phase_of link None = refl
phase_of link (Some j) = of_stored j link j.stored refl

-- ---- outcomes

-- a record, so that its arguments are found
record Moves (s : NodeState) (o : Outcome) : Type 0 where
  move : Move s.durable o.next.durable

stays : (s : NodeState) (o : Outcome) → o.next.durable ≡ s.durable → Moves s o
stays s o e = record { move = Stays (ap (λ (d : NodeDurable). d.images) e) (ap (λ (d : NodeDurable). d.job) e) }

split_by : (s : NodeState) (b : Bool) (x y : Outcome) → (b ≡ true → Moves s x) → (b ≡ false → Moves s y) → Moves s (cond b x y)
split_by s true x y h k = h refl
split_by s false x y h k = k refl

-- ---- a new job

check_gives : (d : NodeDurable) (image : Option Image) (offer : Option Meta) (meta : Meta) → check_image d image offer ≡ Ok meta → (offer ≡ Some meta) × (active : Image) × (image ≡ Some active) × (active.meta.version < meta.version)
check_gives d None offer meta h = cc
check_gives d (Some active) None meta h = cc
check_gives d (Some active) (Some other) meta h =
    let same : Some other ≡ Some meta = grind arith in
    let newer : active.meta.version < other.version = grind (arith, nat_tests) in
    let is : other ≡ meta = cc in
    (same, active, refl, subst (λ (m : Meta). active.meta.version < m.version) is newer)

begins : (s : NodeState) (to : ℕ) (u : UpdateStart) (r : Result Meta ℕ) → IsOpen s.durable.job
    → ((meta : Meta) → r ≡ Ok meta → (is_new s.durable.job (new_job u meta) ≡ true) × (active : Image) × (slice_get s.durable.images u.index ≡ Some active) × (active.meta.version < meta.version))
    → Moves s (takes_checked s to u r)
begins s to u (Err status) free f = stays s _ refl
begins s to u (Ok meta) free f =
    let g = f meta refl in
    record { move = Takes (new_job u meta) g.1 refl free g.2 g.3 g.0 refl refl }

or_true : (b : Bool) → (b || true) ≡ true
or_true true = refl
or_true false = refl

offers : (s : NodeState) (to : ℕ) (u : UpdateStart) → IsOpen s.durable.job → ((meta : Meta) → meta_from u.metadata ≡ Some meta → is_new s.durable.job (new_job u meta) ≡ true) → Moves s (takes s to u)
offers s to u free f = begins s to u (check s.durable u.index u.metadata) free (λ meta e. let g = check_gives s.durable (slice_get s.durable.images u.index) (meta_from u.metadata) meta e in (f meta g.0, g.1, g.2, g.3))

starts : (s : NodeState) (to : ℕ) (u : UpdateStart) (phase : UpdatePhase) → PhaseOf s.durable.job phase → Moves s (on_update_start s to u phase)
starts s to u Idle h = offers s to u (rw h tt) (λ meta e. rw h refl)
starts s to u (TransferError j) h =
    split_by s (same_start u j) _ _ (λ yes. stays s _ refl)
    (λ no. offers s to u (rw (h.0, h.1) tt) (λ meta e.
    let new : (same_job (new_job u meta) j) ≡ false = rw e at no in
    rw (h.0, new) refl))
starts s to u (TransferActive j) h = split_by s (same_start u j) _ _ (λ yes. stays s _ refl) (λ no. stays s _ refl)
starts s to u (Verifying j) h = stays s _ refl
starts s to u (Succeeded j) h = stays s _ refl
starts s to u (Failed j) h = offers s to u (rw (h.0, h.1) tt) (λ meta e. rw (h.0, h.1) (or_true _))
starts s to u (Applying j) h = stays s _ refl

cancels : (s : NodeState) (to : ℕ) (phase : UpdatePhase) → PhaseOf s.durable.job phase → Moves s (on_update_cancel s to phase)
cancels s to Idle h = stays s _ refl
cancels s to (Applying j) h = stays s _ refl
cancels s to (TransferError j) h = record { move = Loses j h.0 (rw (h.1) tt) refl refl }
cancels s to (TransferActive j) h = record { move = Loses j h.0 (rw (h.1) tt) refl refl }
cancels s to (Verifying j) h = record { move = Loses j h.0 (rw (h.1) tt) refl refl }
cancels s to (Succeeded j) h = record { move = Loses j h.0 (rw (h.1) tt) refl refl }
cancels s to (Failed j) h = record { move = Loses j h.0 (rw (h.1) tt) refl refl }

applies : (s : NodeState) (to : ℕ) (phase : UpdatePhase) → PhaseOf s.durable.job phase → Moves s (on_update_apply s to phase)
applies s to (Succeeded j) h = record { move = Asks j h.0 h.1 refl refl }
applies s to (Applying j) h = stays s _ refl
applies s to _ h = stays s _ refl

updates : (s : NodeState) (to : ℕ) (request : UpdateRequest) → Moves s (on_update s to request)
updates s to (InformationGet first limit) = stays s _ refl
updates s to (MetadataCheck index metadata) = stays s _ refl
updates s to UpdateGet = stays s _ refl
updates s to (StartUpdate u) = starts s to u (update_phase s) (phase_of s.session.link s.durable.job)
updates s to UpdateCancel = cancels s to (update_phase s) (phase_of s.session.link s.durable.job)
updates s to UpdateApply = applies s to (update_phase s) (phase_of s.session.link s.durable.job)

-- ---- BLOB messages

changes : (s : NodeState) (o : Served) (c : Change) → o.change ≡ c → (job : Option Job) → s.durable.job ≡ job → Moves s (served s o)
changes s o c e None is = stays s _ (rw (e, is) refl)
changes s o Same e (Some j) is = stays s _ (rw (e, is) refl)
changes s o c e (Some j) is = record { move = Fills j (job_changed c j).parameters (job_changed c j).held is (rw (e, is) refl) (rw (e, is) refl) }

serves : (s : NodeState) (o : Served) → Moves s (served s o)
serves s o = changes s o o.change refl s.durable.job refl

-- ---- time

seals : (s : NodeState) (j : Job) (b : Bool) → s.durable.job ≡ Some j → j.stored ≡ Filling → Moves s (record { next = verified s j b; replies = []; work = Recorded false })
seals s j true is e = record { move = Verifies j is e refl refl }
seals s j false is e = record { move = Refuses j is e refl refl }

times : (s : NodeState) (phase : UpdatePhase) → PhaseOf s.durable.job phase → Moves s (on_time s phase)
times s (Applying j) h = record { move = Activates j h.0 h.1 refl refl }
times s (Verifying j) h = seals s j (is_fit (joined j.held) j.meta) h.0 h.1
times s phase h = serves s (on_server_time (server_of s) (serving_in phase))

-- ---- all

asks : (s : NodeState) (from : ℕ) (request : Request) → Moves s (on_request s from request)
asks s from (OfUpdate request) = updates s from request
asks s from (OfBlob request) = serves s (on_blob (server_of s) from request)

packet_moves : (config : NodeConfig) (s : NodeState) (from : ℕ) (request : Option Request) → Move s.durable (on_packet config s from request).next.durable
packet_moves config s from (Some request) = (asks s from request).move
packet_moves config s from None = Stays refl refl

event_moves : (config : NodeConfig) (s : NodeState) (event : NodeEvent) → Move s.durable (on_event config s event).next.durable
event_moves config s (PacketComes packet) =
    elim (is_addressee config packet) as (λ b. Move s.durable (cond b (on_packet config s packet.from (request_at packet.payload)) (passed_over s)).next.durable) [
      | true ↦ packet_moves config s packet.from (request_at packet.payload)
      | false ↦ Stays refl refl
    ]
event_moves config s TimeComes = (times s (update_phase s) (phase_of s.session.link s.durable.job)).move

-- EACH EVENT MOVES THE DURABLE STATE
pub steps : (config : NodeConfig) (s : NodeState) (event : NodeEvent) (now : ℕ) → Move s.durable (node_step config s event now).next.durable
steps config s event now = event_moves config (at_moment s now) event
