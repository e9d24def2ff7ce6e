-- What a node tells over whole runs was reached by then.
use Rattle.std.proofs.Common.{◌≡◌, ℕ, zero, suc, List, [], ◌∷◌, ◌++◌, take, drop, refl, sym, ap, subst, arith, Option, Some, None}
use Rattle.std.specs.Prelude.{slice_get, ◌+◌}
use Rattle.std.specs.List.{AllByRecursion}
use Rattle.mu_model_image.specs.Meta.{Image}
use Rattle.mu_model_image.specs.Laws.{ImagesHaveMetadata}
use Rattle.mu_model_wire.specs.Opcodes.{OneOctetIsKept, TwoOctetsAreKept}
use Rattle.mu_model_wire.specs.Packet.{Packet}
use Rattle.mu_model_wire.specs.Laws.{CanonicalIsRead, GrammarHolds}
use Rattle.mu_model_node.specs.Events.{node_step}
use Rattle.mu_model_node.specs.Laws.{EventsKeepStatesSound, BootsAreSound, WorkLeavesOldOrNew}
use Rattle.mu_model_node.specs.Log.{LogEntry}
use Rattle.mu_model_node.specs.NodeState.{Job, NodeDurable, NodeState, update_number, update_phase, restarted}
use Rattle.mu_model_node.specs.Safe.{Happening, Done, ImageIsSafe, ImagesAreSafe, OneNodeIsSafe, found, state_after, log_after}
use Rattle.mu_model_node.specs.UpdateMessages.{ShownJob, UpdateReply, InformationStatus, MetadataStatus, UpdateStatus}
use Rattle.mu_model_node.specs.UpdateTable.{shown}
use Rattle.mu_model_client.specs.Answers.{Answer, FromUpdate, FromBlob, answer_at}
use Rattle.mu_model_told.specs.Laws.{shown_in, ids_of, IsSoOf, IsSo}
use Rattle.mu_model_told.specs.Reached.{WasReached, IdsAreSafe, ReplyIsReached, IsReached, ToldIsReached}
use Rattle.mu_model_told.proofs.Runs.{IsInOrder, run_in_order, boot_in_order, JobIsReached, StateIsReached, runs_reached, state_more}
use Rattle.mu_model_told.proofs.Sent.{told_is_so}

-- ---- an Update Status

job_told : (d : NodeDurable) (log : List LogEntry) (phase n : ℕ) (job : ShownJob) (own : Option Job) → phase ≡ n → Some job ≡ shown_in own → JobIsReached d log n own → WasReached d log job.id phase
job_told d log phase n job None e f h = cc
job_told d log phase n job (Some j) e f h =
    let same : job ≡ shown j = cc in
    let id : job.id ≡ j.id = ap (λ (x : ShownJob). x.id) same in
    rw (e, id) h

-- ---- an Information Status

-- what is taken are the Firmware IDs of the images from that index on
ids_safe : (d : NodeDurable) (log : List LogEntry) (images : List Image) (base limit : ℕ) → ((i : ℕ) (image : Image) → slice_get images i ≡ Some image → ImageIsSafe d.images (found d.job ++ log) (base + i) image) → IdsAreSafe d log base (take limit (ids_of images))
ids_safe d log [] base zero h = tt
ids_safe d log [] base (suc limit) h = tt
ids_safe d log (x ∷ images) base zero h = tt
ids_safe d log (x ∷ images) base (suc limit) h = (
  (x, refl, subst (λ (n : ℕ). ImageIsSafe d.images (found d.job ++ log) n x) (omega arith) (h 0 x refl)),
  ids_safe d log images (base + 1) limit (λ i image is. subst (λ (n : ℕ). ImageIsSafe d.images (found d.job ++ log) n image) (omega arith) (h (suc i) image is)),
)

ids_from : (d : NodeDurable) (log : List LogEntry) (images : List Image) (base first limit : ℕ) → ((i : ℕ) (image : Image) → slice_get images i ≡ Some image → ImageIsSafe d.images (found d.job ++ log) (base + i) image) → IdsAreSafe d log (base + first) (take limit (drop first (ids_of images)))
ids_from d log images base zero limit h = subst (λ (n : ℕ). IdsAreSafe d log n (take limit (ids_of images))) (omega arith) (ids_safe d log images base limit h)
ids_from d log [] base (suc first) zero h = tt
ids_from d log [] base (suc first) (suc limit) h = tt
ids_from d log (x ∷ images) base (suc first) limit h =
    subst (λ (n : ℕ). IdsAreSafe d log n (take limit (drop first (ids_of images)))) (omega arith)
    (ids_from d log images (base + 1) first limit (λ i image is. subst (λ (n : ℕ). ImageIsSafe d.images (found d.job ++ log) n image) (omega arith) (h (suc i) image is)))

-- ---- what is told

reply_reached : (d : NodeDurable) (log : List LogEntry) (s : NodeState) (reply : UpdateReply) → StateIsReached d log s → ImagesAreSafe d.images (found d.job ++ log) s.durable.images → IsSoOf s reply → ReplyIsReached d log reply
reply_reached d log s (UpdateStatus status phase None) h k so = tt
reply_reached d log s (UpdateStatus status phase (Some job)) h k so = job_told d log phase (update_number (update_phase s)) job s.durable.job so.0 so.1 h
reply_reached d log s (InformationStatus count first ids) h k so =
    subst (λ (shown : List (List ℕ)). IdsAreSafe d log first shown) (sym so.2) (subst (λ (n : ℕ). IdsAreSafe d log n (take so.1 (drop first (ids_of s.durable.images)))) (omega arith)
    (ids_from d log s.durable.images 0 first so.1 (λ i image is. subst (λ (n : ℕ). ImageIsSafe d.images (found d.job ++ log) n image) (omega arith) (k i image is))))
reply_reached d log s (MetadataStatus status index) h k so = tt

answer_reached : (d : NodeDurable) (log : List LogEntry) (s : NodeState) (answer : Option Answer) → StateIsReached d log s → ImagesAreSafe d.images (found d.job ++ log) s.durable.images → IsSo s answer → IsReached d log answer
answer_reached d log s None h k so = tt
answer_reached d log s (Some (FromUpdate reply)) h k so = reply_reached d log s reply h k so
answer_reached d log s (Some (FromBlob answer)) h k so = tt

all_reached : (d : NodeDurable) (log : List LogEntry) (s : NodeState) (sent : List Packet) → StateIsReached d log s → ImagesAreSafe d.images (found d.job ++ log) s.durable.images → AllByRecursion (λ (p : Packet). IsSo s (answer_at p.payload)) sent → AllByRecursion (λ (p : Packet). IsReached d log (answer_at p.payload)) sent
all_reached d log s [] h k so = tt
all_reached d log s (p ∷ sent) h k so = (answer_reached d log s (answer_at p.payload) h k so.0, all_reached d log s sent h k so.1)

-- what the lower crates prove
pub record Lower : Type 0 where
  pub one : OneOctetIsKept
  pub two : TwoOctetsAreKept
  pub grammar : GrammarHolds
  pub again : CanonicalIsRead
  pub images : ImagesHaveMetadata
  pub events : EventsKeepStatesSound
  pub boots : BootsAreSound
  pub work : WorkLeavesOldOrNew
  pub safe : OneNodeIsSafe

pub told_is_reached : Lower → ToldIsReached
told_is_reached law config d hs event now h numbers fits fit =
    let s : NodeState = state_after config (restarted d) hs in
    let next : NodeState = (node_step config s event now).next in
    let all : List Happening = hs ++ Done event now ∷ [] in
    let log : List LogEntry = log_after config (restarted d) all in
    let order : IsInOrder s = run_in_order law.events law.boots law.work config (restarted d) hs fits (boot_in_order law.boots d h numbers) in
    let is : state_after config (restarted d) all ≡ next = state_more config (restarted d) hs (Done event now) in
    all_reached d log next (node_step config s event now).sent
    (subst (λ (t : NodeState). StateIsReached d log t) is (runs_reached config d all))
    (subst (λ (t : NodeState). ImagesAreSafe d.images (found d.job ++ log) t.durable.images) is (law.safe config d all h))
    (told_is_so law.one law.two law.grammar law.again law.images config s event now fit.1 order.sound order.numbers)
