-- What the invariant says of what is on the air and in the logs.
use Rattle.std.proofs.Common.{◌≡◌, ℕ, zero, suc, ◌+◌, List, [], ◌∷◌, ◌++◌, Option, Some, None, refl, sym, ap, subst, ◌∙◌, Contains, arith, ⊎_elim}
use Rattle.std.specs.List.{AllByRecursion}
use Rattle.mu_model_image.specs.declared.Meta.{Meta}
use Rattle.mu_model_image.specs.Meta.{Image}
use Rattle.mu_model_wire.specs.Packet.{Packet}
use Rattle.mu_model_node.specs.Log.{LogEntry, Took, Reached}
use Rattle.mu_model_node.specs.NodeState.{Job, NodeDurable, NodeState, restarted}
use Rattle.mu_model_node.specs.Safe.{InOrder, ImageIsSafe, found, log_after}
use Rattle.mu_model_node.specs.UpdateMessages.{ShownJob, InformationStatus, UpdateStatus}
use Rattle.mu_model_client.specs.Answers.{Answer, FromUpdate, answer_at}
use Rattle.mu_model_fates.specs.Laws.{IsLogged, VersionsOf, JobIsLogged, JobGoesOn, TookWasOffered, IsOffer, come_in, VersionsRise as VersionsRiseInRuns}
use Rattle.mu_model_told.specs.Laws.{HasNumbers}
use Rattle.mu_model_told.specs.Reached.{WasReached, IdsAreSafe, IsReached, SentIsReached, sent_in}
use Rattle.mu_model_world.specs.World.{Member, config_of, log_at}
use Rattle.mu_model_mesh.specs.Mesh.{Mesh, node_at}
use Rattle.mu_model_mesh_safety.specs.Facts.{StatusesAreReached, VersionsRise, AreOfImages, ShownImagesWereHad, JobsAreLogged, IsOfferedIn, JobsWereOffered, VerifiedJobsGoOn}
use Rattle.mu_model_mesh_safety.specs.Runs.{NodeRun}
use Rattle.mu_model_mesh_safety.proofs.DoingPlaces.{of_all}
use Rattle.mu_model_mesh_safety.proofs.Kept.{IsLogOf, Kept}

-- ---- lists

in_later : {X : Type 0} (x y : X) (xs : List X) → Contains xs y → Contains (x ∷ xs) y
in_later x y xs (k, within, is) = (suc k, omega (arith, within), is)

-- what holds of each that is there
pub all_of : {X : Type 0} (P : X → Type 0) (xs : List X) → ((x : X) → Contains xs x → P x) → AllByRecursion P xs
all_of P [] h = tt
all_of P (x ∷ xs) h = (h x (zero, omega arith, refl), all_of P xs (λ y there. h y (in_later x y xs there)))

-- ---- what a node sent

-- its log, and that what it sent was reached by it
record HasTold (log : List LogEntry) (n : Member) (p : Packet) : Type 0 where
  pub made : NodeDurable
  pub jobless : made.job ≡ None
  pub first : n.first ≡ made.images
  pub told : IsReached made log (answer_at p.payload)

has_numbers : (job : Option Job) → job ≡ None → HasNumbers job
has_numbers None h = tt
has_numbers (Some j) h = absurd cc

module _ (sent : SentIsReached) where
  node_told : (m : Mesh) → Kept m → (p : Packet) → Contains m.nodes.bag p → (n : Member) → node_at m p.from ≡ Some n → HasTold (log_at p.from m.nodes.log) n p
  node_told m k p there n at =
      let run = k.nodes p.from n at in
      let r : NodeRun m.nodes.bag p.from n = run.0 in
      let mine = of_all (λ (q : Packet). q.from ≡ p.from → Contains (sent_in (config_of p.from n) (restarted r.made) r.hs) q) m.nodes.bag p r.sent there refl in
      let reached = of_all (λ (q : Packet). IsReached r.made (log_after (config_of p.from n) (restarted r.made) r.hs) (answer_at q.payload)) (sent_in (config_of p.from n) (restarted r.made) r.hs) p
      (sent (config_of p.from n) r.made r.hs r.sound (has_numbers r.made.job r.jobless) r.fits) mine in
      record {
        made = r.made;
        jobless = r.jobless;
        first = r.first;
        told = subst (λ (log : List LogEntry). IsReached r.made log (answer_at p.payload)) (sym run.1) reached;
      }

  -- ---- statuses

  status_reached : (log : List LogEntry) (n : Member) (p : Packet) → HasTold log n p → (status phase : ℕ) (job : ShownJob) → answer_at p.payload ≡ Some (FromUpdate (UpdateStatus status phase (Some job))) → InOrder (Reached job.id phase ∷ []) log
  status_reached log n p h status phase job is =
      let reached : WasReached h.made log job.id phase = subst (λ (answer : Option Answer). IsReached h.made log answer) is h.told in
      ⊎_elim (λ there. there) (λ (f : (j : Job) × (h.made.job ≡ Some j) × _ × _). absurd (let none : Some f.0 ≡ None = sym f.1 ∙ h.jobless in cc)) reached

  pub statuses_are_reached : (m : Mesh) → Kept m → StatusesAreReached m
  statuses_are_reached m k = all_of _ m.nodes.bag (λ p there n at. status_reached (log_at p.from m.nodes.log) n p (node_told m k p there n at))

  -- ---- shown images

  ids_had : (made : NodeDurable) (first : List Image) (log : List LogEntry) (index : ℕ) (ids : List (List ℕ)) → made.job ≡ None → first ≡ made.images → IdsAreSafe made log index ids → AreOfImages first log index ids
  ids_had made first log index [] none is h = tt
  ids_had made first log index (id ∷ more) none is h =
      let logs : found made.job ++ log ≡ log = ap (λ (job : Option Job). found job ++ log) none in
      ((h.0.0, h.0.1, rw is (subst (λ (all : List LogEntry). ImageIsSafe made.images all index h.0.0) logs h.0.2)), ids_had made first log (index + 1) more none is h.1)

  images_had : (log : List LogEntry) (n : Member) (p : Packet) → HasTold log n p → (count first : ℕ) (ids : List (List ℕ)) → answer_at p.payload ≡ Some (FromUpdate (InformationStatus count first ids)) → AreOfImages n.first log first ids
  images_had log n p h count first ids is =
      ids_had h.made n.first log first ids h.jobless h.first (subst (λ (answer : Option Answer). IsReached h.made log answer) is h.told)

  pub shown_images_were_had : (m : Mesh) → Kept m → ShownImagesWereHad m
  shown_images_were_had m k = all_of _ m.nodes.bag (λ p there n at. images_had (log_at p.from m.nodes.log) n p (node_told m k p there n at))

-- ---- logs

versions_of : VersionsRiseInRuns → (bag : List Packet) (address : ℕ) (n : Member) (log : List LogEntry) (r : NodeRun bag address n) → IsLogOf bag address n r log → VersionsOf n.first log n.state.durable.images
versions_of law bag address n log r is = rw (r.first, is, r.state) (law (config_of address n) r.made r.hs r.jobless)

pub versions_rise : VersionsRiseInRuns → (m : Mesh) → Kept m → VersionsRise m
versions_rise law m k address n at =
    let run = k.nodes address n at in
    versions_of law m.nodes.bag address n (log_at address m.nodes.log) run.0 run.1

job_of_run : JobIsLogged → (bag : List Packet) (address : ℕ) (n : Member) (log : List LogEntry) (r : NodeRun bag address n) → IsLogOf bag address n r log → (j : Job) → n.state.durable.job ≡ Some j → IsLogged log j
job_of_run law bag address n log r is j has = rw is (law (config_of address n) r.made r.hs r.jobless j (subst (λ (s : NodeState). s.durable.job ≡ Some j) r.state has))

pub jobs_are_logged : JobIsLogged → (m : Mesh) → Kept m → JobsAreLogged m
jobs_are_logged law m k address n j at has =
    let run = k.nodes address n at in
    job_of_run law m.nodes.bag address n (log_at address m.nodes.log) run.0 run.1 j has

pub verified_jobs_go_on : JobGoesOn → (m : Mesh) → VerifiedJobsGoOn m
verified_jobs_go_on law m address n j h at is = law (config_of address n) n.state h j is

-- ---- jobs were offered

offer_in : (bag came : List Packet) (n : Member) (address id index : ℕ) (meta : Meta) → AllByRecursion (λ (p : Packet). Contains bag p) came
    → (packet : Packet) × Contains came packet × IsOffer (config_of address n) packet id index meta → IsOfferedIn bag id index meta
offer_in bag came n address id index meta all (packet, has, offer) = record {
  packet = packet;
  in_bag = of_all (λ (p : Packet). Contains bag p) came packet all has;
  start = offer.start;
  asks = offer.asks;
  same_id = offer.same_id;
  same_index = offer.same_index;
  same_meta = offer.same_meta;
}

pub jobs_were_offered : TookWasOffered → (m : Mesh) → Kept m → JobsWereOffered m
jobs_were_offered came m k address n id index meta at took =
    let run = k.nodes address n at in
    let r : NodeRun m.nodes.bag address n = run.0 in
    let own : InOrder (Took id index meta ∷ []) (log_after (config_of address n) (restarted r.made) r.hs) = subst (InOrder (Took id index meta ∷ [])) run.1 took in
    offer_in m.nodes.bag (come_in r.hs) n address id index meta r.come (came (config_of address n) (restarted r.made) r.hs id index meta own)
