-- The BLOB rows at a distributor. They are the node's, so what a node's law says of them holds: a node with a job of the same
-- transfer stands beside the distributor.
use Rattle.std.proofs.Common.{◌≡◌, ◌<◌, ◌≤◌, ℕ, zero, suc, ◌*◌, true, false, [], ◌∷◌, refl, sym, ap, subst, ◌∙◌, cond, arith, Option, Some, None}
use Rattle.std.specs.Prelude.{slice_get}
use Rattle.sha2.specs.Sha256.{sha256}
use Rattle.mu_model_image.specs.Meta.{Image}
use Rattle.mu_model_node.specs.declared.Parameters.{Parameters}
use Rattle.mu_model_node.specs.declared.Link.{Link}
use Rattle.mu_model_node.specs.declared.Link.TheVariants.{Cut, Ready, Running}
use Rattle.mu_model_node.specs.declared.Stored.TheVariants.{Filling}
use Rattle.mu_model_node.specs.Slots.{is_full}
use Rattle.mu_model_node.specs.BlobMessages.{BlobRequest}
use Rattle.mu_model_node.specs.BlobServer.{Transfer, CurrentBlock, Session, Serving, NoJob, Lacking, Whole, serving_by, serving_of, Server, Change, Same, Begins, Drops, Puts, changed}
use Rattle.mu_model_node.specs.BlobTable.{on_blob}
use Rattle.mu_model_node.specs.NodeMessages.{OfBlob}
use Rattle.mu_model_node.specs.NodeState.{Job, NodeState, UpdatePhase, link_phase, filling_phase, transfer_of, serving_in, update_phase, server_of as node_server}
use Rattle.mu_model_node.specs.NodeOutcome.{with_session as node_with, job_after, served as node_served}
use Rattle.mu_model_node.specs.Sound.{IsActiveImage, HasBlocks, IsCurrent, IsJob, HasJob, IsNodeState, HasCurrent as NodeHasCurrent, BlobRequestFits}
use Rattle.mu_model_node.specs.Laws.{RequestsKeepStatesSound}
use Rattle.mu_model_distributor.specs.DistState.{UploadJob}
use Rattle.mu_model_distributor.specs.DistTable.{job_changed}
use Rattle.mu_model_distributor.specs.Sound.{HasCurrent}

-- ---- a node beside it

any_image : Image
any_image = record { octets = 0 ∷ []; meta = record { size = 1; version = 0; digest = sha256 (0 ∷ []) } }

abbrev as_job : Transfer → Job
as_job t = record { id = t.id; index = 0; meta = record { size = t.size; version = 1; digest = [] }; ttl = 0; base = t.base; stored = Filling; parameters = t.parameters; held = t.held }

abbrev as_node : Server → Option Job → NodeState
as_node v job = record { durable = record { count = 0; capacity = v.capacity; images = any_image ∷ []; job = job }; fresh = 0; session = v.session; moment = v.now }

link_serves : (j : Job) (link : Link) → serving_in (link_phase j link) ≡ Lacking (transfer_of j)
link_serves j Cut = refl
link_serves j Ready = refl
link_serves j Running = refl

filling_serves : (j : Job) (link : Link) (parameters : Option Parameters) → serving_in (filling_phase j link parameters) ≡ serving_by (transfer_of j) parameters
filling_serves j link None = link_serves j link
filling_serves j link (Some p) = elim (is_full j.held) as (λ b. serving_in (cond b (UpdatePhase.Verifying j) (link_phase j link)) ≡ cond b (Whole (transfer_of j)) (Lacking (transfer_of j))) [ true ↦ refl | false ↦ link_serves j link ]

node_serves : (v : Server) (t : Transfer) → v.serving ≡ serving_of t → node_server (as_node v (Some (as_job t))) ≡ v
node_serves v t e =
    let same : serving_in (update_phase (as_node v (Some (as_job t)))) ≡ v.serving = filling_serves (as_job t) v.session.link t.parameters ∙ sym e in
    ap (λ (x : Serving). record { capacity = v.capacity; serving = x; session = v.session; now = v.now }) same

-- ---- that node is sound

image_is : (capacity : ℕ) → 1 ≤ capacity → IsActiveImage capacity any_image
unfolding any_image
image_is capacity h = record { some = omega arith; room = h; fit = record { size = refl; digest = refl } }

images_are : (capacity : ℕ) → 1 ≤ capacity → (index : ℕ) (image : Image) → slice_get (any_image ∷ []) index ≡ Some image → IsActiveImage capacity image
images_are capacity h zero image e = let same : any_image ≡ image = cc in subst (IsActiveImage capacity) same (image_is capacity h)
images_are capacity h (suc index) image e = cc

-- a transfer that a server may have
pub record IsServed (capacity : ℕ) (t : Transfer) : Type 0 where
  pub some : 0 < t.size
  pub room : t.size ≤ capacity
  pub blocks : HasBlocks t.size t.parameters t.held

job_is : (capacity : ℕ) (t : Transfer) → IsServed capacity t → IsJob capacity (any_image ∷ []) (as_job t)
unfolding any_image
job_is capacity t h = record { some = h.some; room = h.room; newer = omega arith; blocks = h.blocks; stored = tt }

abbrev HasPages : ℕ → Type 0
HasPages capacity = (pages : ℕ) × (1 ≤ pages) × (pages ≤ 256) × (capacity ≡ 4096 * pages)

some_room : (capacity : ℕ) → HasPages capacity → 1 ≤ capacity
some_room capacity h = let e : capacity ≡ 4096 * h.0 = h.3 in let some : 1 ≤ h.0 = h.1 in omega arith

node_sound : (v : Server) (job : Option Job) → HasPages v.capacity → HasJob v.capacity (any_image ∷ []) job → NodeHasCurrent job v.session.current → IsNodeState (as_node v job)
node_sound v job pages h current = record {
  durable = record { capacity = pages; some_image = omega arith; two_images = omega arith; images = images_are v.capacity (some_room v.capacity pages); job = h };
  fresh = omega arith;
  current = current;
}

-- ---- what it comes to

to_node : (j : UploadJob) (current : Option CurrentBlock) → HasCurrent (Some j) current → NodeHasCurrent (Some (as_job j.transfer)) current
to_node j None h = tt
to_node j (Some c) h =
    let same : h.of ≡ j = cc h.is in
    record { of = as_job j.transfer; is = refl; filling = refl; parameters = h.parameters; has = subst (λ (x : UploadJob). x.transfer.parameters ≡ Some h.parameters) same h.has; current = subst (λ (x : UploadJob). IsCurrent h.parameters x.transfer.held c) same h.current }

from_node : (j : UploadJob) (of : Job) (current : Option CurrentBlock) → of.parameters ≡ j.transfer.parameters → of.held ≡ j.transfer.held → NodeHasCurrent (Some of) current → HasCurrent (Some j) current
from_node j of None p k h = tt
from_node j of (Some c) p k h =
    let same : h.of ≡ of = cc h.is in
    let has : of.parameters ≡ Some h.parameters = subst (λ (x : Job). x.parameters ≡ Some h.parameters) same h.has in
    let is : IsCurrent h.parameters of.held c = subst (λ (x : Job). IsCurrent h.parameters x.held c) same h.current in
    record { of = j; is = refl; parameters = h.parameters; has = sym p ∙ has; current = subst (λ held. IsCurrent h.parameters held c) k is }

-- after a change
pub record ServedSoundly (capacity : ℕ) (j : UploadJob) (c : Change) (current : Option CurrentBlock) : Type 0 where
  pub blocks : HasBlocks j.transfer.size (changed c j.transfer).parameters (changed c j.transfer).held
  pub current_is : HasCurrent (Some (job_changed c j)) current

extracts : (v : Server) (j : UploadJob) (c : Change) (l : Session) → IsNodeState (node_with (job_after (as_node v (Some (as_job j.transfer))) c (Some (as_job j.transfer))) l) → ServedSoundly v.capacity j c l.current
extracts v j Same l h = record { blocks = h.durable.job.blocks; current_is = from_node j _ l.current refl refl h.current }
extracts v j (Begins p) l h = record { blocks = h.durable.job.blocks; current_is = from_node (job_changed (Begins p) j) _ l.current refl refl h.current }
extracts v j Drops l h = record { blocks = h.durable.job.blocks; current_is = from_node (job_changed Drops j) _ l.current refl refl h.current }
extracts v j (Puts block octets) l h = record { blocks = h.durable.job.blocks; current_is = from_node (job_changed (Puts block octets) j) _ l.current refl refl h.current }

pub serves_soundly : RequestsKeepStatesSound → (v : Server) (j : UploadJob) (from : ℕ) (request : BlobRequest) → BlobRequestFits request → HasPages v.capacity → v.serving ≡ serving_of j.transfer → IsServed v.capacity j.transfer → HasCurrent (Some j) v.session.current → ServedSoundly v.capacity j (on_blob v from request).change (on_blob v from request).session.current
serves_soundly law v j from request fits pages e h current =
    let n : NodeState = as_node v (Some (as_job j.transfer)) in
    let sound : IsNodeState n = node_sound v (Some (as_job j.transfer)) pages (job_is v.capacity j.transfer h) (to_node j v.session.current current) in
    let next : IsNodeState (node_served n (on_blob (node_server n) from request)).next = law n from (OfBlob request) fits sound in
    let there : IsNodeState (node_served n (on_blob v from request)).next = subst (λ x. IsNodeState (node_served n (on_blob x from request)).next) (node_serves v j.transfer e) next in
    extracts v j (on_blob v from request).change (on_blob v from request).session there

-- without a job there is no current block after it
none_after : (n : NodeState) (c : Change) (l : Session) → IsNodeState (node_with (job_after n c None) l) → n.durable.job ≡ None → l.current ≡ None
none_after n c l h e = none_of n.durable.job l.current e h.current
  where
    none_of : (job : Option Job) (current : Option CurrentBlock) → job ≡ None → NodeHasCurrent job current → current ≡ None
    none_of job None e h = refl
    none_of job (Some c) e h = let never : None ≡ Some h.of = sym e ∙ h.is in cc

pub serves_nothing : RequestsKeepStatesSound → (v : Server) (from : ℕ) (request : BlobRequest) → BlobRequestFits request → HasPages v.capacity → v.serving ≡ NoJob → v.session.current ≡ None → (on_blob v from request).session.current ≡ None
serves_nothing law v from request fits pages e none =
    let n : NodeState = as_node v None in
    let sound : IsNodeState n = node_sound v None pages tt (rw none tt) in
    let next : IsNodeState (node_served n (on_blob (node_server n) from request)).next = law n from (OfBlob request) fits sound in
    let same : node_server n ≡ v = ap (λ (x : Serving). record { capacity = v.capacity; serving = x; session = v.session; now = v.now }) (sym e) in
    let there : IsNodeState (node_served n (on_blob v from request)).next = subst (λ x. IsNodeState (node_served n (on_blob x from request)).next) same next in
    none_after n (on_blob v from request).change (on_blob v from request).session there refl
