-- A node serves as by its blocks alone.
use Rattle.std.proofs.Common.{◌≡◌, ℕ, true, false, List, refl, sym, ap, subst, cond, Option, Some, None, is_some}
use Rattle.mu_model_image.specs.Meta.{Image}
use Rattle.mu_model_node.specs.Slots.{is_full}
use Rattle.mu_model_node.specs.declared.Parameters.{Parameters}
use Rattle.mu_model_node.specs.BlobMessages.{BlobRequest, BlobInformationGet, TransferGet, TransferStart, TransferCancel, BlockStart, BlockGet, ChunkTransfer}
use Rattle.mu_model_node.specs.declared.Link.{Link}
use Rattle.mu_model_node.specs.declared.Link.TheVariants.{Cut, Ready, Running}
use Rattle.mu_model_node.specs.BlobServer.{Transfer, Session, Serving, NoJob, Lacking, Whole, serving_by, serving_of, Server, serving_phase}
use Rattle.mu_model_node.specs.BlobTable.{on_blob, on_server_time}
use Rattle.mu_model_node.specs.declared.Stored.{Stored}
use Rattle.mu_model_node.specs.declared.Stored.TheVariants.{Filling, Verified, Refused, Applied}
use Rattle.mu_model_node.specs.NodeState.{Job, Failed, Verifying, link_phase, filling_phase, stored_phase, job_phase, transfer_of, serving_in}
use Rattle.mu_model_node.specs.Sound.{StoredIs, HasJob}
use Rattle.mu_model_serving.specs.Laws.{serving_alone, CutIfRefused, HasItsLink, IsServed, ServesAlike, WaitsAlike, PhasesAreAlike, CancelsInFailed}

-- ---- what is served

link_serving : (j : Job) (link : Link) → serving_in (link_phase j link) ≡ Lacking (transfer_of j)
link_serving j Cut = refl
link_serving j Ready = refl
link_serving j Running = refl

filling_serving : (j : Job) (link : Link) (p : Option Parameters) → serving_in (filling_phase j link p) ≡ serving_by (transfer_of j) p
filling_serving j link None = link_serving j link
filling_serving j link (Some p) =
    elim (is_full j.held) as (λ b. serving_in (cond b (Verifying j) (link_phase j link)) ≡ cond b (Whole (transfer_of j)) (Lacking (transfer_of j))) [
      | true ↦ refl
      | false ↦ link_serving j link
    ]

whole_serving : (t : Transfer) (p : Option Parameters) → is_some p ≡ true → is_full t.held ≡ true → serving_by t p ≡ Whole t
whole_serving t (Some p) some full = ap (λ b. cond b (Whole t) (Lacking t)) full
whole_serving t None some full = cc

-- ---- one server after another

abbrev at : (capacity : ℕ) → Session → (now : ℕ) → Serving → Server
at capacity l now v = record { capacity = capacity; serving = v; session = l; now = now }

-- where the verification failed, nothing is told by its blocks but that there is no job
refused_serves : (capacity : ℕ) (l : Session) (now : ℕ) (j : Job) (from : ℕ) (request : BlobRequest) → j.parameters ≡ None → l.link ≡ Cut → IsServed (Failed j) request
    → on_blob (at capacity l now NoJob) from request ≡ on_blob (at capacity l now (serving_by (transfer_of j) j.parameters)) from request
refused_serves capacity l now j from BlobInformationGet e k h = refl
refused_serves capacity l now j from TransferGet e k h = rw (e, k) refl
refused_serves capacity l now j from (TransferStart id p) e k h = rw (e, k) refl
refused_serves capacity l now j from (TransferCancel id) e k h = absurd h
refused_serves capacity l now j from (BlockStart block size) e k h = rw (e, k) refl
refused_serves capacity l now j from BlockGet e k h = rw (e, k) refl
refused_serves capacity l now j from (ChunkTransfer chunk octets) e k h = rw (e, k) refl

refused_waits : (capacity : ℕ) (l : Session) (now : ℕ) (j : Job) → j.parameters ≡ None → l.link ≡ Cut
    → on_server_time (at capacity l now NoJob) NoJob ≡ on_server_time (at capacity l now (serving_by (transfer_of j) j.parameters)) (serving_by (transfer_of j) j.parameters)
refused_waits capacity l now j e k = rw (e, k) refl

refused_phase : (l : Session) (j : Job) → j.parameters ≡ None → l.link ≡ Cut → serving_phase l NoJob ≡ serving_phase l (serving_by (transfer_of j) j.parameters)
refused_phase l j e k = rw (e, k) refl

-- ---- whatever P is asked of both

module _ {A : Type 0} (P : Serving → A) (l : Session) where
  -- where it is the same without a job and with the blocks of one that was refused
  by_stored : (j : Job) (st : Stored) → StoredIs j st → CutIfRefused st l.link → (st ≡ Refused → j.parameters ≡ None → l.link ≡ Cut → P NoJob ≡ P (serving_by (transfer_of j) j.parameters))
      → P (serving_in (stored_phase j l.link st)) ≡ P (serving_of (transfer_of j))
  by_stored j Filling is cut same = ap P (filling_serving j l.link j.parameters)
  by_stored j Verified is cut same = ap P (sym (whole_serving (transfer_of j) j.parameters is.parameters is.full))
  by_stored j Refused is cut same = same refl is cut
  by_stored j Applied is cut same = ap P (sym (whole_serving (transfer_of j) j.parameters is.parameters is.full))

abbrev IsServedIn : Option Job → Link → BlobRequest → Type 0
IsServedIn job link request = IsServed (job_phase link job) request

serves_by : (capacity : ℕ) (images : List Image) (l : Session) (now from : ℕ) (request : BlobRequest) (job : Option Job) → HasJob capacity images job → HasItsLink job l.link → IsServedIn job l.link request
    → on_blob (at capacity l now (serving_in (job_phase l.link job))) from request ≡ on_blob (at capacity l now (serving_alone job)) from request
serves_by capacity images l now from request None is cut h = refl
serves_by capacity images l now from request (Some j) is cut h =
    by_stored (λ v. on_blob (at capacity l now v) from request) l j j.stored is.stored cut
    (λ e none link. refused_serves capacity l now j from request none link (subst (λ st. IsServed (stored_phase j l.link st) request) e h))

waits_by : (capacity : ℕ) (images : List Image) (l : Session) (now : ℕ) (job : Option Job) → HasJob capacity images job → HasItsLink job l.link
    → on_server_time (at capacity l now (serving_in (job_phase l.link job))) (serving_in (job_phase l.link job)) ≡ on_server_time (at capacity l now (serving_alone job)) (serving_alone job)
waits_by capacity images l now None is cut = refl
waits_by capacity images l now (Some j) is cut =
    by_stored (λ v. on_server_time (at capacity l now v) v) l j j.stored is.stored cut (λ e none link. refused_waits capacity l now j none link)

phases_by : (capacity : ℕ) (images : List Image) (l : Session) (job : Option Job) → HasJob capacity images job → HasItsLink job l.link
    → serving_phase l (serving_in (job_phase l.link job)) ≡ serving_phase l (serving_alone job)
phases_by capacity images l None is cut = refl
phases_by capacity images l (Some j) is cut = by_stored (λ v. serving_phase l v) l j j.stored is.stored cut (λ e none link. refused_phase l j none link)

pub serves_alike : ServesAlike
serves_alike s from request is cut h = serves_by s.durable.capacity s.durable.images s.session s.moment from request s.durable.job is.durable.job cut h

pub waits_alike : WaitsAlike
waits_alike s is cut = waits_by s.durable.capacity s.durable.images s.session s.moment s.durable.job is.durable.job cut

pub phases_alike : PhasesAreAlike
phases_alike s is cut = phases_by s.durable.capacity s.durable.images s.session s.durable.job is.durable.job cut

pub cancels_in_failed : CancelsInFailed
cancels_in_failed s from id j e = ap (λ phase. on_blob (at s.durable.capacity s.session s.moment (serving_in phase)) from (TransferCancel id)) e
