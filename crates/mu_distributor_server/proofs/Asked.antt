-- Requests on receivers, and those that only ask.
use Rattle.std.proofs.Common.{◌≡◌, ◌∙◌, ℕ, Bool, true, List, [], refl, sym, ap, subst}
use Rattle.std.specs.Prelude.{IfOk, OnErr, Result, Ok, Err}
use Rattle.mu_model_flash.specs.Flash.{Seen}
use Rattle.mu_model_flash.specs.Laws.{RunLaws}
use Rattle.mu_model_flash.specs.Run.{either, Ran, Broke}
use Rattle.mu_model_node.specs.declared.FlashWork.{FlashWork}
use Rattle.mu_model_node.specs.declared.FlashWork.TheVariants.{Untouched, Recorded, Begun, PutBlock}
use Rattle.mu_model_node.specs.FlashWork.{work_by}
use Rattle.mu_model_record.specs.Represents.{RepresentsStore}
use Rattle.mu_distmsg.specs.declared.message.ReceiverRow.{ReceiverRow}
use Rattle.mu_model_distributor.specs.Commit.{Outcome, tells}
use Rattle.mu_model_distributor.specs.DistEvents.{at_moment}
use Rattle.mu_model_distributor.specs.DistState.{DistState}
use Rattle.mu_model_distributor.specs.DistTable.{on_request}
use Rattle.mu_model_distributor.specs.Replies.{DistReply}
use Rattle.mu_model_distributor.specs.Requests.{DistRequest, ReceiversAdd, ReceiversDeleteAll, ReceiversGet, CapabilitiesGet, DistributionGet, DistributionStart, DistributionSuspend, DistributionCancel, DistributionApply, UploadGet, StartUpload, StartUploadOob, UploadCancel, FirmwareGet, FirmwareGetByIndex, FirmwareDelete, FirmwareDeleteAll}
use Rattle.mu_model_distributor.specs.Sound.{IsDistDurable}
use Rattle.mu_model_represents_distributor.specs.RepresentsDistributor.{RepresentsDistributor}
use Rattle.mu_model_represents_distributor.specs.Short.{StoresAreReadAsDistributors}
use Rattle.mu_store.specs.declared.faults.StoreFault.{StoreFault}
use Rattle.mu_place.specs.declared.place.Place.{Place}
use Rattle.mu_place.specs.Place.{place_seen}
use Rattle.mu_blobsrv.specs.declared.server.BlobServer.{BlobServer}
use Rattle.mu_blobsrv.specs.Views.{place_of}
use Rattle.mu_distributor_rows.specs.Due.{IsDueOf}
use Rattle.mu_distributor_rows.specs.Receivers.{AreRowsOf, with_rows}
use Rattle.mu_distributor_answers.specs.Steps.{shown_to}
use Rattle.mu_distributor_answers.specs.declared.messages.DistRequest.{DistRequest as DistRequestHere}
use Rattle.mu_distributor_answers.specs.declared.messages.DistRequest.TheVariants.{ReceiversAdd as AddHere, ReceiversDeleteAll as DeleteAllHere, ReceiversGet as GetHere, CapabilitiesGet as CapabilitiesHere, DistributionGet as DistributionHere, DistributionStart as StartHere, DistributionSuspend as SuspendHere, DistributionCancel as CancelHere, DistributionApply as ApplyHere, UploadGet as UploadHere, StartUpload as StartUploadHere, StartUploadOob as OobHere, UploadCancel as UploadCancelHere, FirmwareGet as FirmwareHere, FirmwareGetByIndex as ByIndexHere, FirmwareDelete as DeleteHere, FirmwareDeleteAll as DeleteImagesHere}
use Rattle.mu_distributor_answers.specs.Messages.{dist_request_of}
use Rattle.mu_distributor_memory.specs.Shows.{rows_in, SameHead, IsHeadOf}
use Rattle.mu_distributor_memory.specs.declared.memory.Memory.{Memory}
use Rattle.mu_distributor_server.specs.declared.distributor.Distributor.{Distributor}
use Rattle.mu_distributor_server.specs.Events.{ServerWorks, Works, FaultBy, SameBesideNote}
use Rattle.mu_distributor_server.specs.Requests.{is_asking, is_done_here, asked_status, Changed, StandsBy}
use Rattle.mu_distributor_server.specs.Shows.{IsServing, Shows, Holds, Carries}
use Rattle.mu_distributor_server.specs.Ways.{StateOf, reading_of}
use Rattle.mu_distributor_server.specs.Views.{server_in, memory_in, moment_of}
use Rattle.mu_distributor_server.proofs.Works.{ran_as}

-- ---- in memory

pub rows_alone : (s : DistState) (rows : List ReceiverRow) → SameBesideNote s (with_rows s rows)
rows_alone s rows = record { count = refl; capacity = refl; images = refl; job = refl; fresh = refl }

pub all_alone : (s : DistState) → SameBesideNote s s
all_alone s = record { count = refl; capacity = refl; images = refl; job = refl; fresh = refl }

head_same : (old new : Memory) (s : DistState) → SameHead old new → IsHeadOf old s → IsHeadOf new s
head_same old new s same is = record {
  phase = is.phase ∙ ap (λ h. h.phase) (sym same.head);
  counter = is.counter ∙ ap (λ h. h.counter) (sym same.head);
  settings = is.settings ∙ ap (λ h. h.settings) (sym same.head);
  images = rw same.head (rw same.metas is.images);
  recorded = is.recorded ∙ ap (λ h. h.upload) (sym same.head);
  lags_is = is.lags_is ∙ sym same.lags;
  upload_ttl = is.upload_ttl ∙ ap (λ h. h.upload_ttl) (sym same.head);
  upload_meta = is.upload_meta ∙ ap (λ h. h.upload_meta) (sym same.head);
}

head_rows : (m : Memory) (s : DistState) (rows : List ReceiverRow) → IsHeadOf m s → IsHeadOf m (with_rows s rows)
head_rows m s rows is = record {
  phase = is.phase;
  counter = is.counter;
  settings = is.settings;
  images = is.images;
  recorded = is.recorded;
  lags_is = is.lags_is;
  upload_ttl = is.upload_ttl;
  upload_meta = is.upload_meta;
}

module _ {F : Type 0} {g : _} (old new : Distributor F g) (server : server_in new ≡ server_in old) (moment : moment_of new ≡ moment_of old) (same : SameHead (memory_in old) (memory_in new)) where
  serving : (s : DistState) (rows : List ReceiverRow) → IsServing (server_in old) s → IsServing (server_in new) (with_rows s rows)
  serving s rows is =
      subst (λ (b : BlobServer F g). IsServing b (with_rows s rows)) (sym server)
      (record { count = is.count; capacity = is.capacity; job = is.job; blocks = is.blocks; session = is.session })

  pub stands_by : (s : DistState) (changed : Result Bool ℕ) → Shows old s → IsDueOf changed s (with_rows s (rows_in (memory_in new))) → OnErr changed (rows_in (memory_in new) ≡ rows_in (memory_in old))
      → StandsBy new s (rows_in (memory_in new)) changed
  stands_by s (Ok due) h is refused = (
    record {
      memory = record {
        head = head_rows (memory_in new) s (rows_in (memory_in new)) (head_same (memory_in old) (memory_in new) s same h.memory.head);
        rows = record { receivers = refl; progress = refl };
      };
      server = serving s (rows_in (memory_in new)) h.server;
      moment = h.moment ∙ sym moment;
    },
    is,
  )
  stands_by s (Err status) h is refused = record {
    memory = record {
      head = head_same (memory_in old) (memory_in new) s same h.memory.head;
      rows = subst (λ (l : List ReceiverRow). AreRowsOf l s) (sym refused) h.memory.rows;
    };
    server = subst (λ (b : BlobServer F g). IsServing b s) (sym server) h.server;
    moment = h.moment ∙ sym moment;
  }

-- ---- what is answered

pub idle_work : {F : Type 0} {g : _} (seen : F → Seen) (server : BlobServer F g) (s : DistState) (from : Carries seen server s) → RunLaws StateOf reading_of seen → StoresAreReadAsDistributors
    → Ran (either RepresentsStore) from.store [] (place_seen seen (place_of server)) (place_seen seen (place_of server)) → {T : Type 0} (t : T) → ServerWorks seen s s Untouched server server (Ok t)
idle_work seen server s from runs refines idle t = (ran_as seen runs refines (place_of server) (place_of server) from.store [] s.durable [] from.represents tt idle, from)

pub fault_ok : {F T U : Type 0} {g : _} (work : FlashWork) (old : Place F g) (t : T) (u : U) → FaultBy work old (Ok t) → FaultBy work old (Ok u)
fault_ok Untouched old t u h = refl
fault_ok (Recorded long) old t u h = h
fault_ok (Begun long) old t u h = h
fault_ok (PutBlock pages) old t u h = tt

pub fault_err : {F : Type 0} {g : _} (T U : Type 0) (work : FlashWork) (old : Place F g) (why : StoreFault) → FaultBy {T = T} work old (Err why) → FaultBy {T = U} work old (Err why)
fault_err T U Untouched old why h = absurd (cc h)
fault_err T U (Recorded long) old why h = h
fault_err T U (Begun long) old why h = h
fault_err T U (PutBlock pages) old why h = h

module _ {F T : Type 0} {g : _} (to : ℕ) (o p : Outcome) (same : p ≡ o) (new : Distributor F g) (result : Result T StoreFault) where
  pub did_by : (show other : T → DistState → DistReply) → other ≡ show → IfOk result (λ t. Changed o to (show t) new) → IfOk result (λ t. Changed p to (other t) new)
  did_by show other e h = rw same (rw e h)

pub works_by : {F T : Type 0} {g : _} (seen : F → Seen) (s : DistState) (old new : BlobServer F g) (result : Result T StoreFault) (o p : Outcome) → p ≡ o
    → (IsDistDurable o.next.durable → ServerWorks seen s o.next o.work old new result) → IsDistDurable p.next.durable → ServerWorks seen s p.next p.work old new result
works_by seen s old new result o p same h = subst (λ (x : Outcome). IsDistDurable x.next.durable → ServerWorks seen s x.next x.work old new result) (sym same) h

-- one that only asks
pub asks : (r : DistRequestHere) → is_done_here (dist_request_of r) ≡ true → ((entries : _) → r ≡ AddHere entries → ⊥) → (r ≡ DeleteAllHere → ⊥) → is_asking (dist_request_of r) ≡ true
asks (AddHere entries) here not_add not_all = absurd (not_add entries refl)
asks DeleteAllHere here not_add not_all = absurd (not_all refl)
asks (GetHere first limit) here not_add not_all = refl
asks CapabilitiesHere here not_add not_all = refl
asks DistributionHere here not_add not_all = refl
asks (StartHere settings) here not_add not_all = here
asks SuspendHere here not_add not_all = here
asks CancelHere here not_add not_all = here
asks ApplyHere here not_add not_all = here
asks UploadHere here not_add not_all = refl
asks (StartUploadHere u) here not_add not_all = here
asks OobHere here not_add not_all = refl
asks UploadCancelHere here not_add not_all = here
asks (FirmwareHere fwid) here not_add not_all = refl
asks (ByIndexHere index) here not_add not_all = refl
asks (DeleteHere fwid) here not_add not_all = here
asks DeleteImagesHere here not_add not_all = here

pub asked_so : (address : ℕ) (s : DistState) (to : ℕ) (r : DistRequest) → is_asking r ≡ true → on_request address s to r ≡ tells s to (shown_to r (asked_status r) s)
asked_so address s to (ReceiversAdd entries) e = absurd (cc e)
asked_so address s to ReceiversDeleteAll e = absurd (cc e)
asked_so address s to (ReceiversGet first limit) e = refl
asked_so address s to CapabilitiesGet e = refl
asked_so address s to DistributionGet e = refl
asked_so address s to (DistributionStart settings) e = absurd (cc e)
asked_so address s to DistributionSuspend e = absurd (cc e)
asked_so address s to DistributionCancel e = absurd (cc e)
asked_so address s to DistributionApply e = absurd (cc e)
asked_so address s to UploadGet e = refl
asked_so address s to (StartUpload u) e = absurd (cc e)
asked_so address s to StartUploadOob e = refl
asked_so address s to UploadCancel e = absurd (cc e)
asked_so address s to (FirmwareGet fwid) e = refl
asked_so address s to (FirmwareGetByIndex index) e = refl
asked_so address s to (FirmwareDelete fwid) e = absurd (cc e)
asked_so address s to FirmwareDeleteAll e = absurd (cc e)

-- ---- once the moment was handed in

pub handed : {F : Type 0} {g : _} (seen : F → Seen) (old new : Distributor F g) (s : DistState) (now : ℕ) → server_in new ≡ server_in old → Shows new (at_moment s now) → Carries seen (server_in old) s
    → Holds seen new (at_moment s now)
handed seen old new s now server shows from = record {
  shows = shows;
  carries =
      subst (λ (b : BlobServer _ _). Carries seen b (at_moment s now)) (sym server) (record { fresh = from.fresh; store = from.store; holds = from.holds; represents = from.represents });
}

module _ {F : Type 0} {g : _} (seen : F → Seen) (old between new : Distributor F g) (s : DistState) (o : Outcome) (same : server_in between ≡ server_in old) where
  pub worked : {T : Type 0} (t : T) → Shows new o.next → ServerWorks seen s o.next o.work (server_in between) (server_in new) (Ok t) → Works {T = Unit {0}} seen s o old new (Ok tt)
  worked t shows w = (subst (λ (b : BlobServer _ _). Ran (either RepresentsDistributor) s.durable (work_by s.fresh s.durable o.next.durable o.work) (place_seen seen (place_of b)) (place_seen seen (place_of (server_in new)))) same w.0, record { shows = shows; carries = w.1 })

  pub broken : (T : Type 0) (why : StoreFault) → ServerWorks {T = T} seen s o.next o.work (server_in between) (server_in new) (Err why) → Works {T = Unit {0}} seen s o old new (Err why)
  broken T why w = λ flash. subst (λ (b : BlobServer _ _). Broke (either RepresentsDistributor) s.durable (work_by s.fresh s.durable o.next.durable o.work) (place_seen seen (place_of b)) (place_seen seen (place_of (server_in new)))) same (w flash)
