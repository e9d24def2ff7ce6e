-- A row that makes no flash call.
use Rattle.std.proofs.Common.{◌≡◌, ◌∙◌, ℕ, List, [], None, refl, sym, ap, subst, ◌≤◌, arith}
use Rattle.std.specs.Prelude.{Ok, Err}
use Rattle.mu_model_flash.specs.Flash.{Seen}
use Rattle.mu_model_flash.specs.Run.{either, Ran}
use Rattle.mu_model_record.specs.Store.{StoreState}
use Rattle.mu_model_record.specs.Represents.{RepresentsStore}
use Rattle.mu_model_wire.specs.Packet.{Packet}
use Rattle.mu_model_node.specs.Slots.{Slots}
use Rattle.mu_model_node.specs.BlobMessages.{BlobReply}
use Rattle.mu_model_node.specs.BlobServer.{Serving, NoJob, Lacking, Whole, Change, Same, Begins, Drops, Puts, serving_after}
use Rattle.mu_model_node.specs.BlobTable.{Served}
use Rattle.mu_blob_rows.specs.Looks.{serving_with}
use Rattle.mu_store.specs.declared.faults.StoreFault.{StoreFault}
use Rattle.mu_place.specs.declared.place.Place.{Place}
use Rattle.mu_place.specs.Place.{place_seen, place_fault, PlaceHolds}
use Rattle.mu_place.specs.Calls.{Answers, HasRisen, PlaceGoes}
use Rattle.mu_kept.specs.declared.store.JobStore.{JobStore}
use Rattle.mu_kept.specs.Views.{place_in, serving_in}
use Rattle.mu_kept.specs.Shows.{Shows, IsChanged}
use Rattle.mu_blobsrv.specs.declared.server.BlobServer.{BlobServer}
use Rattle.mu_blobsrv.specs.Replies.{packets_of}
use Rattle.mu_blobsrv.specs.Views.{store_of}
use Rattle.mu_blobsrv.specs.Changes.{IsChangedTo}
use Rattle.mu_blobsrv.specs.Rows.{IsRow, IsServed, quietly}
use Rattle.mu_blobsrv.specs.Runs.{change_steps, FaultBy, Stays}

same_after : (v : Serving) → serving_after Same v ≡ v
same_after NoJob = refl
same_after (Lacking t) = refl
same_after (Whole t) = refl

pub is_same : {F : Type 0} {g : _} (old new : JobStore F g) (held : Slots) → new ≡ old → Shows old held → IsChanged old new Same held
is_same old new held e shows =
    subst (λ (x : JobStore _ _). IsChanged old x Same held) (sym e) (record { shows = shows; serving = sym (same_after (serving_with (serving_in old) held)); capacity = refl })

same_to : {F : Type 0} {g : _} (old new : JobStore F g) → new ≡ old → IsChangedTo old new Same
same_to old new e = subst (λ (x : JobStore _ _). IsChangedTo old x Same) (sym e) (record { fields = refl; fresh = refl; filling = refl; job = refl; flags = refl })

pub quiet_row : {F : Type 0} {g : _} (old : JobStore F g) (new : BlobServer F g) (held : Slots) (o : Served) (replies : List (ℕ × BlobReply)) → store_of new ≡ old → Shows old held → o ≡ quietly new replies → IsRow old held o new replies
quiet_row old new held o replies e shows row =
    subst (λ (x : Served). IsRow old held x new replies) (sym row) (record { session = refl; changed = is_same old (store_of new) held e shows; stands = same_to old (store_of new) e; replies_are = refl })

pub quiet_answers : {F T : Type 0} {g : _} (old new : JobStore F g) (r : T) → new ≡ old → place_fault (place_in old) ≡ None → Answers (place_in new) (Ok r)
quiet_answers old new r e none = subst (λ (x : JobStore _ _). place_fault (place_in x) ≡ None) (sym e) none

pub quiet_faults : {F T : Type 0} {g : _} (old : JobStore F g) (new : BlobServer F g) (o : Served) (replies : List (ℕ × BlobReply)) (r : T) → o ≡ quietly new replies → FaultBy o.change (place_in old) (Ok r)
quiet_faults old new o replies r row = subst (λ (x : Served). FaultBy x.change (place_in old) (Ok r)) (sym row) refl

pub quiet_cause : {F T : Type 0} {g : _} (seen : F → Seen) (old new : JobStore F g) (r : T) → new ≡ old → HasRisen seen (place_in old) (place_in new) (Ok r)
quiet_cause seen old new r e = subst (λ (x : JobStore _ _). (place_seen seen (place_in old)).faults ≤ (place_seen seen (place_in x)).faults) (sym e) (omega arith)

pub quiet_runs : {F T : Type 0} {g : _} (seen : F → Seen) (old : JobStore F g) (new : BlobServer F g) (s : StoreState) (o : Served) (replies : List (ℕ × BlobReply)) (r : T) → store_of new ≡ old → o ≡ quietly new replies
    → Ran (either RepresentsStore) s [] (place_seen seen (place_in old)) (place_seen seen (place_in old)) → PlaceHolds seen (place_in old) s
    → PlaceGoes seen s (change_steps old s o.change) (place_in old) (place_in (store_of new)) (Ok r)
quiet_runs seen old new s o replies r e row idle holds =
    subst (λ (x : Served). PlaceGoes seen s (change_steps old s x.change) (place_in old) (place_in (store_of new)) (Ok r)) (sym row)
    (subst (λ (x : JobStore _ _). PlaceGoes seen s [] (place_in old) (place_in x) (Ok r)) (sym e) (idle, holds))

pub same_runs : {F T : Type 0} {g : _} (seen : F → Seen) (old new : JobStore F g) (s : StoreState) (change : Change) (r : T) → new ≡ old → change ≡ Same
    → Ran (either RepresentsStore) s [] (place_seen seen (place_in old)) (place_seen seen (place_in old)) → PlaceHolds seen (place_in old) s
    → PlaceGoes seen s (change_steps old s change) (place_in old) (place_in new) (Ok r)
same_runs seen old new s change r e same idle holds =
    subst (λ (x : Change). PlaceGoes seen s (change_steps old s x) (place_in old) (place_in new) (Ok r)) (sym same)
    (subst (λ (x : JobStore _ _). PlaceGoes seen s [] (place_in old) (place_in x) (Ok r)) (sym e) (idle, holds))

pub quiet_stays : {F : Type 0} {g : _} (old new : JobStore F g) → new ≡ old → Stays old new
quiet_stays old new e = subst (λ (x : JobStore _ _). Stays old x) (sym e) (record { note = refl; expects = refl })

-- the replies as packets
pub is_served : {F : Type 0} {g : _} (from : ℕ) (old : JobStore F g) (held : Slots) (o : Served) (new : BlobServer F g) (replies : List (ℕ × BlobReply)) (packets : List Packet) → IsRow old held o new replies
    → packets ≡ packets_of from replies → IsServed from old held o new packets
is_served from old held o new replies packets row e =
    record { session = row.session; changed = row.changed; stands = row.stands; packets_are = e ∙ ap (packets_of from) row.replies_are }

-- the fault, whatever is answered beside it
pub faults_ok : {F T U : Type 0} {g : _} (change : Change) (old : Place F g) (a : T) (b : U) → FaultBy change old (Ok a) → FaultBy change old (Ok b)
faults_ok Same old a b h = refl
faults_ok (Begins p) old a b h = h
faults_ok Drops old a b h = h
faults_ok (Puts i octets) old a b h = h

pub faults_err : {F : Type 0} {g : _} (T U : Type 0) (change : Change) (old : Place F g) (why : StoreFault) → FaultBy {T = T} change old (Err why) → FaultBy {T = U} change old (Err why)
faults_err T U Same old why h = h
faults_err T U (Begins p) old why h = h
faults_err T U Drops old why h = h
faults_err T U (Puts i octets) old why h = h
