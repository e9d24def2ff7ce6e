-- A record that leaves the banks and the job as they are.
use Rattle.std.proofs.Common.{◌≡◌, ◌∙◌, ℕ, ◌+◌, ◌++◌, Bool, true, false, Option, None, List, refl, sym, ap, subst}
use Rattle.std.specs.Prelude.{IfOk, Result}
use Rattle.mu_model_flash.specs.Flash.{Seen}
use Rattle.mu_model_record.specs.declared.Record.{Record}
use Rattle.mu_model_record.specs.Record.{IsRecord}
use Rattle.mu_model_record.specs.Changes.{tagged}
use Rattle.mu_model_record.specs.ChangeLaws.{IsNotLast}
use Rattle.mu_model_record.specs.Next.{record_steps}
use Rattle.mu_model_record.specs.Next.{fresh_after as slots_after}
use Rattle.mu_model_node.specs.declared.FlashWork.TheVariants.{Recorded}
use Rattle.mu_model_node.specs.FlashWork.{fresh_after}
use Rattle.mu_model_distributor.specs.Commit.{is_long, recorded}
use Rattle.mu_model_distributor.specs.DistState.{Upload, NoUpload, Uploading, Broken, Uploaded, DistDurable, DistState, job_of, run_by}
use Rattle.mu_model_distributor.specs.Sound.{IsDistDurable}
use Rattle.mu_model_jobs.specs.States.{TaggedIsAState}
use Rattle.mu_model_represents.specs.BlobPart.{BlobJob as PartJob, blob_octets}
use Rattle.mu_model_represents_distributor.specs.DistributorNote.{distributor_octets}
use Rattle.mu_model_represents_distributor.specs.Numbers.{HasUploadMtu, HasDistributorNumbers}
use Rattle.mu_model_represents_distributor.specs.RepresentsDistributor.{part_of_upload, note_of_distributor, distributor_tag}
use Rattle.mu_model_stored_distributor.specs.Kept.{UploadStays}
use Rattle.mu_store.specs.declared.faults.StoreFault.{StoreFault}
use Rattle.mu_place.specs.Place.{place_fault, place_record, place_fresh}
use Rattle.mu_place.specs.Calls.{WornAtLast, PlaceGoes}
use Rattle.mu_kept.specs.Tags.{tag_with}
use Rattle.mu_kept.specs.Views.{job_in, part_in}
use Rattle.mu_blobsrv.specs.declared.server.BlobServer.{BlobServer}
use Rattle.mu_blobsrv.specs.Views.{store_of, place_of}
use Rattle.mu_distributor_server.specs.Events.{ServerWorks, SameBesideNote}
use Rattle.mu_distributor_server.specs.Shows.{Carries}
use Rattle.mu_distributor_server.proofs.Works.{held_present, unworn, not_last, RecordLaws, IsWritten, record_works, state_kept, keeps_kept, numbers_kept, numbers_next, written_next, is_tag}

-- the job of the run is that of the record
pub job_run : (lags : Bool) (upload : Upload) → job_of (run_by lags upload) ≡ job_of upload
job_run true NoUpload = refl
job_run true (Uploading j) = refl
job_run true (Broken job) = refl
job_run true Uploaded = refl
job_run false upload = refl

-- the tag that is written is the distributor's
pub tag_of : (part : Option PartJob) (note : List ℕ) (e : DistDurable) → part_of_upload (job_of e.upload) ≡ part → note ≡ distributor_octets (note_of_distributor e)
    → blob_octets part ++ note ≡ distributor_tag e
tag_of part note e same is = ap (λ (p : Option PartJob). blob_octets p ++ note) (sym same) ∙ ap (λ (n : List ℕ). blob_octets (part_of_upload (job_of e.upload)) ++ n) is

module _ {F : Type 0} {g : _} (seen : F → Seen) (laws : RecordLaws seen) (old new : BlobServer F g) (s t : DistState) (from : Carries seen old s) (note : List ℕ) (same : SameBesideNote s t)
    (part : part_of_upload (job_of t.durable.upload) ≡ part_in (store_of old)) (is : note ≡ distributor_octets (note_of_distributor (recorded t).durable)) (sound : IsDistDurable (recorded t).durable) where
  abbrev next_tag : List ℕ
  next_tag = tag_with (job_in (store_of old)) note

  tag_is : next_tag ≡ distributor_tag (recorded t).durable
  tag_is = tag_of (part_in (store_of old)) note (recorded t).durable (ap part_of_upload (job_run t.lags t.durable.upload) ∙ part) is

  numbers : IsNotLast (place_record (place_of old)) → HasDistributorNumbers (recorded t).durable
  numbers last =
      numbers_next seen laws (place_record (place_of old)) s.durable (recorded t).durable last
      ((keeps_kept seen laws old s from).count ∙ ap (λ (r : Record). r.count) (held_present seen (place_of old) from.store from.holds)) (ap (λ (n : ℕ). n + 1) same.count)
      (subst HasUploadMtu (sym (job_run t.lags t.durable.upload ∙ same.job)) (numbers_kept seen laws old s from).mtu)

  written : TaggedIsAState → UploadStays → IsNotLast (place_record (place_of old)) → IsWritten (tagged from.store next_tag) (recorded t).durable
  written state stays last =
      let is_state = state from.store next_tag (state_kept seen laws old s from) (subst IsNotLast (sym (held_present seen (place_of old) from.store from.holds)) last)
      (is_tag seen laws next_tag (recorded t).durable tag_is sound (numbers last)) in
      written_next seen laws (tagged from.store next_tag) (recorded t).durable is_state
      (stays from.store next_tag s.durable (recorded t).durable (keeps_kept seen laws old s from) is_state.in_range
      (record { count = ap (λ (n : ℕ). n + 1) same.count; capacity = same.capacity; stored = same.images; upload = job_run t.lags t.durable.upload ∙ same.job }))
      sound (numbers last) tag_is

  pub commit_works : {T : Type 0} → TaggedIsAState → UploadStays → (result : Result T StoreFault) → place_fault (place_of old) ≡ None → IsRecord (place_record (place_of old)) → WornAtLast (place_of old) result
      → IfOk result (λ _. place_fresh (place_of new) ≡ slots_after (place_fresh (place_of old)) (place_record (place_of new)))
      → PlaceGoes seen from.store (record_steps (place_fresh (place_of old)) from.store (tagged from.store next_tag)) (place_of old) (place_of new) result
      → ServerWorks seen s (recorded t) (Recorded (is_long t.durable)) old new result
  commit_works state stays result none in_range worn slots goes =
      record_works seen laws old new s (recorded t) from (tagged from.store next_tag) (ap (fresh_after (is_long t.durable)) same.fresh) result
      (unworn result (not_last (place_of old) result none in_range worn) (written state stays)) slots goes
