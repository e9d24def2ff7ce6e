-- The function of a store's state beside the relation.
use Rattle.std.proofs.Common.{◌≡◌, ◌∙◌, ◌<◌, ◌≤◌, ℕ, ◌+◌, ◌*◌, List, [], ◌∷◌, length, map, get_or, Option, Some, None, refl, sym, ap, subst, arith}
use Rattle.std.specs.Prelude.{slice_get, slice_index}
use Rattle.std.specs.List.{AllZip, range_with_len}
use Rattle.std.proofs.lemmas.List.{ext_get_or}
use Rattle.std.proofs.lemmas.List.FromFn.{get_or-map-range_with_len, length-map-range_with_len}
use Rattle.std.proofs.lemmas.Option.{slice_get-get_or}
use Rattle.mu_model_image.specs.Meta.{meta_of}
use Rattle.mu_model_flash.specs.Bits.{part_of}
use Rattle.mu_model_record.specs.Store.{StoreState}
use Rattle.mu_model_distributor.specs.declared.DistPhase.{DistPhase}
use Rattle.mu_model_distributor.specs.declared.DistPhase.TheVariants.{Idle, TransferActive, TransferSuccess, ApplyingUpdate, Completed, Failed, CancelingUpdate, TransferSuspended}
use Rattle.mu_model_distributor.specs.DistState.{StoredImage, Receiver, DistDurable, dist_number}
use Rattle.mu_model_represents.specs.BlobPart.{BlobJob, blob_part, note_part}
use Rattle.mu_model_represents.specs.Images.{HasImage}
use Rattle.mu_model_represents_distributor.specs.DistributorNote.{UploadPhase, UploadIdle, UploadActive, UploadError, UploadSuccess, upload_phase_number, DistributorNote, SpellsReceiver, IsRow, SpellsDistributor}
use Rattle.mu_model_represents_distributor.specs.RepresentsDistributor.{HasStored, upload_job_in, upload_by, IsDistributorOf, IsDistributor}
use Rattle.mu_model_jobs.specs.Parts.{part_in, PartIsRead}
use Rattle.mu_model_stored_distributor.specs.DistributorIn.{phase_in, upload_in, settings_in, receiver_in, row_in, bank_in, note_in, meta_in, octets_in, image_in, stored_in, note_of_store, distributor_by, distributor_in}

-- ---- the note

phase_read : (p : DistPhase) → phase_in (dist_number p) ≡ p
phase_read Idle = refl
phase_read TransferActive = refl
phase_read TransferSuccess = refl
phase_read ApplyingUpdate = refl
phase_read Completed = refl
phase_read Failed = refl
phase_read CancelingUpdate = refl
phase_read TransferSuspended = refl

upload_read : (u : UploadPhase) → upload_in (upload_phase_number u) ≡ u
upload_read UploadIdle = refl
upload_read UploadActive = refl
upload_read UploadError = refl
upload_read UploadSuccess = refl

banks_read : (n : DistributorNote) (octets : List ℕ) → SpellsDistributor n octets → map (bank_in octets) (range_with_len 0 (slice_index octets 3)) ≡ n.banks
banks_read n octets s =
    let count : ℕ = slice_index octets 3 in
    let long = length-map-range_with_len (bank_in octets) 0 count in
    ext_get_or 0 _ _ (long ∙ s.images_at_3) (λ k lt.
    let within : k < slice_index octets 3 = omega (arith, long) in
    get_or-map-range_with_len (bank_in octets) 0 (slice_index octets 3) k k 0 within (omega arith) ∙ s.banks_at_4 k (omega (arith, s.images_at_3, s.few_images)))

receiver_read : (r : Receiver) (octets : List ℕ) → SpellsReceiver r octets → receiver_in octets ≡ r
receiver_read r octets s = λ i. record {
  address = s.address_at_0 i;
  index = s.index_at_2 i;
  phase = s.phase_at_3 i;
  update_status = s.update_status_at_4 i;
  transfer_status = s.transfer_status_at_5 i;
}

row_read : (n : DistributorNote) (octets : List ℕ) (k : ℕ) (d : Receiver) → SpellsDistributor n octets → k < length n.receivers → row_in octets k ≡ get_or n.receivers k d
row_read n octets k d s lt =
    let row : IsRow (Some (get_or n.receivers k d)) (part_of octets (128 + 6 * k) 6) =
    subst (λ (r : Option Receiver). IsRow r (part_of octets (128 + 6 * k) 6)) (slice_get-get_or n.receivers k d lt) (s.rows_at_128 k (omega (arith, s.few_receivers))) in
    receiver_read (get_or n.receivers k d) (part_of octets (128 + 6 * k) 6) row

rows_read : (n : DistributorNote) (octets : List ℕ) → SpellsDistributor n octets → map (row_in octets) (range_with_len 0 (slice_index octets 26)) ≡ n.receivers
rows_read n octets s =
    let none : Receiver = record { address = 0; index = 0; phase = 0; update_status = 0; transfer_status = 0 } in
    let long = length-map-range_with_len (row_in octets) 0 (slice_index octets 26) in
    ext_get_or none _ _ (long ∙ s.receivers_at_26) (λ k lt.
    let within : k < slice_index octets 26 = omega (arith, long) in
    get_or-map-range_with_len (row_in octets) 0 (slice_index octets 26) k k none within (omega arith) ∙ row_read n octets k none s (omega (arith, s.receivers_at_26)))

pub note_read : (n : DistributorNote) (octets : List ℕ) → SpellsDistributor n octets → note_in octets ≡ n
note_read n octets s =
    let t = s.settings_at_16 in
    λ i. record {
      phase = (ap phase_in s.phase_at_1 ∙ phase_read n.phase) i;
      upload = (ap upload_in s.upload_at_2 ∙ upload_read n.upload) i;
      banks = banks_read n octets s i;
      counter = s.counter_at_8 i;
      settings = record {
        appkey = t.appkey_at_24 i;
        ttl = t.ttl_at_16 i;
        base = t.base_at_17 i;
        mode = t.mode_at_19 i;
        policy = t.policy_at_19 i;
        image = t.image_at_20 i;
        group = t.group_at_22 i;
      };
      receivers = rows_read n octets s i;
      upload_ttl = s.upload_ttl_at_27 i;
      upload_meta = s.upload_metadata_at_28 i;
    }

-- ---- the distributor

images_read : (s : StoreState) (banks : List ℕ) (images : List StoredImage) → AllZip (HasStored s) banks images → map (stored_in s) banks ≡ images
images_read s [] [] h = refl
images_read s [] (x ∷ images) h = absurd h
images_read s (b ∷ banks) [] h = absurd h
images_read s (b ∷ banks) (x ∷ images) h =
    λ i. (record { bank = sym h.0.there i; image = record { octets = octets_in (h.0.image.content i); meta = meta_in (h.0.image.entry i) } }) ∷ images_read s banks images h.1 i

read_of : PartIsRead → (s : StoreState) (part : Option BlobJob) (n : DistributorNote) (d : DistDurable) → IsDistributorOf s part n d → distributor_in s ≡ d
read_of law s part n d is =
    let same : note_of_store s ≡ n = note_read n (note_part s.present.tag) is.is_record.note_octets in
    let job : part_in (blob_part s.present.tag) ≡ part = law part (blob_part s.present.tag) is.is_record.blob.octets in
    ap (distributor_by s) same ∙ (λ i. record {
      count = sym is.count i;
      capacity = sym is.capacity i;
      images = images_read s n.banks d.images is.images i;
      phase = sym is.phase i;
      counter = sym is.counter i;
      settings = sym is.settings i;
      receivers = sym is.receivers i;
      upload_ttl = sym is.upload_ttl i;
      upload_meta = sym is.upload_meta i;
      upload = (ap (λ (p : Option BlobJob). upload_by n.upload (upload_job_in s p)) job ∙ sym is.upload) i;
    })

pub distributor_read : PartIsRead → (s : StoreState) (d : DistDurable) → IsDistributor s d → distributor_in s ≡ d
distributor_read law s d is = read_of law s is.0 is.1 d is.2
