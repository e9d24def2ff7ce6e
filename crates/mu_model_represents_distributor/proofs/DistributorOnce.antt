-- A store is one distributor at most.
use Rattle.std.proofs.Common.{◌≡◌, ℕ, ◌+◌, ◌*◌, ◌<◌, Option, List, [], ◌∷◌, length, refl, sym, ◌∙◌, ap, subst, arith}
use Rattle.std.specs.Prelude.{suc, slice_get, slice_index_or}
use Rattle.std.specs.List.{AllZip}
use Rattle.std.proofs.lemmas.List.{ext_get_or}
use Rattle.mu_model_flash.specs.Bits.{part_of}
use Rattle.mu_model_record.specs.Store.{StoreState}
use Rattle.mu_model_distributor.specs.declared.Settings.{Settings}
use Rattle.mu_model_distributor.specs.declared.DistPhase.{DistPhase}
use Rattle.mu_model_distributor.specs.declared.DistPhase.TheVariants.{Idle, TransferActive, TransferSuccess, ApplyingUpdate, Completed, Failed, CancelingUpdate, TransferSuspended}
use Rattle.mu_model_distributor.specs.DistState.{Receiver, StoredImage, DistDurable, dist_number}
use Rattle.mu_model_represents.specs.BlobPart.{BlobJob, note_part}
use Rattle.mu_model_represents.specs.Images.{BankIsOneImage}
use Rattle.mu_model_represents.specs.Laws.{BlobPartIsOne}
use Rattle.mu_model_represents_distributor.specs.DistributorNote.{UploadPhase, UploadIdle, UploadActive, UploadError, UploadSuccess, upload_phase_number, DistributorNote, SpellsSettings, SpellsReceiver, IsRow, SpellsDistributor}
use Rattle.mu_model_represents_distributor.specs.RepresentsDistributor.{HasStored, upload_job_in, upload_by, IsDistributorOf, IsDistributor}

-- ---- phases, by a way back from their numbers

phase_at : ℕ → DistPhase
phase_at n = slice_index_or (Idle ∷ TransferActive ∷ TransferSuccess ∷ ApplyingUpdate ∷ Completed ∷ Failed ∷ CancelingUpdate ∷ TransferSuspended ∷ []) n Idle

phase_back : (p : DistPhase) → phase_at (dist_number p) ≡ p
unfolding phase_at
phase_back Idle = refl
phase_back TransferActive = refl
phase_back TransferSuccess = refl
phase_back ApplyingUpdate = refl
phase_back Completed = refl
phase_back Failed = refl
phase_back CancelingUpdate = refl
phase_back TransferSuspended = refl

upload_at : ℕ → UploadPhase
upload_at n = slice_index_or (UploadIdle ∷ UploadActive ∷ UploadError ∷ UploadSuccess ∷ []) n UploadIdle

upload_back : (p : UploadPhase) → upload_at (upload_phase_number p) ≡ p
unfolding upload_at
upload_back UploadIdle = refl
upload_back UploadActive = refl
upload_back UploadError = refl
upload_back UploadSuccess = refl

-- ---- receivers

receiver_once : (a b : Receiver) (octets : List ℕ) → SpellsReceiver a octets → SpellsReceiver b octets → a ≡ b
receiver_once a b octets h g =
    let address : a.address ≡ b.address = sym h.address_at_0 ∙ g.address_at_0 in
    let index : a.index ≡ b.index = sym h.index_at_2 ∙ g.index_at_2 in
    let phase : a.phase ≡ b.phase = sym h.phase_at_3 ∙ g.phase_at_3 in
    let update : a.update_status ≡ b.update_status = sym h.update_status_at_4 ∙ g.update_status_at_4 in
    let transfer : a.transfer_status ≡ b.transfer_status = sym h.transfer_status_at_5 ∙ g.transfer_status_at_5 in
    λ i. record { address = address i; index = index i; phase = phase i; update_status = update i; transfer_status = transfer i }

-- rows in the same octets, wherever these are
rows_once : (xs ys : List Receiver) (row : ℕ → List ℕ) → length xs ≡ length ys → ((k : ℕ) → k < length xs → IsRow (slice_get xs k) (row k))
    → ((k : ℕ) → k < length ys → IsRow (slice_get ys k) (row k)) → xs ≡ ys
rows_once [] [] row same h g = refl
rows_once [] (y ∷ ys) row same h g = absurd (omega arith)
rows_once (x ∷ xs) [] row same h g = absurd (omega arith)
rows_once (x ∷ xs) (y ∷ ys) row same h g =
    let e : x ≡ y = receiver_once x y (row 0) (h 0 (omega arith)) (g 0 (omega arith)) in
    let es : xs ≡ ys = rows_once xs ys (λ k. row (suc k)) (omega arith) (λ k lt. h (suc k) (omega arith)) (λ k lt. g (suc k) (omega arith)) in
    λ i. e i ∷ es i

-- ---- the note

settings_once : (a b : Settings) (octets : List ℕ) → SpellsSettings a octets → SpellsSettings b octets → a ≡ b
settings_once a b octets h g =
    let ttl : a.ttl ≡ b.ttl = sym h.ttl_at_16 ∙ g.ttl_at_16 in
    let base : a.base ≡ b.base = sym h.base_at_17 ∙ g.base_at_17 in
    let mode : a.mode ≡ b.mode = sym h.mode_at_19 ∙ g.mode_at_19 in
    let policy : a.policy ≡ b.policy = sym h.policy_at_19 ∙ g.policy_at_19 in
    let image : a.image ≡ b.image = sym h.image_at_20 ∙ g.image_at_20 in
    let group : a.group ≡ b.group = sym h.group_at_22 ∙ g.group_at_22 in
    let appkey : a.appkey ≡ b.appkey = sym h.appkey_at_24 ∙ g.appkey_at_24 in
    λ i. record { appkey = appkey i; ttl = ttl i; base = base i; mode = mode i; policy = policy i; image = image i; group = group i }

pub distributor_note_once : (a b : DistributorNote) (octets : List ℕ) → SpellsDistributor a octets → SpellsDistributor b octets → a ≡ b
distributor_note_once a b octets h g =
    let phase : a.phase ≡ b.phase = sym (phase_back a.phase) ∙ ap phase_at (sym h.phase_at_1 ∙ g.phase_at_1) ∙ phase_back b.phase in
    let upload : a.upload ≡ b.upload = sym (upload_back a.upload) ∙ ap upload_at (sym h.upload_at_2 ∙ g.upload_at_2) ∙ upload_back b.upload in
    let banks : a.banks ≡ b.banks = ext_get_or 0 a.banks b.banks (sym h.images_at_3 ∙ g.images_at_3) (λ k lt.
    let low : k < 4 = omega (arith, lt, h.few_images) in sym (h.banks_at_4 k low) ∙ g.banks_at_4 k low) in
    let counter : a.counter ≡ b.counter = sym h.counter_at_8 ∙ g.counter_at_8 in
    let settings : a.settings ≡ b.settings = settings_once a.settings b.settings octets h.settings_at_16 g.settings_at_16 in
    let receivers : a.receivers ≡ b.receivers = rows_once a.receivers b.receivers (λ k. part_of octets (128 + 6 * k) 6) (sym h.receivers_at_26 ∙ g.receivers_at_26)
    (λ k lt. h.rows_at_128 k (omega (arith, lt, h.few_receivers))) (λ k lt. g.rows_at_128 k (omega (arith, lt, g.few_receivers))) in
    let ttl : a.upload_ttl ≡ b.upload_ttl = sym h.upload_ttl_at_27 ∙ g.upload_ttl_at_27 in
    let meta : a.upload_meta ≡ b.upload_meta = sym h.upload_metadata_at_28 ∙ g.upload_metadata_at_28 in
    λ i. record { phase = phase i; upload = upload i; banks = banks i; counter = counter i; settings = settings i; receivers = receivers i; upload_ttl = ttl i; upload_meta = meta i }

-- ---- the distributor

stored_once : BankIsOneImage → (s : StoreState) (bank : ℕ) (x y : StoredImage) → HasStored s bank x → HasStored s bank y → x ≡ y
stored_once one s bank x y h g =
    let at : x.bank ≡ y.bank = h.there ∙ sym g.there in
    let image : x.image ≡ y.image = one s bank x.image y.image h.image g.image in
    λ i. record { bank = at i; image = image i }

all_stored_once : BankIsOneImage → (s : StoreState) (banks : List ℕ) (xs ys : List StoredImage) → AllZip (HasStored s) banks xs → AllZip (HasStored s) banks ys → xs ≡ ys
all_stored_once one s [] [] [] h g = refl
all_stored_once one s [] [] (y ∷ ys) h g = absurd g
all_stored_once one s [] (x ∷ xs) ys h g = absurd h
all_stored_once one s (b ∷ banks) [] ys h g = absurd h
all_stored_once one s (b ∷ banks) (x ∷ xs) [] h g = absurd g
all_stored_once one s (b ∷ banks) (x ∷ xs) (y ∷ ys) h g = let e = stored_once one s b x y h.0 g.0 in let es = all_stored_once one s banks xs ys h.1 g.1 in λ i. e i ∷ es i

module _ (job : BlobPartIsOne) (one : BankIsOneImage) (s : StoreState) (d e : DistDurable) where
  same_parts : (p q : Option BlobJob) (a b : DistributorNote) → p ≡ q → a ≡ b → IsDistributorOf s p a d → IsDistributorOf s q b e → d ≡ e
  same_parts p q a b part note h g =
      let count : d.count ≡ e.count = h.count ∙ sym g.count in
      let capacity : d.capacity ≡ e.capacity = h.capacity ∙ sym g.capacity in
      let images : d.images ≡ e.images = all_stored_once one s a.banks d.images e.images h.images (subst (λ (n : DistributorNote). AllZip (HasStored s) n.banks e.images) (sym note) g.images) in
      let phase : d.phase ≡ e.phase = h.phase ∙ ap (λ (n : DistributorNote). n.phase) note ∙ sym g.phase in
      let counter : d.counter ≡ e.counter = h.counter ∙ ap (λ (n : DistributorNote). n.counter) note ∙ sym g.counter in
      let settings : d.settings ≡ e.settings = h.settings ∙ ap (λ (n : DistributorNote). n.settings) note ∙ sym g.settings in
      let receivers : d.receivers ≡ e.receivers = h.receivers ∙ ap (λ (n : DistributorNote). n.receivers) note ∙ sym g.receivers in
      let ttl : d.upload_ttl ≡ e.upload_ttl = h.upload_ttl ∙ ap (λ (n : DistributorNote). n.upload_ttl) note ∙ sym g.upload_ttl in
      let meta : d.upload_meta ≡ e.upload_meta = h.upload_meta ∙ ap (λ (n : DistributorNote). n.upload_meta) note ∙ sym g.upload_meta in
      let upload : d.upload ≡ e.upload = h.upload ∙ (λ i. upload_by (note i).upload (upload_job_in s (part i))) ∙ sym g.upload in
      λ i. record {
        count = count i;
        capacity = capacity i;
        images = images i;
        phase = phase i;
        counter = counter i;
        settings = settings i;
        receivers = receivers i;
        upload_ttl = ttl i;
        upload_meta = meta i;
        upload = upload i;
      }

  pub distributor_once : IsDistributor s d → IsDistributor s e → d ≡ e
  distributor_once h g =
      let part = job s.present h.0 g.0 h.2.is_record.blob g.2.is_record.blob in
      let note = distributor_note_once h.1 g.1 (note_part s.present.tag) h.2.is_record.note_octets g.2.is_record.note_octets in
      same_parts h.0 g.0 h.1 g.1 part note h.2 g.2
