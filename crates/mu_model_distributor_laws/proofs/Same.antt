-- The tests of sameness decide equality.
use Rattle.std.proofs.Common.{◌≡◌, ℕ, Bool, true, false, List, [], ◌∷◌, refl, sym, ap, ◌∙◌, cond, arith, Option, Some, None}
use Rattle.std.specs.Prelude.{◌==◌, ◌&&◌, bytes_eq}
use Rattle.std.proofs.lemmas.Bool.{eqb-true}
use Rattle.std.proofs.lemmas.Bool.Decides.{nat_tests}
use Rattle.std.proofs.lemmas.Slice.Eq.{bytes_eq-Decides}
use Rattle.mu_model_image.specs.declared.Meta.{Meta}
use Rattle.mu_model_node.specs.declared.Parameters.{Parameters}
use Rattle.mu_model_node.specs.BlobServer.{Transfer}
use Rattle.mu_model_node.specs.BlobTable.{same_parameters}
use Rattle.mu_model_node.specs.UpdateTable.{same_meta}
use Rattle.mu_model_distributor.specs.declared.Settings.{Settings}
use Rattle.mu_model_distributor.specs.declared.DistPhase.{DistPhase}
use Rattle.mu_model_distributor.specs.declared.DistPhase.TheVariants.{Idle, TransferActive, TransferSuccess, ApplyingUpdate, Completed, Failed, CancelingUpdate, TransferSuspended}
use Rattle.mu_model_distributor.specs.DistState.{StoredImage, Receiver, UploadJob, Upload, NoUpload, Uploading, Broken, Uploaded, DistDurable, dist_number}
use Rattle.mu_model_distributor.specs.Same.{same_option, same_list, same_settings, same_receiver, same_image, same_transfer, same_job, same_upload, same_durable}

pub both : (x y : Bool) → (x && y) ≡ true → (x ≡ true) × (y ≡ true)
both true y e = (refl, e)
both false y e = cc

same_settings_true : (a b : Settings) → same_settings a b ≡ true → a ≡ b
same_settings_true a b e = grind (arith, nat_tests)

same_receiver_true : (a b : Receiver) → same_receiver a b ≡ true → a ≡ b
same_receiver_true a b e = grind (arith, nat_tests)

same_parameters_true : (a b : Parameters) → same_parameters a b ≡ true → a ≡ b
same_parameters_true a b e = grind (arith, nat_tests)

same_meta_true : (a b : Meta) → same_meta a b ≡ true → a ≡ b
same_meta_true a b e = grind (arith, nat_tests, bytes_eq-Decides a.digest b.digest)

octets_true : (a b : List ℕ) → bytes_eq a b ≡ true → a ≡ b
octets_true a b e = (bytes_eq-Decides a b).0 e

option_true : {A : Type 0} (same : A → A → Bool) → ((a b : A) → same a b ≡ true → a ≡ b) → (a b : Option A) → same_option same a b ≡ true → a ≡ b
option_true same h None None e = refl
option_true same h (Some a) (Some b) e = ap Some (h a b e)
option_true same h None (Some b) e = cc
option_true same h (Some a) None e = cc

list_true : {A : Type 0} (same : A → A → Bool) → ((a b : A) → same a b ≡ true → a ≡ b) → (a b : List A) → same_list same a b ≡ true → a ≡ b
list_true same h [] [] e = refl
list_true same h (a ∷ more) (b ∷ others) e =
    let k = both (same a b) (same_list same more others) e in
    let first : a ≡ b = h a b k.0 in
    let rest : more ≡ others = list_true same h more others k.1 in
    cc
list_true same h [] (b ∷ others) e = cc
list_true same h (a ∷ more) [] e = cc

same_image_true : (a b : StoredImage) → same_image a b ≡ true → a ≡ b
same_image_true a b e =
    let k = both _ (bytes_eq a.image.octets b.image.octets) e in
    let l = both _ (same_meta a.image.meta b.image.meta) k.0 in
    let bank : a.bank ≡ b.bank = eqb-true a.bank b.bank l.0 in
    let meta : a.image.meta ≡ b.image.meta = same_meta_true a.image.meta b.image.meta l.1 in
    let octets : a.image.octets ≡ b.image.octets = octets_true a.image.octets b.image.octets k.1 in
    grind (arith)

same_transfer_true : (a b : Transfer) → same_transfer a b ≡ true → a ≡ b
same_transfer_true a b e =
    let n = both _ (same_list (same_option bytes_eq) a.held b.held) e in
    let m = both _ (same_option same_parameters a.parameters b.parameters) n.0 in
    let l = both _ (a.base == b.base) m.0 in
    let k = both _ (a.size == b.size) l.0 in
    let id : a.id ≡ b.id = eqb-true a.id b.id k.0 in
    let size : a.size ≡ b.size = eqb-true a.size b.size k.1 in
    let base : a.base ≡ b.base = eqb-true a.base b.base l.1 in
    let parameters : a.parameters ≡ b.parameters = option_true same_parameters same_parameters_true a.parameters b.parameters m.1 in
    let held : a.held ≡ b.held = list_true (same_option bytes_eq) (option_true bytes_eq octets_true) a.held b.held n.1 in
    grind (arith)

same_job_true : (a b : UploadJob) → same_job a b ≡ true → a ≡ b
same_job_true a b e =
    let k = both _ (same_transfer a.transfer b.transfer) e in
    let bank : a.bank ≡ b.bank = eqb-true a.bank b.bank k.0 in
    let transfer : a.transfer ≡ b.transfer = same_transfer_true a.transfer b.transfer k.1 in
    grind (arith)

same_upload_true : (a b : Upload) → same_upload a b ≡ true → a ≡ b
same_upload_true NoUpload NoUpload e = refl
same_upload_true (Uploading a) (Uploading b) e = ap Uploading (same_job_true a b e)
same_upload_true (Broken a) (Broken b) e = ap Broken (option_true same_job same_job_true a b e)
same_upload_true Uploaded Uploaded e = refl
same_upload_true NoUpload (Uploading b) e = cc
same_upload_true NoUpload (Broken b) e = cc
same_upload_true NoUpload Uploaded e = cc
same_upload_true (Uploading a) NoUpload e = cc
same_upload_true (Uploading a) (Broken b) e = cc
same_upload_true (Uploading a) Uploaded e = cc
same_upload_true (Broken a) NoUpload e = cc
same_upload_true (Broken a) (Uploading b) e = cc
same_upload_true (Broken a) Uploaded e = cc
same_upload_true Uploaded NoUpload e = cc
same_upload_true Uploaded (Uploading b) e = cc
same_upload_true Uploaded (Broken b) e = cc

-- the phase of a number
phase_at : ℕ → DistPhase
phase_at n =
    cond (n == 0) Idle (cond (n == 1) TransferActive (cond (n == 2) TransferSuccess (cond (n == 3) ApplyingUpdate (cond (n == 4) Completed
    (cond (n == 5) Failed (cond (n == 6) CancelingUpdate TransferSuspended))))))

phase_back : (p : DistPhase) → phase_at (dist_number p) ≡ p
unfolding phase_at
phase_back Idle = refl
phase_back TransferActive = refl
phase_back TransferSuccess = refl
phase_back ApplyingUpdate = refl
phase_back Completed = refl
phase_back Failed = refl
phase_back CancelingUpdate = refl
phase_back TransferSuspended = refl

same_phase : (a b : DistPhase) → (dist_number a == dist_number b) ≡ true → a ≡ b
same_phase a b e = sym (phase_back a) ∙ (ap phase_at (eqb-true (dist_number a) (dist_number b) e) ∙ phase_back b)

pub same_durable_true : (a b : DistDurable) → same_durable a b ≡ true → a ≡ b
same_durable_true a b e =
    let s = both _ (same_list same_image a.images b.images) e in
    let r = both _ (same_upload a.upload b.upload) s.0 in
    let q = both _ (same_meta a.upload_meta b.upload_meta) r.0 in
    let p = both _ (a.upload_ttl == b.upload_ttl) q.0 in
    let o = both _ (same_list same_receiver a.receivers b.receivers) p.0 in
    let n = both _ (same_settings a.settings b.settings) o.0 in
    let m = both _ (a.counter == b.counter) n.0 in
    let l = both _ (dist_number a.phase == dist_number b.phase) m.0 in
    let k = both _ (a.capacity == b.capacity) l.0 in
    let count : a.count ≡ b.count = eqb-true a.count b.count k.0 in
    let capacity : a.capacity ≡ b.capacity = eqb-true a.capacity b.capacity k.1 in
    let phase : a.phase ≡ b.phase = same_phase a.phase b.phase l.1 in
    let counter : a.counter ≡ b.counter = eqb-true a.counter b.counter m.1 in
    let settings : a.settings ≡ b.settings = same_settings_true a.settings b.settings n.1 in
    let receivers : a.receivers ≡ b.receivers = list_true same_receiver same_receiver_true a.receivers b.receivers o.1 in
    let ttl : a.upload_ttl ≡ b.upload_ttl = eqb-true a.upload_ttl b.upload_ttl p.1 in
    let meta : a.upload_meta ≡ b.upload_meta = same_meta_true a.upload_meta b.upload_meta q.1 in
    let upload : a.upload ≡ b.upload = same_upload_true a.upload b.upload r.1 in
    let images : a.images ≡ b.images = list_true same_image same_image_true a.images b.images s.1 in
    grind (arith)

-- ---- and what is equal is the same

and_true : (x y : Bool) → x ≡ true → y ≡ true → (x && y) ≡ true
and_true x y e k = rw (e, k) refl

eq_refl : (n : ℕ) → (n == n) ≡ true
eq_refl n = grind (arith, nat_tests)

settings_refl : (a : Settings) → same_settings a a ≡ true
settings_refl a = grind (arith, nat_tests)

receiver_refl : (a : Receiver) → same_receiver a a ≡ true
receiver_refl a = grind (arith, nat_tests)

parameters_refl : (a : Parameters) → same_parameters a a ≡ true
parameters_refl a = grind (arith, nat_tests)

octets_refl : (a : List ℕ) → bytes_eq a a ≡ true
octets_refl a = (bytes_eq-Decides a a).1 refl

meta_refl : (a : Meta) → same_meta a a ≡ true
meta_refl a = and_true _ (bytes_eq a.digest a.digest) (grind (arith, nat_tests)) (octets_refl a.digest)

option_refl : {A : Type 0} (same : A → A → Bool) → ((a : A) → same a a ≡ true) → (a : Option A) → same_option same a a ≡ true
option_refl same h None = refl
option_refl same h (Some a) = h a

list_refl : {A : Type 0} (same : A → A → Bool) → ((a : A) → same a a ≡ true) → (a : List A) → same_list same a a ≡ true
list_refl same h [] = refl
list_refl same h (a ∷ more) = and_true (same a a) (same_list same more more) (h a) (list_refl same h more)

image_refl : (a : StoredImage) → same_image a a ≡ true
image_refl a = and_true _ (bytes_eq a.image.octets a.image.octets) (and_true (a.bank == a.bank) (same_meta a.image.meta a.image.meta) (eq_refl a.bank) (meta_refl a.image.meta)) (octets_refl a.image.octets)

transfer_refl : (a : Transfer) → same_transfer a a ≡ true
transfer_refl a =
    and_true _ (same_list (same_option bytes_eq) a.held a.held)
    (and_true _ (same_option same_parameters a.parameters a.parameters)
    (and_true _ (a.base == a.base) (and_true (a.id == a.id) (a.size == a.size) (eq_refl a.id) (eq_refl a.size)) (eq_refl a.base))
    (option_refl same_parameters parameters_refl a.parameters))
    (list_refl (same_option bytes_eq) (option_refl bytes_eq octets_refl) a.held)

job_refl : (a : UploadJob) → same_job a a ≡ true
job_refl a = and_true (a.bank == a.bank) (same_transfer a.transfer a.transfer) (eq_refl a.bank) (transfer_refl a.transfer)

upload_refl : (a : Upload) → same_upload a a ≡ true
upload_refl NoUpload = refl
upload_refl (Uploading j) = job_refl j
upload_refl (Broken job) = option_refl same_job job_refl job
upload_refl Uploaded = refl

pub same_durable_refl : (a : DistDurable) → same_durable a a ≡ true
same_durable_refl a =
    and_true _ (same_list same_image a.images a.images)
    (and_true _ (same_upload a.upload a.upload)
    (and_true _ (same_meta a.upload_meta a.upload_meta)
    (and_true _ (a.upload_ttl == a.upload_ttl)
    (and_true _ (same_list same_receiver a.receivers a.receivers)
    (and_true _ (same_settings a.settings a.settings)
    (and_true _ (a.counter == a.counter)
    (and_true _ (dist_number a.phase == dist_number a.phase)
    (and_true (a.count == a.count) (a.capacity == a.capacity) (eq_refl a.count) (eq_refl a.capacity))
    (eq_refl (dist_number a.phase)))
    (eq_refl a.counter))
    (settings_refl a.settings))
    (list_refl same_receiver receiver_refl a.receivers))
    (eq_refl a.upload_ttl))
    (meta_refl a.upload_meta))
    (upload_refl a.upload))
    (list_refl same_image image_refl a.images)
