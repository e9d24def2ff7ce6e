-- What is looked at is the distributor's.
use Rattle.std.proofs.Common.{◌≡◌, ◌∙◌, ℕ, ◌+◌, ◌*◌, Bool, true, false, List, [], ◌∷◌, length, map, Option, Some, None, refl, sym, ap, cond, arith}
use Rattle.std.specs.Prelude.{not, ◌||◌, ◌==◌}
use Rattle.std.specs.List.{filter}
use Rattle.std.specs.Option.{option_map}
use Rattle.mu_model_distributor.specs.Replies.{DistReply, CapabilitiesStatus}
use Rattle.mu_model_distributor.specs.DistState.{StoredImage, UploadJob, Upload, NoUpload, Uploading, Broken, Uploaded, DistState, job_of, run_by, run_upload}
use Rattle.mu_model_distributor.specs.Receivers.{is_stored_in, is_filled_by, banks, empty_banks, capabilities}
use Rattle.mu_model_represents.specs.Images.{is_among}
use Rattle.mu_model_represents_distributor.specs.RepresentsDistributor.{bank_of}
use Rattle.mu_distributor_rows.specs.declared.looks.DistLook.{DistLook}
use Rattle.mu_distributor_rows.specs.Looks.{Seen, seen, seen_of, LooksAs, job_look, phase_of, run_phase}
use Rattle.mu_distributor_rows.specs.Decided.{is_taken_by, free_banks, run_seen}

-- ---- the phase of the upload

pub run_of : (lags : Bool) (upload : Upload) → run_phase lags (phase_of upload) ≡ phase_of (run_by lags upload)
run_of true NoUpload = refl
run_of true (Uploading j) = refl
run_of true (Broken job) = refl
run_of true Uploaded = refl
run_of false NoUpload = refl
run_of false (Uploading j) = refl
run_of false (Broken job) = refl
run_of false Uploaded = refl

pub run_is : (look : DistLook) (s : DistState) → LooksAs look s → run_phase look.lags look.recorded ≡ phase_of (run_upload s)
run_is look s looks = ap run_seen looks.same ∙ run_of s.lags s.durable.upload

-- ---- banks

pub among_is : (images : List StoredImage) (bank : ℕ) → is_among (map bank_of images) bank ≡ is_stored_in images bank
among_is [] bank = refl
among_is (x ∷ images) bank = ap (λ (b : Bool). (x.bank == bank) || b) (among_is images bank)

taken_is : (job : Option UploadJob) (bank : ℕ) → is_taken_by (option_map job_look job) bank ≡ is_filled_by job bank
taken_is None bank = refl
taken_is (Some j) bank = refl

pub free_are : (images : List StoredImage) (job : Option UploadJob) → free_banks (map bank_of images) (option_map job_look job) ≡ empty_banks images job
free_are images job = λ i. filter (λ (bank : ℕ). not (among_is images bank i || taken_is job bank i)) banks

-- how many banks are free, one by one
counted : (b : Bool) (n : ℕ) (l : List ℕ) → length (cond b (n ∷ l) l) ≡ cond b 1 0 + length l
counted true n l = omega arith
counted false n l = omega arith

pub four_counted : (p : ℕ → Bool) → length (filter p banks) ≡ cond (p 0) 1 0 + cond (p 1) 1 0 + (cond (p 2) 1 0 + cond (p 3) 1 0)
four_counted p =
    omega (arith, counted (p 0) 0 (filter p (1 ∷ 2 ∷ 3 ∷ [])), counted (p 1) 1 (filter p (2 ∷ 3 ∷ [])), counted (p 2) 2 (filter p (3 ∷ [])), counted (p 3) 3 [])

pub capabilities_are : (look : DistLook) (s : DistState) → LooksAs look s
    → capabilities s ≡ CapabilitiesStatus look.capacity (look.capacity * length (free_banks look.banks.now look.job))
capabilities_are look s looks =
    sym (ap (λ (v : Seen). CapabilitiesStatus v.capacity (v.capacity * length (free_banks v.banks v.job))) looks.same
    ∙ ap (λ (l : List ℕ). CapabilitiesStatus s.durable.capacity (s.durable.capacity * length l)) (free_are s.durable.images (job_of s.durable.upload)))
