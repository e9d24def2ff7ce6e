-- The rows of an Upload Start from what is looked at.
use Rattle.std.proofs.Common.{◌≡◌, ◌∙◌, ℕ, Bool, true, false, List, [], ◌∷◌, map, Option, Some, None, Result, Ok, Err, refl, sym, ap, cond}
use Rattle.std.specs.Prelude.{◌||◌, bytes_eq, nat_lt}
use Rattle.std.specs.Option.{option_map}
use Rattle.mu_model_image.specs.declared.Meta.{Meta}
use Rattle.mu_model_distributor.specs.Requests.{UploadStart}
use Rattle.mu_model_distributor.specs.Replies.{DistReply, UploadStatus}
use Rattle.mu_model_distributor.specs.DistState.{StoredImage, UploadJob, Upload, NoUpload, Uploading, Broken, Uploaded, DistState, job_of, run_by, run_upload, upload_number, is_at_rest}
use Rattle.mu_model_distributor.specs.Receivers.{empty_banks, insufficient_resources, internal_error, busy_with_distribution, busy_with_upload}
use Rattle.mu_model_distributor.specs.Uploads.{own_id, has_image, offered_meta, same_upload_start, takes_in, takes, takes_or_resumes, offers, upload_start, upload_status, shown_upload}
use Rattle.mu_model_represents_distributor.specs.DistributorNote.{upload_phase_number}
use Rattle.mu_model_represents_distributor.specs.RepresentsDistributor.{bank_of}
use Rattle.mu_distributor_kept.specs.Views.{upload_phase}
use Rattle.mu_distributor_rows.specs.declared.looks.DistLook.{DistLook}
use Rattle.mu_distributor_rows.specs.declared.uploads.UploadStep.{UploadStep}
use Rattle.mu_distributor_rows.specs.declared.uploads.UploadStep.TheVariants.{Keep, Resume, Store, Take, Refuse}
use Rattle.mu_distributor_rows.specs.Looks.{Seen, seen, seen_of, LooksAs, meta_of, job_look, phase_of, run_phase}
use Rattle.mu_distributor_rows.specs.Decided.{free_banks, lowest, run_seen, has_meta, taken_into, taken, taken_or_resumed, offered, started_at_rest, started_in, upload_started, shown_seen}
use Rattle.mu_distributor_rows.specs.Rows.{upload_stepped}
use Rattle.mu_distributor_rows.proofs.Seen.{run_of, free_are}

pub meta_stored : (images : List StoredImage) (meta : Meta) → has_meta (map meta_of images) meta ≡ has_image images meta
meta_stored [] meta = refl
meta_stored (x ∷ images) meta = ap (λ (b : Bool). bytes_eq (own_id x.image.meta) (own_id meta) || b) (meta_stored images meta)

-- one of two steps
chosen : (s : DistState) (u : UploadStart) (b : Bool) (x y : Result DistState ℕ) (step other : UploadStep)
    → x ≡ upload_stepped s u step → y ≡ upload_stepped s u other → cond b x y ≡ upload_stepped s u (cond b step other)
chosen s u true x y step other e f = e
chosen s u false x y step other e f = f

taken_in : (s : DistState) (u : UploadStart) (meta : Meta) (banks : List ℕ) → takes_in s u meta banks ≡ upload_stepped s u (taken_into (seen_of s) u meta (lowest banks))
taken_in s u meta [] = refl
taken_in s u meta (bank ∷ others) = chosen s u (nat_lt s.durable.capacity u.size) _ _ (Refuse insufficient_resources) (Take meta bank) refl refl

taken_is : (s : DistState) (u : UploadStart) (meta : Meta) → takes s u meta ≡ upload_stepped s u (taken (seen_of s) u meta)
taken_is s u meta =
    taken_in s u meta (empty_banks s.durable.images None)
    ∙ ap (λ (l : List ℕ). upload_stepped s u (taken_into (seen_of s) u meta (lowest l))) (sym (free_are s.durable.images None))

-- an upload that isn't active, with its job
abbrev GoesOn : DistState → Upload → Type 0
GoesOn s NoUpload = Unit {0}
GoesOn s (Uploading j) = ⊥
GoesOn s (Broken None) = Unit {0}
GoesOn s (Broken (Some j)) = job_of s.durable.upload ≡ Some j
GoesOn s Uploaded = Unit {0}

taken_or : (s : DistState) (u : UploadStart) (meta : Meta) (run : Upload) → GoesOn s run
    → takes_or_resumes s u meta run ≡ upload_stepped s u (taken_or_resumed (seen_of s) u meta (phase_of run) (option_map job_look (job_of run)))
taken_or s u meta NoUpload h = taken_is s u meta
taken_or s u meta (Uploading j) h = absurd h
taken_or s u meta (Broken None) h = taken_is s u meta
taken_or s u meta (Broken (Some j)) h =
    chosen s u (same_upload_start u s.durable j) _ _ Resume (taken (seen_of s) u meta)
    (ap (λ (job : Option UploadJob). Ok (Rattle.mu_distributor_rows.specs.Rows.taken_up s job)) (sym h)) (taken_is s u meta)
taken_or s u meta Uploaded h = taken_is s u meta

offered_by : (s : DistState) (u : UploadStart) (run : Upload) (m : Option Meta) → GoesOn s run
    → offers s u run m ≡ upload_stepped s u (offered (seen_of s) u (phase_of run) (option_map job_look (job_of run)) m)
offered_by s u run None h = refl
offered_by s u run (Some meta) h =
    chosen s u (has_image s.durable.images meta) _ _ (Store meta) (taken_or_resumed (seen_of s) u meta (phase_of run) (option_map job_look (job_of run))) refl (taken_or s u meta run h)
    ∙ ap (λ (b : Bool). upload_stepped s u (cond b (Store meta) (taken_or_resumed (seen_of s) u meta (phase_of run) (option_map job_look (job_of run))))) (sym (meta_stored s.durable.images meta))

resting : (s : DistState) (u : UploadStart) (run : Upload) → GoesOn s run
    → cond (is_at_rest s.durable.phase) (offers s u run (offered_meta u)) (Err busy_with_distribution)
    ≡ upload_stepped s u (started_at_rest (seen_of s) u (phase_of run) (option_map job_look (job_of run)))
resting s u run h = chosen s u (is_at_rest s.durable.phase) _ _ _ (Refuse busy_with_distribution) (offered_by s u run (offered_meta u) h) refl

started_by : (s : DistState) (u : UploadStart) (lags : Bool) (upload : Upload) → upload ≡ s.durable.upload
    → upload_start s u (run_by lags upload) ≡ upload_stepped s u (started_in (seen_of s) u (run_phase lags (phase_of upload)) (option_map job_look (job_of upload)))
started_by s u true NoUpload e = resting s u NoUpload tt
started_by s u false NoUpload e = resting s u NoUpload tt
started_by s u true (Uploading j) e = resting s u (Broken (Some j)) (sym (ap job_of e))
started_by s u false (Uploading j) e = chosen s u (same_upload_start u s.durable j) _ _ Keep (Refuse busy_with_upload) refl refl
started_by s u true (Broken None) e = resting s u (Broken None) tt
started_by s u false (Broken None) e = resting s u (Broken None) tt
started_by s u true (Broken (Some j)) e = resting s u (Broken (Some j)) (sym (ap job_of e))
started_by s u false (Broken (Some j)) e = resting s u (Broken (Some j)) (sym (ap job_of e))
started_by s u true Uploaded e = resting s u Uploaded tt
started_by s u false Uploaded e = resting s u Uploaded tt

pub start_is : (look : DistLook) (s : DistState) (u : UploadStart) → LooksAs look s → upload_start s u (run_upload s) ≡ upload_stepped s u (upload_started (seen look) u)
start_is look s u looks =
    started_by s u s.lags s.durable.upload refl ∙ ap (λ (v : Seen). upload_stepped s u (upload_started v u)) (sym looks.same)

-- ---- what is shown

shown_by : (lags : Bool) (upload : Upload) (meta : Meta) → shown_seen (run_phase lags (phase_of upload)) (option_map job_look (job_of upload)) meta ≡ shown_upload (run_by lags upload) meta
shown_by true NoUpload meta = refl
shown_by false NoUpload meta = refl
shown_by true (Uploading j) meta = refl
shown_by false (Uploading j) meta = refl
shown_by true (Broken None) meta = refl
shown_by false (Broken None) meta = refl
shown_by true (Broken (Some j)) meta = refl
shown_by false (Broken (Some j)) meta = refl
shown_by true Uploaded meta = refl
shown_by false Uploaded meta = refl

number_is : (upload : Upload) → upload_phase_number (upload_phase (phase_of upload)) ≡ upload_number upload
number_is NoUpload = refl
number_is (Uploading j) = refl
number_is (Broken job) = refl
number_is Uploaded = refl

pub status_is : (look : DistLook) (s : DistState) (status : ℕ) → LooksAs look s
    → upload_status status s ≡ UploadStatus status (upload_phase_number (upload_phase (run_phase look.lags look.recorded))) (shown_seen (run_phase look.lags look.recorded) look.job look.upload_meta)
status_is look s status looks =
    sym (ap (λ (v : Seen). UploadStatus status (upload_phase_number (upload_phase (run_seen v))) (shown_seen (run_seen v) v.job v.upload_meta)) looks.same
    ∙ (λ i. UploadStatus status ((ap (λ p. upload_phase_number (upload_phase p)) (run_of s.lags s.durable.upload) ∙ number_is (run_upload s)) i) (shown_by s.lags s.durable.upload s.durable.upload_meta i)))
