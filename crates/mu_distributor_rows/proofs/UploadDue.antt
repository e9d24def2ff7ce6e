-- Whether a record is due after a row on uploads.
use Rattle.std.proofs.Common.{◌≡◌, ◌∙◌, ℕ, ◌<◌, Bool, true, false, List, map, Option, Some, None, Result, Ok, Err, refl, sym, ap, subst, cond, arith}
use Rattle.std.specs.Prelude.{◌==◌, ◌&&◌, nat_lt, bytes_eq}
use Rattle.std.specs.Option.{option_map}
use Rattle.std.specs.List.{All}
use Rattle.std.proofs.lemmas.Bool.{eqb-true, eq-eqb}
use Rattle.std.proofs.lemmas.Bool.Decides.{nat_tests}
use Rattle.std.proofs.lemmas.Slice.Eq.{bytes_eq-Decides}
use Rattle.std.proofs.lemmas.Option.{cond_some}
use Rattle.mu_model_distributor.specs.Receivers.{busy_with_distribution, busy_with_upload}
use Rattle.mu_model_image.specs.declared.Meta.{Meta}
use Rattle.mu_model_image.specs.Meta.{meta_octets, meta_from}
use Rattle.mu_model_image.specs.Laws.{MetaHasOneSpelling}
use Rattle.mu_model_node.specs.UpdateTable.{same_meta}
use Rattle.mu_model_distributor.specs.Requests.{UploadStart}
use Rattle.mu_model_distributor.specs.DistState.{UploadJob, Upload, NoUpload, Uploading, Broken, Uploaded, DistDurable, DistState, job_of, is_at_rest}
use Rattle.mu_model_distributor.specs.Uploads.{finds, upload_cancel, offered_meta, agreed, own_id, new_job}
use Rattle.mu_distributor_kept.specs.declared.phase.UploadPhase.{UploadPhase}
use Rattle.mu_distributor_kept.specs.declared.phase.UploadPhase.TheVariants.{Idle, TransferActive, TransferError, TransferSuccess}
use Rattle.mu_distributor_rows.specs.declared.looks.DistLook.{DistLook}
use Rattle.mu_distributor_rows.specs.declared.looks.UploadLook.{UploadLook}
use Rattle.mu_distributor_rows.specs.declared.uploads.UploadStep.{UploadStep}
use Rattle.mu_distributor_rows.specs.declared.uploads.UploadStep.TheVariants.{Keep, Resume, Store, Take, Refuse}
use Rattle.mu_distributor_rows.specs.Due.{IsDue, IsDueIn}
use Rattle.mu_distributor_rows.specs.Looks.{Seen, seen, seen_of, LooksAs, job_look, phase_of, run_phase}
use Rattle.mu_distributor_rows.specs.Decided.{lowest, free_banks, has_meta, taken_into, taken, taken_or_resumed, offered, started_at_rest, started_in, upload_started, same_start, is_some_upload, storing_changes, resuming_changes, step_changes}
use Rattle.mu_distributor_rows.specs.Rows.{taken_up, taken_in, upload_stepped}

-- ---- Upload Cancel

abbrev phase_kept : DistDurable → UploadPhase
phase_kept d = phase_of d.upload

abbrev index_of : UploadPhase → ℕ
index_of Idle = 0
index_of TransferActive = 1
index_of TransferError = 2
index_of TransferSuccess = 3

canceled : (s : DistState) (upload : Upload) → upload ≡ s.durable.upload → IsDue (is_some_upload (phase_of upload)) s.durable (upload_cancel s).durable
canceled s NoUpload e = λ i. record (s.durable) { upload = e i }
canceled s (Uploading j) e = λ h. absurd (omega (arith, ap index_of (ap phase_kept h ∙ ap phase_of (sym e))))
canceled s (Broken job) e = λ h. absurd (omega (arith, ap index_of (ap phase_kept h ∙ ap phase_of (sym e))))
canceled s Uploaded e = λ h. absurd (omega (arith, ap index_of (ap phase_kept h ∙ ap phase_of (sym e))))

pub cancel_due : (look : DistLook) (s : DistState) → LooksAs look s → IsDue (is_some_upload look.recorded) s.durable (upload_cancel s).durable
cancel_due look s looks =
    subst (λ (p : UploadPhase). IsDue (is_some_upload p) s.durable (upload_cancel s).durable) (sym (ap (λ (v : Seen). v.recorded) looks.same)) (canceled s s.durable.upload refl)

-- ---- tests

both : (x y : Bool) → (x && y) ≡ true → (x ≡ true) × (y ≡ true)
both true y e = (refl, e)
both false y e = cc

all_three : (x y z : Bool) → x ≡ true → y ≡ true → z ≡ true → (x && y && z) ≡ true
all_three true true true e f g = refl
all_three false y z e f g = cc
all_three true false z e f g = cc
all_three true true false e f g = cc

same_number : (n m : ℕ) → n ≡ m → (n == m) ≡ true
same_number n m e = eq-eqb n m e

same_octets : (a b : List ℕ) → a ≡ b → bytes_eq a b ≡ true
same_octets a b e = (bytes_eq-Decides a b).1 e

same_meta_is : (a b : Meta) → same_meta a b ≡ true → a ≡ b
same_meta_is a b e = grind (arith, nat_tests, bytes_eq-Decides a.digest b.digest)

same_meta_true : (a b : Meta) → a ≡ b → same_meta a b ≡ true
same_meta_true a b e =
    all_three (a.size == b.size) (a.version == b.version) (bytes_eq a.digest b.digest) (same_number a.size b.size (ap (λ (m : Meta). m.size) e))
    (same_number a.version b.version (ap (λ (m : Meta). m.version) e)) (same_octets a.digest b.digest (ap (λ (m : Meta). m.digest) e))

differ : (b : Bool) → b ≡ false → b ≡ true → ⊥
differ b e f = cc

-- ---- an upload that is resumed

abbrev is_resume : UploadStep → Bool
is_resume Resume = true
is_resume step = false

either_no : (b : Bool) (x y : UploadStep) → is_resume x ≡ false → is_resume y ≡ false → is_resume (cond b x y) ≡ false
either_no true x y h k = h
either_no false x y h k = k

taken_no : (v : Seen) (u : UploadStart) (meta : Meta) (bank : Option ℕ) → is_resume (taken_into v u meta bank) ≡ false
taken_no v u meta None = refl
taken_no v u meta (Some bank) = either_no (nat_lt v.capacity u.size) _ _ refl refl

resumed_no : (v : Seen) (u : UploadStart) (meta : Meta) (phase : UploadPhase) → is_resume (taken_or_resumed v u meta phase None) ≡ false
resumed_no v u meta Idle = taken_no v u meta (lowest (free_banks v.banks None))
resumed_no v u meta TransferActive = taken_no v u meta (lowest (free_banks v.banks None))
resumed_no v u meta TransferError = taken_no v u meta (lowest (free_banks v.banks None))
resumed_no v u meta TransferSuccess = taken_no v u meta (lowest (free_banks v.banks None))

offered_no : (v : Seen) (u : UploadStart) (phase : UploadPhase) (m : Option Meta) → is_resume (offered v u phase None m) ≡ false
offered_no v u phase None = refl
offered_no v u phase (Some meta) = either_no (has_meta v.metas meta) _ _ refl (resumed_no v u meta phase)

rested_no : (v : Seen) (u : UploadStart) (phase : UploadPhase) → is_resume (started_at_rest v u phase None) ≡ false
rested_no v u phase = either_no (is_at_rest v.phase) _ _ (offered_no v u phase (offered_meta u)) refl

-- without a job nothing is resumed
started_no : (v : Seen) (u : UploadStart) (phase : UploadPhase) → is_resume (started_in v u phase None) ≡ false
started_no v u Idle = rested_no v u Idle
started_no v u TransferActive = rested_no v u TransferActive
started_no v u TransferError = rested_no v u TransferError
started_no v u TransferSuccess = rested_no v u TransferSuccess

resumed_due : (s : DistState) (upload : Upload) → upload ≡ s.durable.upload → (job_of upload ≡ None → ⊥)
    → IsDue (resuming_changes (phase_of upload)) s.durable (taken_up s (job_of upload)).durable
resumed_due s NoUpload e none = absurd (none refl)
resumed_due s (Uploading j) e none = λ i. record (s.durable) { upload = e i }
resumed_due s (Broken None) e none = absurd (none refl)
resumed_due s (Broken (Some j)) e none = λ h. absurd (omega (arith, ap index_of (ap phase_kept h ∙ ap phase_of (sym e))))
resumed_due s Uploaded e none = absurd (none refl)

-- ---- an image that is stored

stored_due : (s : DistState) (u : UploadStart) (meta : Meta) (upload : Upload) → upload ≡ s.durable.upload → (same_ttl same : Bool)
    → (u.ttl == s.durable.upload_ttl) ≡ same_ttl → same_meta meta s.durable.upload_meta ≡ same → IsDue (storing_changes (phase_of upload) same_ttl same) s.durable (finds s u meta).durable
stored_due s u meta NoUpload e same_ttl same is_ttl is_meta = λ h. absurd (omega (arith, ap index_of (ap phase_kept h ∙ ap phase_of (sym e))))
stored_due s u meta (Uploading j) e same_ttl same is_ttl is_meta = λ h. absurd (omega (arith, ap index_of (ap phase_kept h ∙ ap phase_of (sym e))))
stored_due s u meta (Broken job) e same_ttl same is_ttl is_meta = λ h. absurd (omega (arith, ap index_of (ap phase_kept h ∙ ap phase_of (sym e))))
stored_due s u meta Uploaded e true true is_ttl is_meta =
    λ i. record (s.durable) { upload = e i; upload_ttl = eqb-true u.ttl s.durable.upload_ttl is_ttl i; upload_meta = same_meta_is meta s.durable.upload_meta is_meta i }
stored_due s u meta Uploaded e false same is_ttl is_meta = λ h. differ (u.ttl == s.durable.upload_ttl) is_ttl (same_number u.ttl s.durable.upload_ttl (ap (λ (d : DistDurable). d.upload_ttl) h))
stored_due s u meta Uploaded e true false is_ttl is_meta = λ h. differ (same_meta meta s.durable.upload_meta) is_meta (same_meta_true meta s.durable.upload_meta (ap (λ (d : DistDurable). d.upload_meta) h))

-- ---- a new job

abbrev meta_taken : UploadStep → Option Meta
meta_taken (Take meta bank) = Some meta
meta_taken step = None

is_taken : (step : UploadStep) (meta : Meta) (bank : ℕ) → step ≡ Take meta bank → meta_taken step ≡ Some meta
is_taken step meta bank e = ap meta_taken e

cond_taken : (b : Bool) (x : Meta) (bank n : ℕ) (meta : Meta) → meta_taken (cond b (Refuse n) (Take x bank)) ≡ Some meta → x ≡ meta
cond_taken true x bank n meta e = cc
cond_taken false x bank n meta e = cc

taken_into_meta : (v : Seen) (u : UploadStart) (x : Meta) (bank : Option ℕ) (meta : Meta) → meta_taken (taken_into v u x bank) ≡ Some meta → x ≡ meta
taken_into_meta v u x None meta e = cc
taken_into_meta v u x (Some bank) meta e = cond_taken (nat_lt v.capacity u.size) x bank _ meta e

-- a job that is the one that is asked for is resumed, and not taken anew
not_anew : (v : Seen) (u : UploadStart) (x : Meta) (meta : Meta) (has same : Bool) → (x ≡ meta → same ≡ true)
    → meta_taken (cond has (Store x) (cond same Resume (taken v u x))) ≡ Some meta → ⊥
not_anew v u x meta true same h e = cc
not_anew v u x meta false true h e = cc
not_anew v u x meta false false h e = let wrong : false ≡ true = h (taken_into_meta v u x (lowest (free_banks v.banks None)) meta e) in cc

offered_anew : (v : Seen) (u : UploadStart) (j : UploadLook) (meta : Meta) (m : Option Meta) → ((x : Meta) → m ≡ Some x → x ≡ meta → same_start v u j ≡ true)
    → meta_taken (offered v u TransferError (Some j) m) ≡ Some meta → ⊥
offered_anew v u j meta None h e = cc
offered_anew v u j meta (Some x) h e = not_anew v u x meta (has_meta v.metas x) (same_start v u j) (h x refl) e

rested_anew : (v : Seen) (u : UploadStart) (j : UploadLook) (meta : Meta) (rests : Bool) → ((x : Meta) → offered_meta u ≡ Some x → x ≡ meta → same_start v u j ≡ true)
    → meta_taken (cond rests (offered v u TransferError (Some j) (offered_meta u)) (Refuse busy_with_distribution)) ≡ Some meta → ⊥
rested_anew v u j meta true h e = offered_anew v u j meta (offered_meta u) h e
rested_anew v u j meta false h e = cc

active_anew : (same : Bool) (meta : Meta) → meta_taken (cond same Keep (Refuse busy_with_upload)) ≡ Some meta → ⊥
active_anew true meta e = cc
active_anew false meta e = cc

started_anew : (v : Seen) (u : UploadStart) (j : UploadLook) (meta : Meta) (lags : Bool) → ((x : Meta) → offered_meta u ≡ Some x → x ≡ meta → same_start v u j ≡ true)
    → meta_taken (started_in v u (run_phase lags TransferActive) (Some j)) ≡ Some meta → ⊥
started_anew v u j meta true h e = rested_anew v u j meta (is_at_rest v.phase) h e
started_anew v u j meta false h e = active_anew (same_start v u j) meta e

agreed_id : (u : UploadStart) (m : Option Meta) (x : Meta) → agreed u m ≡ Some x → (m ≡ Some x) × (bytes_eq u.fwid (own_id x) ≡ true)
agreed_id u None x e = cc
agreed_id u (Some m) x e =
    let k = cond_some ((u.size == m.size) && bytes_eq u.fwid (own_id m)) m x e in
    (ap Some k.1, subst (λ (y : Meta). bytes_eq u.fwid (own_id y) ≡ true) k.1 (both (u.size == m.size) (bytes_eq u.fwid (own_id m)) k.0).1)

-- what was taken already is what is asked for
same_again : MetaHasOneSpelling → (s : DistState) (u : UploadStart) (meta : Meta) (bank : ℕ) → All (λ octet. octet < 256) u.metadata → u.ttl ≡ s.durable.upload_ttl → meta ≡ s.durable.upload_meta
    → (x : Meta) → offered_meta u ≡ Some x → x ≡ meta → same_start (seen_of s) u (job_look (new_job u bank)) ≡ true
same_again law s u meta bank octets ttl is_meta x found is =
    let id = agreed_id u (meta_from u.metadata) x found in
    let spelled : u.metadata ≡ meta_octets s.durable.upload_meta = sym (law u.metadata x octets id.0) ∙ ap meta_octets (is ∙ is_meta) in
    let named : bytes_eq u.fwid (own_id s.durable.upload_meta) ≡ true = subst (λ (y : Meta). bytes_eq u.fwid (own_id y) ≡ true) (is ∙ is_meta) id.1 in
    rw (same_number u.ttl s.durable.upload_ttl ttl, same_number u.base u.base refl, same_number u.id u.id refl, same_number u.size u.size refl, same_octets u.metadata (meta_octets s.durable.upload_meta) spelled, named) refl

taken_due : MetaHasOneSpelling → (s : DistState) (u : UploadStart) (meta : Meta) (bank : ℕ) → All (λ octet. octet < 256) u.metadata → upload_started (seen_of s) u ≡ Take meta bank
    → (taken_in s u meta bank).durable ≡ s.durable → ⊥
taken_due law s u meta bank octets e h =
    let upload : Uploading (new_job u bank) ≡ s.durable.upload = ap (λ (d : DistDurable). d.upload) h in
    let started : started_in (seen_of s) u (run_phase s.lags TransferActive) (Some (job_look (new_job u bank))) ≡ Take meta bank =
    ap (λ (up : Upload). started_in (seen_of s) u (run_phase s.lags (phase_of up)) (option_map job_look (job_of up))) upload ∙ e in
    started_anew (seen_of s) u (job_look (new_job u bank)) meta s.lags
    (same_again law s u meta bank octets (ap (λ (d : DistDurable). d.upload_ttl) h) (ap (λ (d : DistDurable). d.upload_meta) h)) (ap meta_taken started)

-- ---- each step

job_there : (s : DistState) (u : UploadStart) → upload_started (seen_of s) u ≡ Resume → job_of s.durable.upload ≡ None → ⊥
job_there s u e none =
    let no : is_resume (upload_started (seen_of s) u) ≡ false =
    ap (λ (job : Option UploadJob). is_resume (started_in (seen_of s) u (run_phase s.lags (phase_of s.durable.upload)) (option_map job_look job))) none
    ∙ started_no (seen_of s) u (run_phase s.lags (phase_of s.durable.upload)) in
    let yes : is_resume (upload_started (seen_of s) u) ≡ true = ap is_resume e in
    cc

step_due : MetaHasOneSpelling → (s : DistState) (u : UploadStart) (step : UploadStep) → All (λ octet. octet < 256) u.metadata → upload_started (seen_of s) u ≡ step
    → IsDueIn (step_changes (seen_of s) u step) s (upload_stepped s u step)
step_due law s u Keep octets e = refl
step_due law s u Resume octets e = resumed_due s s.durable.upload refl (job_there s u e)
step_due law s u (Store meta) octets e = stored_due s u meta s.durable.upload refl _ _ refl refl
step_due law s u (Take meta bank) octets e = taken_due law s u meta bank octets e
step_due law s u (Refuse status) octets e = tt

pub start_due : MetaHasOneSpelling → (look : DistLook) (s : DistState) (u : UploadStart) (step : UploadStep) → All (λ octet. octet < 256) u.metadata → step ≡ upload_started (seen look) u → LooksAs look s
    → IsDueIn (step_changes (seen look) u step) s (upload_stepped s u step)
start_due law look s u step octets e looks =
    subst (λ (v : Seen). IsDueIn (step_changes v u step) s (upload_stepped s u step)) (sym looks.same)
    (step_due law s u step octets (sym (e ∙ ap (λ (v : Seen). upload_started v u) looks.same)))
