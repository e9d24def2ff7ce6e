-- The rows of the distribution from what is looked at, and whether a record is due after them.
use Rattle.std.proofs.Common.{◌≡◌, ◌∙◌, ℕ, ◌+◌, Bool, true, false, List, map, length, Option, Some, None, Result, Ok, Err, refl, sym, ap, subst, cond, arith}
use Rattle.std.specs.Prelude.{◌==◌, nat_le}
use Rattle.std.proofs.lemmas.List.{length-map}
use Rattle.mu_model_distributor.specs.declared.Settings.{Settings}
use Rattle.mu_model_distributor.specs.declared.DistPhase.{DistPhase}
use Rattle.mu_model_distributor.specs.declared.DistPhase.TheVariants.{Idle, TransferActive, TransferSuccess, ApplyingUpdate, Completed, Failed, CancelingUpdate, TransferSuspended}
use Rattle.mu_model_distributor.specs.Replies.{DistReply, DistributionStatus}
use Rattle.mu_model_distributor.specs.DistState.{Upload, NoUpload, Uploading, Broken, Uploaded, DistDurable, DistState, dist_number, run_by, run_upload}
use Rattle.mu_model_distributor.specs.Receivers.{insufficient_resources, wrong_phase, firmware_not_found, receivers_list_empty, busy_with_distribution, busy_with_upload}
use Rattle.mu_model_distributor.specs.Distribution.{begins, begun, last_counter, are_settings, settings_in, distribution_status, distribution_start, distribution_suspend, distribution_cancel, distribution_apply}
use Rattle.mu_model_distributor.specs.Distribution.{is_uploading as uploads}
use Rattle.mu_model_client.specs.Client.{Client}
use Rattle.mu_distributor_rows.specs.declared.looks.DistLook.{DistLook}
use Rattle.mu_distributor_rows.specs.declared.distribution.DistributionStep.{DistributionStep}
use Rattle.mu_distributor_rows.specs.declared.distribution.DistributionStep.TheVariants.{Keep, Begin, Resume, Suspend, Cancel, Rest, Apply, Refuse}
use Rattle.mu_distributor_rows.specs.Due.{IsDueIn, changes}
use Rattle.mu_distributor_rows.specs.Looks.{Seen, seen, seen_of, LooksAs, meta_of, phase_of, run_phase}
use Rattle.mu_distributor_rows.specs.Decided.{is_uploading, begun as begun_by, distribution_started, distribution_suspended, distribution_canceled, distribution_applied}
use Rattle.mu_distributor_rows.specs.Rows.{distribution_stepped}

-- one of two steps
chosen : (address : ℕ) (s : DistState) (b : Bool) (x y : Result DistState ℕ) (step other : DistributionStep)
    → x ≡ distribution_stepped address s step → y ≡ distribution_stepped address s other → cond b x y ≡ distribution_stepped address s (cond b step other)
chosen address s true x y step other e f = e
chosen address s false x y step other e f = f

uploads_is : (lags : Bool) (upload : Upload) → is_uploading (run_phase lags (phase_of upload)) ≡ uploads (run_by lags upload)
uploads_is true NoUpload = refl
uploads_is false NoUpload = refl
uploads_is true (Uploading j) = refl
uploads_is false (Uploading j) = refl
uploads_is true (Broken job) = refl
uploads_is false (Broken job) = refl
uploads_is true Uploaded = refl
uploads_is false Uploaded = refl

-- with the two tests as the distributor has them
abbrev begun_in : DistState → Settings → Bool → ℕ → DistributionStep
begun_in s ask is_busy images =
    cond is_busy (Refuse busy_with_upload)
    (cond (nat_le images ask.image) (Refuse firmware_not_found)
    (cond (length s.durable.receivers == 0) (Refuse receivers_list_empty)
    (cond (s.durable.counter == last_counter) (Refuse insufficient_resources) (Begin ask))))

begun_is : (address : ℕ) (s : DistState) (ask : Option Settings) → begins address s ask ≡ distribution_stepped address s (begun_by (seen_of s) ask)
begun_is address s None = refl
begun_is address s (Some ask) =
    chosen address s (uploads (run_upload s)) _ _ _ _ refl
    (chosen address s (nat_le (length s.durable.images) ask.image) _ _ _ _ refl
    (chosen address s (length s.durable.receivers == 0) _ _ _ _ refl
    (chosen address s (s.durable.counter == last_counter) _ _ (Refuse insufficient_resources) (Begin ask) refl refl)))
    ∙ (λ i. distribution_stepped address s (begun_in s ask (sym (uploads_is s.lags s.durable.upload) i) (sym (length-map s.durable.images meta_of) i)))

started_is : (address : ℕ) (s : DistState) (ask : Option Settings) (p : DistPhase)
    → distribution_start address s ask p ≡ distribution_stepped address s (distribution_started (seen_of s) ask p)
started_is address s ask Idle = begun_is address s ask
started_is address s ask Completed = begun_is address s ask
started_is address s ask Failed = begun_is address s ask
started_is address s ask TransferSuspended = chosen address s (are_settings ask s.durable.settings) _ _ Resume (Refuse wrong_phase) refl refl
started_is address s ask TransferActive = chosen address s (are_settings ask s.durable.settings) _ _ Keep (Refuse busy_with_distribution) refl refl
started_is address s ask TransferSuccess = chosen address s (are_settings ask s.durable.settings) _ _ Keep (Refuse busy_with_distribution) refl refl
started_is address s ask ApplyingUpdate = chosen address s (are_settings ask s.durable.settings) _ _ Keep (Refuse busy_with_distribution) refl refl
started_is address s ask CancelingUpdate = chosen address s (are_settings ask s.durable.settings) _ _ Keep (Refuse busy_with_distribution) refl refl

pub start_is : (look : DistLook) (address : ℕ) (s : DistState) (ask : Option Settings) → LooksAs look s
    → distribution_start address s ask s.durable.phase ≡ distribution_stepped address s (distribution_started (seen look) ask look.phase)
start_is look address s ask looks =
    started_is address s ask s.durable.phase ∙ ap (λ (v : Seen). distribution_stepped address s (distribution_started v ask v.phase)) (sym looks.same)

suspended_is : (address : ℕ) (s : DistState) (p : DistPhase) → distribution_suspend s p ≡ distribution_stepped address s (distribution_suspended p)
suspended_is address s Idle = refl
suspended_is address s TransferActive = refl
suspended_is address s TransferSuccess = refl
suspended_is address s ApplyingUpdate = refl
suspended_is address s Completed = refl
suspended_is address s Failed = refl
suspended_is address s CancelingUpdate = refl
suspended_is address s TransferSuspended = refl

pub suspend_is : (look : DistLook) (address : ℕ) (s : DistState) → LooksAs look s → distribution_suspend s s.durable.phase ≡ distribution_stepped address s (distribution_suspended look.phase)
suspend_is look address s looks =
    suspended_is address s s.durable.phase ∙ ap (λ (v : Seen). distribution_stepped address s (distribution_suspended v.phase)) (sym looks.same)

canceled_is : (address : ℕ) (s : DistState) (p : DistPhase) → distribution_cancel s p ≡ distribution_stepped address s (distribution_canceled p)
canceled_is address s Idle = refl
canceled_is address s TransferActive = refl
canceled_is address s TransferSuccess = refl
canceled_is address s ApplyingUpdate = refl
canceled_is address s Completed = refl
canceled_is address s Failed = refl
canceled_is address s CancelingUpdate = refl
canceled_is address s TransferSuspended = refl

pub cancel_is : (look : DistLook) (address : ℕ) (s : DistState) → LooksAs look s → distribution_cancel s s.durable.phase ≡ distribution_stepped address s (distribution_canceled look.phase)
cancel_is look address s looks =
    canceled_is address s s.durable.phase ∙ ap (λ (v : Seen). distribution_stepped address s (distribution_canceled v.phase)) (sym looks.same)

applied_is : (address : ℕ) (s : DistState) (p : DistPhase) → distribution_apply s p ≡ distribution_stepped address s (distribution_applied p)
applied_is address s Idle = refl
applied_is address s TransferActive = refl
applied_is address s TransferSuccess = refl
applied_is address s ApplyingUpdate = refl
applied_is address s Completed = refl
applied_is address s Failed = refl
applied_is address s CancelingUpdate = refl
applied_is address s TransferSuspended = refl

pub apply_is : (look : DistLook) (address : ℕ) (s : DistState) → LooksAs look s → distribution_apply s s.durable.phase ≡ distribution_stepped address s (distribution_applied look.phase)
apply_is look address s looks =
    applied_is address s s.durable.phase ∙ ap (λ (v : Seen). distribution_stepped address s (distribution_applied v.phase)) (sym looks.same)

pub status_is : (look : DistLook) (s : DistState) (status : ℕ) → LooksAs look s
    → distribution_status status s ≡ DistributionStatus status (dist_number look.phase) (settings_in look.phase look.settings)
status_is look s status looks = sym (ap (λ (v : Seen). DistributionStatus status (dist_number v.phase) (settings_in v.phase v.settings)) looks.same)

-- ---- whether a record is due

-- two phases that differ
moved : (s : DistState) (p q : DistPhase) → s.durable.phase ≡ p → (dist_number q ≡ dist_number p → ⊥) → (d : DistDurable) → d.phase ≡ q → d ≡ s.durable → ⊥
moved s p q is differ d goes e = differ (ap dist_number (sym goes ∙ ap (λ (x : DistDurable). x.phase) e ∙ is))

kept_due : (address : ℕ) (s : DistState) → IsDueIn (changes Keep) s (distribution_stepped address s Keep)
kept_due address s = refl

begun_due : (address : ℕ) (s : DistState) (ask : Settings) → (begun address s ask).durable ≡ s.durable → ⊥
begun_due address s ask e = let same : s.durable.counter + 1 ≡ s.durable.counter = ap (λ (d : DistDurable). d.counter) e in omega arith

abbrev StepIsDue : ℕ → DistState → DistributionStep → Type 0
StepIsDue address s step = IsDueIn (changes step) s (distribution_stepped address s step)

steps_due : (address : ℕ) (s : DistState) (ask : Settings) (a b c d : Bool)
    → StepIsDue address s (cond a (Refuse busy_with_upload) (cond b (Refuse firmware_not_found) (cond c (Refuse receivers_list_empty) (cond d (Refuse insufficient_resources) (Begin ask)))))
steps_due address s ask true b c d = tt
steps_due address s ask false true c d = tt
steps_due address s ask false false true d = tt
steps_due address s ask false false false true = tt
steps_due address s ask false false false false = begun_due address s ask

begun_by_due : (address : ℕ) (s : DistState) (v : Seen) (ask : Option Settings) → StepIsDue address s (begun_by v ask)
begun_by_due address s v None = tt
begun_by_due address s v (Some ask) =
    steps_due address s ask (is_uploading (run_phase v.lags v.recorded)) (nat_le (length v.metas) ask.image) (v.receivers == 0) (v.counter == last_counter)

either_due : (address : ℕ) (s : DistState) (b : Bool) (status : ℕ) → IsDueIn (changes (cond b Keep (Refuse status))) s (distribution_stepped address s (cond b Keep (Refuse status)))
either_due address s true status = refl
either_due address s false status = tt

resumed_due : (address : ℕ) (s : DistState) (b : Bool) → s.durable.phase ≡ TransferSuspended
    → IsDueIn (changes (cond b Resume (Refuse wrong_phase))) s (distribution_stepped address s (cond b Resume (Refuse wrong_phase)))
resumed_due address s true is = moved s TransferSuspended TransferActive is (λ e. absurd (omega (arith, e))) _ refl
resumed_due address s false is = tt

started_due : (address : ℕ) (s : DistState) (v : Seen) (ask : Option Settings) (p : DistPhase) → s.durable.phase ≡ p
    → IsDueIn (changes (distribution_started v ask p)) s (distribution_stepped address s (distribution_started v ask p))
started_due address s v ask Idle is = begun_by_due address s v ask
started_due address s v ask Completed is = begun_by_due address s v ask
started_due address s v ask Failed is = begun_by_due address s v ask
started_due address s v ask TransferSuspended is = resumed_due address s (are_settings ask v.settings) is
started_due address s v ask TransferActive is = either_due address s (are_settings ask v.settings) busy_with_distribution
started_due address s v ask TransferSuccess is = either_due address s (are_settings ask v.settings) busy_with_distribution
started_due address s v ask ApplyingUpdate is = either_due address s (are_settings ask v.settings) busy_with_distribution
started_due address s v ask CancelingUpdate is = either_due address s (are_settings ask v.settings) busy_with_distribution

phase_looks : (look : DistLook) (s : DistState) → LooksAs look s → s.durable.phase ≡ look.phase
phase_looks look s looks = sym (ap (λ (v : Seen). v.phase) looks.same)

pub start_due : (look : DistLook) (address : ℕ) (s : DistState) (ask : Option Settings) → LooksAs look s
    → IsDueIn (changes (distribution_started (seen look) ask look.phase)) s (distribution_stepped address s (distribution_started (seen look) ask look.phase))
start_due look address s ask looks = started_due address s (seen look) ask look.phase (phase_looks look s looks)

suspended_due : (address : ℕ) (s : DistState) (p : DistPhase) → s.durable.phase ≡ p
    → IsDueIn (changes (distribution_suspended p)) s (distribution_stepped address s (distribution_suspended p))
suspended_due address s TransferActive is = moved s TransferActive TransferSuspended is (λ e. absurd (omega (arith, e))) _ refl
suspended_due address s TransferSuspended is = refl
suspended_due address s Idle is = tt
suspended_due address s TransferSuccess is = tt
suspended_due address s ApplyingUpdate is = tt
suspended_due address s Completed is = tt
suspended_due address s Failed is = tt
suspended_due address s CancelingUpdate is = tt

pub suspend_due : (look : DistLook) (address : ℕ) (s : DistState) → LooksAs look s
    → IsDueIn (changes (distribution_suspended look.phase)) s (distribution_stepped address s (distribution_suspended look.phase))
suspend_due look address s looks = suspended_due address s look.phase (phase_looks look s looks)

canceling : (s : DistState) (p : DistPhase) (client : Option Client) → s.durable.phase ≡ p → (6 ≡ dist_number p → ⊥)
    → (Rattle.mu_model_distributor.specs.Distribution.cancels s client).durable ≡ s.durable → ⊥
canceling s p None is differ = moved s p CancelingUpdate is differ _ refl
canceling s p (Some c) is differ = moved s p CancelingUpdate is differ _ refl

applying : (s : DistState) (client : Option Client) → s.durable.phase ≡ TransferSuccess
    → (Rattle.mu_model_distributor.specs.Distribution.applies s client).durable ≡ s.durable → ⊥
applying s None is = moved s TransferSuccess ApplyingUpdate is (λ e. absurd (omega (arith, e))) _ refl
applying s (Some c) is = moved s TransferSuccess ApplyingUpdate is (λ e. absurd (omega (arith, e))) _ refl

canceled_due : (address : ℕ) (s : DistState) (p : DistPhase) → s.durable.phase ≡ p
    → IsDueIn (changes (distribution_canceled p)) s (distribution_stepped address s (distribution_canceled p))
canceled_due address s TransferActive is = canceling s TransferActive s.client is (λ e. absurd (omega (arith, e)))
canceled_due address s TransferSuccess is = canceling s TransferSuccess s.client is (λ e. absurd (omega (arith, e)))
canceled_due address s TransferSuspended is = canceling s TransferSuspended s.client is (λ e. absurd (omega (arith, e)))
canceled_due address s Completed is = moved s Completed Idle is (λ e. absurd (omega (arith, e))) _ refl
canceled_due address s Failed is = moved s Failed Idle is (λ e. absurd (omega (arith, e))) _ refl
canceled_due address s ApplyingUpdate is = tt
canceled_due address s Idle is = refl
canceled_due address s CancelingUpdate is = refl

pub cancel_due : (look : DistLook) (address : ℕ) (s : DistState) → LooksAs look s
    → IsDueIn (changes (distribution_canceled look.phase)) s (distribution_stepped address s (distribution_canceled look.phase))
cancel_due look address s looks = canceled_due address s look.phase (phase_looks look s looks)

applied_due : (address : ℕ) (s : DistState) (p : DistPhase) → s.durable.phase ≡ p
    → IsDueIn (changes (distribution_applied p)) s (distribution_stepped address s (distribution_applied p))
applied_due address s TransferSuccess is = applying s s.client is
applied_due address s ApplyingUpdate is = refl
applied_due address s Idle is = tt
applied_due address s TransferActive is = tt
applied_due address s Completed is = tt
applied_due address s Failed is = tt
applied_due address s CancelingUpdate is = tt
applied_due address s TransferSuspended is = tt

pub apply_due : (look : DistLook) (address : ℕ) (s : DistState) → LooksAs look s
    → IsDueIn (changes (distribution_applied look.phase)) s (distribution_stepped address s (distribution_applied look.phase))
apply_due look address s looks = applied_due address s look.phase (phase_looks look s looks)
