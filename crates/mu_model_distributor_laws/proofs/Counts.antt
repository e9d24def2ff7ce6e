-- What an event leads to before its record has the count that it had, and no smaller number of distributions.
use Rattle.std.proofs.Common.{◌≡◌, ◌≤◌, ℕ, Bool, true, false, List, [], ◌∷◌, length, refl, ◌∙◌, cond, arith, Option, Some, None, Result, Ok, Err}
use Rattle.std.specs.Prelude.{⊤, ◌==◌, not, nat_lt, nat_le, is_none}
use Rattle.std.specs.List.{list_any}
use Rattle.mu_model_image.specs.declared.Meta.{Meta}
use Rattle.mu_model_node.specs.declared.Link.{Link}
use Rattle.mu_model_node.specs.declared.Link.TheVariants.{Cut, Ready, Running}
use Rattle.mu_model_client.specs.declared.Stage.{Stage}
use Rattle.mu_model_client.specs.declared.Stage.TheVariants.{Transfer, Verified, Applying, Canceling, Ended}
use Rattle.mu_model_client.specs.Client.{Client, is_active}
use Rattle.mu_model_client.specs.Begin.{stage_of}
use Rattle.mu_model_distributor.specs.declared.Settings.{Settings}
use Rattle.mu_model_distributor.specs.Requests.{Entry, UploadStart}
use Rattle.mu_model_distributor.specs.declared.DistPhase.{DistPhase}
use Rattle.mu_model_distributor.specs.declared.DistPhase.TheVariants.{Idle, TransferActive, TransferSuccess, ApplyingUpdate, Completed, Failed, CancelingUpdate, TransferSuspended}
use Rattle.mu_model_distributor.specs.DistState.{UploadJob, Upload, NoUpload, Uploading, Broken, Uploaded, run_upload, DistState, is_at_rest}
use Rattle.mu_model_distributor.specs.Receivers.{added, is_idle, receivers_add, receivers_delete_all, empty_banks}
use Rattle.mu_model_distributor.specs.Distribution.{in_phase, with_client, are_settings, is_uploading, begins, distribution_start, distribution_suspend, cancels, distribution_cancel, applies, distribution_apply}
use Rattle.mu_model_distributor.specs.Uploads.{offered_meta, same_upload_start, has_image, takes_in, takes_or_resumes, offers, upload_start}
use Rattle.mu_model_distributor.specs.Firmware.{index_of, is_in_upload, firmware_delete, firmware_delete_all}
use Rattle.mu_model_distributor.specs.DistTime.{verified, broken_by, has_phase, goes_on_by, has_verified, advanced, after_turn}

-- the record count stands, and the distribution's number doesn't fall
abbrev pub SameCount : DistState → DistState → Type 0
SameCount s t = (t.durable.count ≡ s.durable.count) × (s.durable.counter ≤ t.durable.counter)

pub then_counts : (s t u : DistState) → SameCount s t → SameCount t u → SameCount s u
then_counts s t u h k = (k.0 ∙ h.0, omega (arith, h.1, k.1))

abbrev pub Counts : DistState → Result DistState ℕ → Type 0
Counts s (Ok t) = SameCount s t
Counts s (Err status) = ⊤

split : (s : DistState) (b : Bool) (x y : Result DistState ℕ) → Counts s x → Counts s y → Counts s (cond b x y)
split s true x y h k = h
split s false x y h k = k

pub add_counts : (s : DistState) (entries : List Entry) → Counts s (receivers_add s entries)
add_counts s entries = split s (not (is_idle s.durable.phase)) _ _ tt (split s (nat_lt 128 (length (added s.durable.receivers entries))) _ _ tt (refl, omega arith))

pub delete_counts : (s : DistState) → Counts s (receivers_delete_all s)
delete_counts s = split s (is_idle s.durable.phase) _ _ (refl, omega arith) tt

begin_counts : (address : ℕ) (s : DistState) (ask : Option Settings) → Counts s (begins address s ask)
begin_counts address s None = tt
begin_counts address s (Some ask) =
    split s (is_uploading (run_upload s)) _ _ tt
    (split s (nat_le (length s.durable.images) ask.image) _ _ tt
    (split s (length s.durable.receivers == 0) _ _ tt (split s (s.durable.counter == 281474976710655) _ _ tt (refl, omega arith))))

pub start_counts : (address : ℕ) (s : DistState) (ask : Option Settings) (p : DistPhase) → Counts s (distribution_start address s ask p)
start_counts address s ask Idle = begin_counts address s ask
start_counts address s ask Completed = begin_counts address s ask
start_counts address s ask Failed = begin_counts address s ask
start_counts address s ask TransferActive = split s (are_settings ask s.durable.settings) _ _ (refl, omega arith) tt
start_counts address s ask TransferSuccess = split s (are_settings ask s.durable.settings) _ _ (refl, omega arith) tt
start_counts address s ask ApplyingUpdate = split s (are_settings ask s.durable.settings) _ _ (refl, omega arith) tt
start_counts address s ask CancelingUpdate = split s (are_settings ask s.durable.settings) _ _ (refl, omega arith) tt
start_counts address s ask TransferSuspended = split s (are_settings ask s.durable.settings) _ _ (refl, omega arith) tt

pub suspend_counts : (s : DistState) (p : DistPhase) → Counts s (distribution_suspend s p)
suspend_counts s TransferActive = (refl, omega arith)
suspend_counts s TransferSuspended = (refl, omega arith)
suspend_counts s Idle = tt
suspend_counts s TransferSuccess = tt
suspend_counts s ApplyingUpdate = tt
suspend_counts s Completed = tt
suspend_counts s Failed = tt
suspend_counts s CancelingUpdate = tt

cancels_count : (s : DistState) (client : Option Client) → SameCount s (cancels s client)
cancels_count s None = (refl, omega arith)
cancels_count s (Some c) = (refl, omega arith)

pub cancel_counts : (s : DistState) (p : DistPhase) → Counts s (distribution_cancel s p)
cancel_counts s TransferActive = cancels_count s s.client
cancel_counts s TransferSuccess = cancels_count s s.client
cancel_counts s TransferSuspended = cancels_count s s.client
cancel_counts s Completed = (refl, omega arith)
cancel_counts s Failed = (refl, omega arith)
cancel_counts s ApplyingUpdate = tt
cancel_counts s Idle = (refl, omega arith)
cancel_counts s CancelingUpdate = (refl, omega arith)

applies_count : (s : DistState) (client : Option Client) → SameCount s (applies s client)
applies_count s None = (refl, omega arith)
applies_count s (Some c) = (refl, omega arith)

pub apply_counts : (s : DistState) (p : DistPhase) → Counts s (distribution_apply s p)
apply_counts s TransferSuccess = applies_count s s.client
apply_counts s ApplyingUpdate = (refl, omega arith)
apply_counts s Idle = tt
apply_counts s TransferActive = tt
apply_counts s Completed = tt
apply_counts s Failed = tt
apply_counts s CancelingUpdate = tt
apply_counts s TransferSuspended = tt

takes_counts : (s : DistState) (u : UploadStart) (meta : Meta) (banks : List ℕ) → Counts s (takes_in s u meta banks)
takes_counts s u meta [] = tt
takes_counts s u meta (bank ∷ others) = split s (nat_lt s.durable.capacity u.size) _ _ tt (refl, omega arith)

takes_or_counts : (s : DistState) (u : UploadStart) (meta : Meta) (upload : Upload) → Counts s (takes_or_resumes s u meta upload)
takes_or_counts s u meta (Broken (Some j)) = split s (same_upload_start u s.durable j) _ _ (refl, omega arith) (takes_counts s u meta (empty_banks s.durable.images None))
takes_or_counts s u meta (Broken None) = takes_counts s u meta (empty_banks s.durable.images None)
takes_or_counts s u meta NoUpload = takes_counts s u meta (empty_banks s.durable.images None)
takes_or_counts s u meta (Uploading j) = takes_counts s u meta (empty_banks s.durable.images None)
takes_or_counts s u meta Uploaded = takes_counts s u meta (empty_banks s.durable.images None)

offers_counts : (s : DistState) (u : UploadStart) (upload : Upload) (offer : Option Meta) → Counts s (offers s u upload offer)
offers_counts s u upload None = tt
offers_counts s u upload (Some meta) = split s (has_image s.durable.images meta) _ _ (refl, omega arith) (takes_or_counts s u meta upload)

pub upload_counts : (s : DistState) (u : UploadStart) (upload : Upload) → Counts s (upload_start s u upload)
upload_counts s u (Uploading j) = split s (same_upload_start u s.durable j) _ _ (refl, omega arith) tt
upload_counts s u NoUpload = split s (is_at_rest s.durable.phase) _ _ (offers_counts s u NoUpload (offered_meta u)) tt
upload_counts s u (Broken job) = split s (is_at_rest s.durable.phase) _ _ (offers_counts s u (Broken job) (offered_meta u)) tt
upload_counts s u Uploaded = split s (is_at_rest s.durable.phase) _ _ (offers_counts s u Uploaded (offered_meta u)) tt

pub firmware_counts : (s : DistState) (fwid : List ℕ) → Counts s (firmware_delete s fwid)
firmware_counts s fwid =
    split s (not (is_at_rest s.durable.phase)) _ _ tt
    (split s (is_in_upload (run_upload s)) _ _ tt (split s (is_none (index_of s.durable.images fwid)) _ _ tt (refl, omega arith)))

pub all_counts : (s : DistState) → Counts s (firmware_delete_all s)
all_counts s = split s (not (is_at_rest s.durable.phase)) _ _ tt (split s (is_in_upload (run_upload s)) _ _ tt (refl, omega arith))

-- ---- time

pub verified_counts : (s : DistState) (j : UploadJob) (b : Bool) → SameCount s (verified s j b)
verified_counts s j true = (refl, omega arith)
verified_counts s j false = (refl, omega arith)

pub broken_counts : (s : DistState) (link : Link) (upload : Upload) → SameCount s (broken_by link upload s)
broken_counts s Cut (Uploading j) = (refl, omega arith)
broken_counts s Cut NoUpload = (refl, omega arith)
broken_counts s Cut (Broken job) = (refl, omega arith)
broken_counts s Cut Uploaded = (refl, omega arith)
broken_counts s Ready upload = (refl, omega arith)
broken_counts s Running upload = (refl, omega arith)

either : (s : DistState) (b : Bool) (x y : DistState) → SameCount s x → SameCount s y → SameCount s (cond b x y)
either s true x y h k = h
either s false x y h k = k

going_counts : (address : ℕ) (s : DistState) (b : Bool) → SameCount s (goes_on_by address s b)
going_counts address s true = (refl, omega arith)
going_counts address s false = (refl, omega arith)

verifying_counts : (address : ℕ) (s : DistState) (c : Client) → SameCount s (has_verified address s c)
verifying_counts address s c =
    either s (not (has_phase s.durable.receivers (4 ∷ 6 ∷ 8 ∷ []))) _ _ (refl, omega arith)
    (going_counts address (in_phase s (cond (s.durable.settings.policy == 1) ApplyingUpdate TransferSuccess)) (list_any is_active c.receivers))

advanced_counts : (address : ℕ) (s : DistState) (c : Client) (p : DistPhase) (stage : Stage) → SameCount s (advanced address s c p stage)
advanced_counts address s c TransferActive Transfer = (refl, omega arith)
advanced_counts address s c TransferActive Verified = verifying_counts address s c
advanced_counts address s c TransferActive Applying = verifying_counts address s c
advanced_counts address s c TransferActive Canceling = verifying_counts address s c
advanced_counts address s c TransferActive Ended = verifying_counts address s c
advanced_counts address s c ApplyingUpdate Ended = (refl, omega arith)
advanced_counts address s c ApplyingUpdate Transfer = (refl, omega arith)
advanced_counts address s c ApplyingUpdate Verified = (refl, omega arith)
advanced_counts address s c ApplyingUpdate Applying = (refl, omega arith)
advanced_counts address s c ApplyingUpdate Canceling = (refl, omega arith)
advanced_counts address s c CancelingUpdate Ended = (refl, omega arith)
advanced_counts address s c CancelingUpdate Transfer = (refl, omega arith)
advanced_counts address s c CancelingUpdate Verified = (refl, omega arith)
advanced_counts address s c CancelingUpdate Applying = (refl, omega arith)
advanced_counts address s c CancelingUpdate Canceling = (refl, omega arith)
advanced_counts address s c Idle stage = (refl, omega arith)
advanced_counts address s c TransferSuccess stage = (refl, omega arith)
advanced_counts address s c Completed stage = (refl, omega arith)
advanced_counts address s c Failed stage = (refl, omega arith)
advanced_counts address s c TransferSuspended stage = (refl, omega arith)

pub turn_counts : (address : ℕ) (s : DistState) (c : Client) → SameCount s (after_turn address s c)
turn_counts address s c = advanced_counts address (with_client s c) c s.durable.phase (stage_of c)
