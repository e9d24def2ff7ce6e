-- The first rule that holds, request by request.
use Rattle.std.proofs.Common.{◌≡◌, ◌+◌, ℕ, zero, suc, Bool, true, false, List, [], ◌∷◌, ◌++◌, length, map, refl, sym, ap, subst, ◌∙◌, cond, Option, Some, None, Result, Ok, Err, arith}
use Rattle.std.specs.Prelude.{◌==◌, not, nat_lt, nat_le, is_none, is_some, ◌&&◌, ◌||◌, bytes_eq, slice_get}
use Rattle.std.specs.List.{list_any}
use Rattle.std.proofs.lemmas.Bool.Decides.{nat_tests}
use Rattle.mu_model_image.specs.declared.Meta.{Meta}
use Rattle.mu_model_image.specs.Meta.{meta_from, firmware_id}
use Rattle.mu_model_distributor.specs.declared.Settings.{Settings}
use Rattle.mu_model_distributor.specs.declared.DistPhase.{DistPhase}
use Rattle.mu_model_distributor.specs.declared.DistPhase.TheVariants.{Idle, TransferActive, TransferSuccess, ApplyingUpdate, Completed, Failed, CancelingUpdate, TransferSuspended}
use Rattle.mu_model_distributor.specs.Requests.{Entry, UploadStart, DistRequest, ReceiversAdd, ReceiversDeleteAll, ReceiversGet, CapabilitiesGet, DistributionGet, DistributionStart, DistributionSuspend, DistributionCancel, DistributionApply, UploadGet, StartUpload, StartUploadOob, UploadCancel, FirmwareGet, FirmwareGetByIndex, FirmwareDelete, FirmwareDeleteAll}
use Rattle.mu_model_distributor.specs.Replies.{DistReply}
use Rattle.mu_model_distributor.specs.DistState.{StoredImage, Receiver, UploadJob, Upload, NoUpload, Uploading, Broken, Uploaded, DistState, run_upload, job_of, upload_number, dist_number, is_at_rest as at_rest}
use Rattle.mu_model_distributor.specs.Commit.{answered, tells}
use Rattle.mu_model_distributor.specs.Receivers.{added, new_receiver, has_address, empty_banks, is_stored_in, receivers_add, receivers_status, receivers_delete_all, is_idle}
use Rattle.mu_model_distributor.specs.Distribution.{begins, is_uploading, are_settings, distribution_status, distribution_start, distribution_suspend, distribution_cancel, distribution_apply}
use Rattle.mu_model_distributor.specs.Uploads.{own_id, has_image, agreed, offered_meta, takes, takes_in, takes_or_resumes, offers, upload_status, upload_start, upload_cancel, same_upload_start}
use Rattle.mu_model_distributor.specs.Firmware.{has_id, index_from, index_of, firmware_found, firmware_at, no_index, firmware_status, firmware_delete, firmware_delete_all, is_in_upload}
use Rattle.mu_model_distributor.specs.DistTable.{on_request}
use Rattle.mu_model_distributor_rules.specs.Rules.{Rule, first_status, phase_of, upload_phase_of, is_known, new_ones, receivers_after, are_its_settings, lacks_image, has_firmware, agrees, are_its_fields, is_stored, holds_image, is_full, delete_rules, rules_of, status_of, IsAnsweredBy}

-- ---- what is answered

abbrev status_in : Result DistState ℕ → ℕ
status_in (Ok t) = 0
status_in (Err status) = status

-- a reply that has this status whatever is shown with it
abbrev Shows : (ℕ → DistState → DistReply) → Type 0
Shows show = (n : ℕ) (u : DistState) → status_of (show n u) ≡ Some n

some_inj : {a b : ℕ} → Some a ≡ Some b → b ≡ a
some_inj e = cc

answered_by : (s : DistState) (to : ℕ) (show : ℕ → DistState → DistReply) → Shows show → (r : Result DistState ℕ) (n : ℕ) → status_in r ≡ n → IsAnsweredBy s to n (answered s to show r)
answered_by s to show shows (Ok t) n e = record { told = (_, refl, λ m h. some_inj (sym (shows 0 _) ∙ h) ∙ e); refused = λ no. absurd (no (sym e)) }
answered_by s to show shows (Err status) n e = record { told = (_, refl, λ m h. some_inj (sym (shows status s) ∙ h) ∙ e); refused = λ no. refl }

told_by : (s : DistState) (to : ℕ) (reply : DistReply) (n : ℕ) → ((m : ℕ) → status_of reply ≡ Some m → m ≡ n) → IsAnsweredBy s to n (tells s to reply)
told_by s to reply n e = record { told = (reply, refl, e); refused = λ no. refl }

-- ---- receivers

known_there : (receivers : List Receiver) (a : ℕ) → has_address receivers a ≡ is_known (map (λ (r : Receiver). r.address) receivers) a
known_there [] a = refl
known_there (r ∷ receivers) a = let h : has_address receivers a ≡ is_known (map (λ (r : Receiver). r.address) receivers) a = known_there receivers a in rw h refl

map_more : (receivers : List Receiver) (e : Entry) → map (λ (r : Receiver). r.address) (receivers ++ new_receiver e ∷ []) ≡ map (λ (r : Receiver). r.address) receivers ++ e.address ∷ []
map_more [] e = refl
map_more (r ∷ receivers) e = ap (λ xs. r.address ∷ xs) (map_more receivers e)

one_more : (receivers : List Receiver) (e : Entry) → length (receivers ++ new_receiver e ∷ []) ≡ length receivers + 1
one_more [] e = refl
one_more (r ∷ receivers) e = let h : length (receivers ++ new_receiver e ∷ []) ≡ length receivers + 1 = one_more receivers e in omega (arith, h)

abbrev addresses : List Receiver → List ℕ
addresses receivers = map (λ (r : Receiver). r.address) receivers

abbrev asked : List Entry → List ℕ
asked entries = map (λ (e : Entry). e.address) entries

abbrev CountAdded : List Receiver → List Entry → Type 0
CountAdded receivers entries = length (added receivers entries) ≡ length receivers + new_ones (addresses receivers) (asked entries)

count_known : (receivers : List Receiver) (e : Entry) (entries : List Entry) (b : Bool) → has_address receivers e.address ≡ b
    → CountAdded receivers entries → CountAdded (receivers ++ new_receiver e ∷ []) entries → CountAdded receivers (e ∷ entries)
count_known receivers e entries true h same more =
    let k : is_known (addresses receivers) e.address ≡ true = sym (known_there receivers e.address) ∙ h in
    rw (h, k) same
count_known receivers e entries false h same more =
    let k : is_known (addresses receivers) e.address ≡ false = sym (known_there receivers e.address) ∙ h in
    let n : length (receivers ++ new_receiver e ∷ []) ≡ length receivers + 1 = one_more receivers e in
    let there : length (added (receivers ++ new_receiver e ∷ []) entries) ≡ length (receivers ++ new_receiver e ∷ []) + new_ones (addresses receivers ++ e.address ∷ []) (asked entries) =
    subst (λ xs. length (added (receivers ++ new_receiver e ∷ []) entries) ≡ length (receivers ++ new_receiver e ∷ []) + new_ones xs (asked entries)) (map_more receivers e) more in
    rw (h, k) (omega (arith, n, there))

count_added : (receivers : List Receiver) (entries : List Entry) → CountAdded receivers entries
count_added receivers [] = omega arith
count_added receivers (e ∷ entries) =
    count_known receivers e entries (has_address receivers e.address) refl (count_added receivers entries) (count_added (receivers ++ new_receiver e ∷ []) entries)

room_by : (b : Bool) (t : DistState) → status_in (cond b (Err 1) (Ok t)) ≡ cond b 1 0
room_by true t = refl
room_by false t = refl

add_by : (s : DistState) (entries : List Entry) (b : Bool) (t : DistState)
    → status_in (cond b (Err 7) (cond (nat_lt 128 (length (added s.durable.receivers entries))) (Err 1) (Ok t))) ≡ first_status ((b, 7) ∷ (nat_lt 128 (receivers_after s entries), 1) ∷ [])
add_by s entries true t = refl
add_by s entries false t =
    let e : length (added s.durable.receivers entries) ≡ receivers_after s entries = count_added s.durable.receivers entries in
    rw e (room_by (nat_lt 128 (receivers_after s entries)) t)

idle_by : (p : DistPhase) → not (is_idle p) ≡ not (dist_number p == 0)
idle_by Idle = refl
idle_by TransferActive = refl
idle_by TransferSuccess = refl
idle_by ApplyingUpdate = refl
idle_by Completed = refl
idle_by Failed = refl
idle_by CancelingUpdate = refl
idle_by TransferSuspended = refl

adds : (s : DistState) (entries : List Entry) → status_in (receivers_add s entries) ≡ first_status (rules_of s (ReceiversAdd entries))
adds s entries = let e : not (dist_number s.durable.phase == 0) ≡ not (is_idle s.durable.phase) = sym (idle_by s.durable.phase) in rw e (add_by s entries (not (is_idle s.durable.phase)) _)

deletes : (s : DistState) (p : DistPhase) → s.durable.phase ≡ p → status_in (receivers_delete_all s) ≡ first_status (rules_of s ReceiversDeleteAll)
deletes s Idle e = rw e refl
deletes s TransferActive e = rw e refl
deletes s TransferSuccess e = rw e refl
deletes s ApplyingUpdate e = rw e refl
deletes s Completed e = rw e refl
deletes s Failed e = rw e refl
deletes s CancelingUpdate e = rw e refl
deletes s TransferSuspended e = rw e refl

-- ---- a distribution

abbrev rests_in : DistPhase → Bool
rests_in p = (dist_number p == 0) || (dist_number p == 4) || (dist_number p == 5)

rest_by : (p : DistPhase) → at_rest p ≡ rests_in p
rest_by Idle = refl
rest_by TransferActive = refl
rest_by TransferSuccess = refl
rest_by ApplyingUpdate = refl
rest_by Completed = refl
rest_by Failed = refl
rest_by CancelingUpdate = refl
rest_by TransferSuspended = refl

uploading_by : (u : Upload) → (upload_number u == 1) ≡ is_uploading u
uploading_by NoUpload = refl
uploading_by (Uploading j) = refl
uploading_by (Broken job) = refl
uploading_by Uploaded = refl

four_refusals : (a b c d : Bool) (t : DistState)
    → status_in (cond a (Err 8) (cond b (Err 4) (cond c (Err 6) (cond d (Err 1) (Ok t))))) ≡ cond a 8 (cond b 4 (cond c 6 (cond d 1 0)))
four_refusals true b c d t = refl
four_refusals false true c d t = refl
four_refusals false false true d t = refl
four_refusals false false false true t = refl
four_refusals false false false false t = refl

equal_or : (b : Bool) (n : ℕ) (t : DistState) → status_in (cond b (Ok t) (Err n)) ≡ cond b 0 n
equal_or true n t = refl
equal_or false n t = refl

begins_by : (address : ℕ) (s : DistState) (ask : Option Settings)
    → status_in (begins address s ask)
    ≡ cond (is_none ask) 1 (cond (upload_phase_of s == 1) 8 (cond (lacks_image ask s) 4 (cond (length s.durable.receivers == 0) 6 (cond (s.durable.counter == 281474976710655) 1 0))))
begins_by address s None = refl
begins_by address s (Some ask) =
    let e : (upload_phase_of s == 1) ≡ is_uploading (run_upload s) = uploading_by (run_upload s) in
    rw e (four_refusals (is_uploading (run_upload s)) (nat_le (length s.durable.images) ask.image) (length s.durable.receivers == 0) (s.durable.counter == 281474976710655) _)

settings_by : (s : DistState) (ask : Option Settings) (n : ℕ) (t : DistState) → status_in (cond (are_settings ask s.durable.settings) (Ok t) (Err n)) ≡ cond (are_its_settings ask s) 0 n
settings_by s None n t = refl
settings_by s (Some ask) n t = equal_or (are_settings (Some ask) s.durable.settings) n t

abbrev start_rules_in : DistState → Option Settings → DistPhase → List Rule
start_rules_in s ask p =
    (rests_in p && is_none ask, 1)
    ∷ (rests_in p && (upload_phase_of s == 1), 8)
    ∷ (rests_in p && lacks_image ask s, 4)
    ∷ (rests_in p && (length s.durable.receivers == 0), 6)
    ∷ (rests_in p && (s.durable.counter == 281474976710655), 1)
    ∷ (rests_in p, 0)
    ∷ (are_its_settings ask s, 0)
    ∷ (dist_number p == 7, 2)
    ∷ (true, 7)
    ∷ []

starts : (address : ℕ) (s : DistState) (ask : Option Settings) (p : DistPhase) → status_in (distribution_start address s ask p) ≡ first_status (start_rules_in s ask p)
starts address s ask Idle = begins_by address s ask
starts address s ask Completed = begins_by address s ask
starts address s ask Failed = begins_by address s ask
starts address s ask TransferSuspended = settings_by s ask 2 _
starts address s ask TransferActive = settings_by s ask 7 s
starts address s ask TransferSuccess = settings_by s ask 7 s
starts address s ask ApplyingUpdate = settings_by s ask 7 s
starts address s ask CancelingUpdate = settings_by s ask 7 s

suspends : (s : DistState) (p : DistPhase) → s.durable.phase ≡ p → status_in (distribution_suspend s p) ≡ first_status (rules_of s DistributionSuspend)
suspends s Idle e = rw e refl
suspends s TransferActive e = rw e refl
suspends s TransferSuccess e = rw e refl
suspends s ApplyingUpdate e = rw e refl
suspends s Completed e = rw e refl
suspends s Failed e = rw e refl
suspends s CancelingUpdate e = rw e refl
suspends s TransferSuspended e = rw e refl

cancels : (s : DistState) (p : DistPhase) → s.durable.phase ≡ p → status_in (distribution_cancel s p) ≡ first_status (rules_of s DistributionCancel)
cancels s Idle e = rw e refl
cancels s TransferActive e = rw e refl
cancels s TransferSuccess e = rw e refl
cancels s ApplyingUpdate e = rw e refl
cancels s Completed e = rw e refl
cancels s Failed e = rw e refl
cancels s CancelingUpdate e = rw e refl
cancels s TransferSuspended e = rw e refl

applies : (s : DistState) (p : DistPhase) → s.durable.phase ≡ p → status_in (distribution_apply s p) ≡ first_status (rules_of s DistributionApply)
applies s Idle e = rw e refl
applies s TransferActive e = rw e refl
applies s TransferSuccess e = rw e refl
applies s ApplyingUpdate e = rw e refl
applies s Completed e = rw e refl
applies s Failed e = rw e refl
applies s CancelingUpdate e = rw e refl
applies s TransferSuspended e = rw e refl

-- ---- an upload

abbrev is_nil : List ℕ → Bool
is_nil [] = true
is_nil (bank ∷ banks) = false

abbrev kept : Bool → ℕ → List ℕ → List ℕ
kept b bank banks = cond b (bank ∷ banks) banks

nil_by : (b : Bool) (bank : ℕ) (banks : List ℕ) → is_nil (kept b bank banks) ≡ (not b && is_nil banks)
nil_by true bank banks = refl
nil_by false bank banks = refl

four_banks : (a b c d : Bool) → (not (not (a || false)) && (not (not (b || false)) && (not (not (c || false)) && (not (not (d || false)) && true)))) ≡ (a && b && c && d)
four_banks false b c d = refl
four_banks true false c d = refl
four_banks true true false d = refl
four_banks true true true false = refl
four_banks true true true true = refl

abbrev lacks : List StoredImage → ℕ → Bool
lacks images bank = not (is_stored_in images bank || false)

full_by : (images : List StoredImage) → is_nil (empty_banks images None) ≡ (holds_image images 0 && holds_image images 1 && holds_image images 2 && holds_image images 3)
full_by images =
    nil_by (lacks images 0) 0 (kept (lacks images 1) 1 (kept (lacks images 2) 2 (kept (lacks images 3) 3 [])))
    ∙ (ap (λ b. not (lacks images 0) && b) (nil_by (lacks images 1) 1 (kept (lacks images 2) 2 (kept (lacks images 3) 3 [])))
    ∙ (ap (λ b. not (lacks images 0) && (not (lacks images 1) && b)) (nil_by (lacks images 2) 2 (kept (lacks images 3) 3 []))
    ∙ (ap (λ b. not (lacks images 0) && (not (lacks images 1) && (not (lacks images 2) && b))) (nil_by (lacks images 3) 3 [])
    ∙ four_banks (is_stored_in images 0) (is_stored_in images 1) (is_stored_in images 2) (is_stored_in images 3))))

room_for : (s : DistState) (u : UploadStart) (meta : Meta) (banks : List ℕ) (b : Bool) → nat_lt s.durable.capacity u.size ≡ b
    → status_in (takes_in s u meta banks) ≡ cond b 1 (cond (is_nil banks) 1 0)
room_for s u meta [] true e = refl
room_for s u meta [] false e = refl
room_for s u meta (bank ∷ banks) true e = rw e refl
room_for s u meta (bank ∷ banks) false e = rw e refl

takes_by : (s : DistState) (u : UploadStart) (meta : Meta) → status_in (takes s u meta) ≡ cond (nat_lt s.durable.capacity u.size) 1 (cond (is_full s) 1 0)
takes_by s u meta =
    room_for s u meta (empty_banks s.durable.images None) (nat_lt s.durable.capacity u.size) refl
    ∙ ap (λ b. cond (nat_lt s.durable.capacity u.size) 1 (cond b 1 0)) (full_by s.durable.images)

abbrev none_left : DistState → UploadStart → ℕ
none_left s u = cond (nat_lt s.durable.capacity u.size) 1 (cond (is_full s) 1 0)

-- of an upload that isn't active, at rest
abbrev broken_first : DistState → UploadStart → Upload → ℕ
broken_first s u r = cond ((upload_number r == 2) && are_its_fields u s (job_of r)) 0 (none_left s u)

goes_on : (s : DistState) (u : UploadStart) (meta : Meta) (j : UploadJob) (b : Bool) → same_upload_start u s.durable j ≡ b
    → status_in (takes_or_resumes s u meta (Broken (Some j))) ≡ cond b 0 (none_left s u)
goes_on s u meta j true e = rw e refl
goes_on s u meta j false e = rw e (takes_by s u meta)

abbrev IsNotActive : Upload → Type 0
IsNotActive (Uploading j) = ⊥
IsNotActive _ = Unit {0}

resumes_by : (s : DistState) (u : UploadStart) (meta : Meta) (r : Upload) → IsNotActive r → status_in (takes_or_resumes s u meta r) ≡ broken_first s u r
resumes_by s u meta NoUpload h = takes_by s u meta
resumes_by s u meta (Uploading j) h = absurd h
resumes_by s u meta (Broken None) h = takes_by s u meta
resumes_by s u meta (Broken (Some j)) h = goes_on s u meta j (same_upload_start u s.durable j) refl
resumes_by s u meta Uploaded h = takes_by s u meta

abbrev after_metadata : DistState → UploadStart → Upload → Option Meta → ℕ
after_metadata s u r m = cond (not (agrees u m)) 3 (cond (is_stored s m) 0 (broken_first s u r))

stored_by : (s : DistState) (u : UploadStart) (meta : Meta) (r : Upload) → IsNotActive r → (b : Bool) → has_image s.durable.images meta ≡ b
    → status_in (offers s u r (Some meta)) ≡ cond b 0 (broken_first s u r)
stored_by s u meta r h true e = rw e refl
stored_by s u meta r h false e = rw e (resumes_by s u meta r h)

agreed_by : (s : DistState) (u : UploadStart) (meta : Meta) (r : Upload) → IsNotActive r → (b : Bool) → ((u.size == meta.size) && bytes_eq u.fwid (own_id meta)) ≡ b
    → status_in (offers s u r (agreed u (Some meta))) ≡ cond (not b) 3 (cond (is_stored s (Some meta)) 0 (broken_first s u r))
agreed_by s u meta r h true e = rw e (stored_by s u meta r h (has_image s.durable.images meta) refl)
agreed_by s u meta r h false e = rw e refl

offers_by : (s : DistState) (u : UploadStart) (r : Upload) → IsNotActive r → (m : Option Meta) → status_in (offers s u r (agreed u m)) ≡ after_metadata s u r m
offers_by s u r h None = refl
offers_by s u r h (Some meta) = agreed_by s u meta r h ((u.size == meta.size) && bytes_eq u.fwid (own_id meta)) refl

rested : (s : DistState) (u : UploadStart) (r : Upload) → IsNotActive r → (b : Bool)
    → status_in (cond b (offers s u r (offered_meta u)) (Err 7)) ≡ cond (not b) 7 (after_metadata s u r (meta_from u.metadata))
rested s u r h true = offers_by s u r h (meta_from u.metadata)
rested s u r h false = refl

abbrev upload_rules_at : DistState → UploadStart → Upload → Bool → List Rule
upload_rules_at s u r b =
    ((upload_number r == 1) && are_its_fields u s (job_of r), 0)
    ∷ (upload_number r == 1, 8)
    ∷ (not b, 7)
    ∷ (not (agrees u (meta_from u.metadata)), 3)
    ∷ (is_stored s (meta_from u.metadata), 0)
    ∷ ((upload_number r == 2) && are_its_fields u s (job_of r), 0)
    ∷ (nat_lt s.durable.capacity u.size, 1)
    ∷ (is_full s, 1)
    ∷ (true, 0)
    ∷ []

uploads_at : (s : DistState) (u : UploadStart) (r : Upload) → status_in (upload_start s u r) ≡ first_status (upload_rules_at s u r (at_rest s.durable.phase))
uploads_at s u NoUpload = rested s u NoUpload tt (at_rest s.durable.phase)
uploads_at s u (Uploading j) = equal_or (same_upload_start u s.durable j) 8 s
uploads_at s u (Broken job) = rested s u (Broken job) tt (at_rest s.durable.phase)
uploads_at s u Uploaded = rested s u Uploaded tt (at_rest s.durable.phase)

uploads : (s : DistState) (u : UploadStart) → status_in (upload_start s u (run_upload s)) ≡ first_status (rules_of s (StartUpload u))
uploads s u = subst (λ b. status_in (upload_start s u (run_upload s)) ≡ first_status (upload_rules_at s u (run_upload s) b)) (rest_by s.durable.phase) (uploads_at s u (run_upload s))

-- ---- images

some_by : (b : Bool) (n : ℕ) (o : Option ℕ) → is_some (cond b (Some n) o) ≡ (b || is_some o)
some_by true n o = refl
some_by false n o = refl

some_index : (n : ℕ) (images : List StoredImage) (fwid : List ℕ) → is_some (index_from n images fwid) ≡ list_any (λ (x : StoredImage). bytes_eq (firmware_id 0xFFFF x.image.meta) fwid) images
some_index n [] fwid = refl
some_index n (x ∷ images) fwid =
    let e : is_some (index_from (n + 1) images fwid) ≡ list_any (λ (x : StoredImage). bytes_eq (firmware_id 0xFFFF x.image.meta) fwid) images = some_index (n + 1) images fwid in
    some_by (has_id fwid x) n (index_from (n + 1) images fwid) ∙ ap (λ b. has_id fwid x || b) e

found_by : (s : DistState) (fwid : List ℕ) (o : Option ℕ) (m : ℕ) → status_of (firmware_found fwid o s) ≡ Some m → m ≡ cond (is_some o) 0 4
found_by s fwid None m e = some_inj e
found_by s fwid (Some n) m e = some_inj e

at_by : (s : DistState) (index : ℕ) (o : Option StoredImage) (m : ℕ) → status_of (firmware_at index o s) ≡ Some m → m ≡ cond (is_some o) 0 4
at_by s index None m e = some_inj e
at_by s index (Some x) m e = some_inj e

there_by : (images : List StoredImage) (index : ℕ) → is_some (slice_get images index) ≡ nat_lt index (length images)
there_by [] index = let e : nat_lt index 0 ≡ false = grind (arith, nat_tests) in sym e
there_by (x ∷ images) zero = let e : nat_lt 0 (length (x ∷ images)) ≡ true = grind (arith, nat_tests) in sym e
there_by (x ∷ images) (suc index) =
    let h : is_some (slice_get images index) ≡ nat_lt index (length images) = there_by images index in
    let e : nat_lt (suc index) (length (x ∷ images)) ≡ nat_lt index (length images) = grind (arith, nat_tests) in
    h ∙ sym e

none_by : (o : Option ℕ) → is_none o ≡ not (is_some o)
none_by None = refl
none_by (Some n) = refl

in_upload_by : (u : Upload) → is_in_upload u ≡ ((upload_number u == 1) || (upload_number u == 2))
in_upload_by NoUpload = refl
in_upload_by (Uploading j) = refl
in_upload_by (Broken job) = refl
in_upload_by Uploaded = refl

three_refusals : (a b c : Bool) (t : DistState) → status_in (cond a (Err 7) (cond b (Err 8) (cond c (Err 4) (Ok t)))) ≡ cond a 7 (cond b 8 (cond c 4 0))
three_refusals true b c t = refl
three_refusals false true c t = refl
three_refusals false false true t = refl
three_refusals false false false t = refl

images_go : (s : DistState) (c : Bool) (t : DistState)
    → status_in (cond (not (at_rest s.durable.phase)) (Err 7) (cond (is_in_upload (run_upload s)) (Err 8) (cond c (Err 4) (Ok t)))) ≡ first_status (delete_rules s ((c, 4) ∷ []))
images_go s c t =
    three_refusals (not (at_rest s.durable.phase)) (is_in_upload (run_upload s)) c t
    ∙ (ap (λ b. cond (not b) 7 (cond (is_in_upload (run_upload s)) 8 (cond c 4 0))) (rest_by s.durable.phase)
    ∙ ap (λ b. cond (not ((phase_of s == 0) || (phase_of s == 4) || (phase_of s == 5))) 7 (cond b 8 (cond c 4 0))) (in_upload_by (run_upload s)))

missing_by : (s : DistState) (fwid : List ℕ) → is_none (index_of s.durable.images fwid) ≡ not (has_firmware s fwid)
missing_by s fwid = none_by (index_of s.durable.images fwid) ∙ ap not (some_index 0 s.durable.images fwid)

goes : (s : DistState) (fwid : List ℕ) → status_in (firmware_delete s fwid) ≡ first_status (rules_of s (FirmwareDelete fwid))
goes s fwid =
    images_go s (is_none (index_of s.durable.images fwid)) _
    ∙ ap (λ c. first_status (delete_rules s ((c, 4) ∷ []))) (missing_by s fwid)

all_go : (s : DistState) → status_in (firmware_delete_all s) ≡ first_status (rules_of s FirmwareDeleteAll)
all_go s = images_go s false _

-- ---- every request

pub answers : (address to : ℕ) (s : DistState) (request : DistRequest) → IsAnsweredBy s to (first_status (rules_of s request)) (on_request address s to request)
answers address to s (ReceiversAdd entries) = answered_by s to receivers_status (λ n u. refl) (receivers_add s entries) _ (adds s entries)
answers address to s ReceiversDeleteAll = answered_by s to receivers_status (λ n u. refl) (receivers_delete_all s) _ (deletes s s.durable.phase refl)
answers address to s (ReceiversGet first limit) = told_by s to _ _ (λ m e. cc)
answers address to s CapabilitiesGet = told_by s to _ _ (λ m e. cc)
answers address to s DistributionGet = told_by s to _ _ (λ m e. some_inj e)
answers address to s (DistributionStart ask) = answered_by s to distribution_status (λ n u. refl) (distribution_start address s ask s.durable.phase) _ (starts address s ask s.durable.phase)
answers address to s DistributionSuspend = answered_by s to distribution_status (λ n u. refl) (distribution_suspend s s.durable.phase) _ (suspends s s.durable.phase refl)
answers address to s DistributionCancel = answered_by s to distribution_status (λ n u. refl) (distribution_cancel s s.durable.phase) _ (cancels s s.durable.phase refl)
answers address to s DistributionApply = answered_by s to distribution_status (λ n u. refl) (distribution_apply s s.durable.phase) _ (applies s s.durable.phase refl)
answers address to s UploadGet = told_by s to _ _ (λ m e. some_inj e)
answers address to s (StartUpload u) = answered_by s to upload_status (λ n u. refl) (upload_start s u (run_upload s)) _ (uploads s u)
answers address to s StartUploadOob = told_by s to _ _ (λ m e. some_inj e)
answers address to s UploadCancel = answered_by s to upload_status (λ n u. refl) (Ok (upload_cancel s)) _ refl
answers address to s (FirmwareGet fwid) = told_by s to _ _ (λ m e. found_by s fwid (index_of s.durable.images fwid) m e ∙ ap (λ b. cond b 0 4) (some_index 0 s.durable.images fwid))
answers address to s (FirmwareGetByIndex index) = told_by s to _ _ (λ m e. at_by s index (slice_get s.durable.images index) m e ∙ ap (λ b. cond b 0 4) (there_by s.durable.images index))
answers address to s (FirmwareDelete fwid) = answered_by s to (firmware_status no_index (Some fwid)) (λ n u. refl) (firmware_delete s fwid) _ (goes s fwid)
answers address to s FirmwareDeleteAll = answered_by s to (firmware_status no_index None) (λ n u. refl) (firmware_delete_all s) _ (all_go s)
