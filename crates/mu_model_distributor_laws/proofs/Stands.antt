-- While a distribution goes on, what is offered stands.
use Rattle.std.proofs.Common.{◌≡◌, ℕ, Bool, true, false, List, [], ◌∷◌, length, map, refl, sym, ap, subst, ◌∙◌, cond, Option, Some, None, Result, Ok, Err}
use Rattle.std.specs.Prelude.{⊤, ◌==◌, not, nat_lt, is_none}
use Rattle.std.specs.List.{filter}
use Rattle.mu_model_image.specs.declared.Meta.{Meta}
use Rattle.mu_model_node.specs.BlobServer.{Session, Change, Same, Begins, Drops, Puts}
use Rattle.mu_model_node.specs.BlobTable.{Served, on_blob, on_server_time}
use Rattle.mu_model_node.specs.Events.{NodeEvent, PacketComes, TimeComes}
use Rattle.mu_model_client.specs.Answers.{Answer}
use Rattle.mu_model_client.specs.Client.{Client}
use Rattle.mu_model_client.specs.Begin.{stage_of}
use Rattle.mu_model_client.specs.Told.{told}
use Rattle.mu_model_client.specs.Due.{due}
use Rattle.mu_model_distributor.specs.declared.Settings.{Settings}
use Rattle.mu_model_distributor.specs.declared.DistPhase.{DistPhase}
use Rattle.mu_model_distributor.specs.declared.DistPhase.TheVariants.{Idle, TransferActive, TransferSuccess, ApplyingUpdate, Completed, Failed, CancelingUpdate, TransferSuspended}
use Rattle.mu_model_distributor.specs.Requests.{Entry, UploadStart, DistRequest, ReceiversAdd, ReceiversDeleteAll, ReceiversGet, CapabilitiesGet, DistributionGet, DistributionStart, DistributionSuspend, DistributionCancel, DistributionApply, UploadGet, StartUpload, StartUploadOob, UploadCancel, FirmwareGet, FirmwareGetByIndex, FirmwareDelete, FirmwareDeleteAll}
use Rattle.mu_model_distributor.specs.Replies.{DistReply}
use Rattle.mu_model_distributor.specs.DistMessages.{Taken, OfDistribution, OfBlob, OfReceiver, taken_at, Sent}
use Rattle.mu_model_distributor.specs.DistState.{StoredImage, Upload, NoUpload, Uploading, Broken, Uploaded, run_upload, DistState, is_at_rest, server_of, offered}
use Rattle.mu_model_distributor.specs.Commit.{committed, ends, answered}
use Rattle.mu_model_distributor.specs.Receivers.{added, is_idle, empty_banks, receivers_status, receivers_add, receivers_delete_all}
use Rattle.mu_model_distributor.specs.Distribution.{with_client, are_settings, distribution_status, distribution_start, distribution_suspend, cancels, distribution_cancel, applies, distribution_apply}
use Rattle.mu_model_distributor.specs.Uploads.{with_session, offered_meta, same_upload_start, has_image, takes_in, takes_or_resumes, offers, upload_status, upload_start, upload_cancel}
use Rattle.mu_model_distributor.specs.Firmware.{has_id, index_of, with_images, is_in_upload, no_index, firmware_status, firmware_delete, firmware_delete_all}
use Rattle.mu_model_distributor.specs.DistTable.{by_blob, on_request, blob_changed, hears, on_taken}
use Rattle.mu_model_distributor.specs.DistTime.{server_waits, after_turn, octets_of, has_turns, client_turns, client_waits, waits, on_time}
use Rattle.mu_model_distributor.specs.DistEvents.{passed_over, at_moment, on_packet, on_event}
use Rattle.mu_model_distributor.specs.Sound.{HasUpload, IsDistState}
use Rattle.mu_model_distributor_laws.specs.RowsTold.{OffersStand}
use Rattle.mu_model_distributor_laws.proofs.Offered.{SameOffer, then_offer, Goes, committed_goes, broken_goes, advanced_goes}
use Rattle.mu_model_distributor_laws.proofs.Times.{run_is}
use Rattle.mu_model_distributor_laws.proofs.Steps.{moved}

abbrev Stands : DistState → Result DistState ℕ → Type 0
Stands s (Ok t) = SameOffer s.durable t.durable
Stands s (Err status) = ⊤

split : (s : DistState) (b : Bool) (x y : Result DistState ℕ) → Stands s x → Stands s y → Stands s (cond b x y)
split s true x y h k = h
split s false x y h k = k

committed_stands : (s t : DistState) → SameOffer s.durable t.durable → SameOffer s.durable (committed s t).durable
committed_stands s t h = then_offer s.durable t.durable (committed s t).durable h (committed_goes s t).0

led : (s : DistState) (to : ℕ) (show : ℕ → DistState → DistReply) (r : Result DistState ℕ) → Stands s r → SameOffer s.durable (answered s to show r).next.durable
led s to show (Ok t) h = committed_stands s t h
led s to show (Err status) h = (refl, refl, refl)

busy_not : (p q : DistPhase) → p ≡ q → is_at_rest q ≡ true → is_at_rest p ≡ false → ⊥
busy_not p q e rest busy = let never : true ≡ false = sym rest ∙ (ap is_at_rest (sym e) ∙ busy) in cc

start_stands : (address : ℕ) (s : DistState) (ask : Option Settings) (p : DistPhase) → s.durable.phase ≡ p → is_at_rest s.durable.phase ≡ false → Stands s (distribution_start address s ask p)
start_stands address s ask Idle e busy = absurd (busy_not s.durable.phase Idle e refl busy)
start_stands address s ask Completed e busy = absurd (busy_not s.durable.phase Completed e refl busy)
start_stands address s ask Failed e busy = absurd (busy_not s.durable.phase Failed e refl busy)
start_stands address s ask TransferActive e busy = split s (are_settings ask s.durable.settings) _ _ (refl, refl, refl) tt
start_stands address s ask TransferSuccess e busy = split s (are_settings ask s.durable.settings) _ _ (refl, refl, refl) tt
start_stands address s ask ApplyingUpdate e busy = split s (are_settings ask s.durable.settings) _ _ (refl, refl, refl) tt
start_stands address s ask CancelingUpdate e busy = split s (are_settings ask s.durable.settings) _ _ (refl, refl, refl) tt
start_stands address s ask TransferSuspended e busy = split s (are_settings ask s.durable.settings) _ _ (refl, refl, refl) tt

suspend_stands : (s : DistState) (p : DistPhase) → Stands s (distribution_suspend s p)
suspend_stands s TransferActive = (refl, refl, refl)
suspend_stands s TransferSuspended = (refl, refl, refl)
suspend_stands s Idle = tt
suspend_stands s TransferSuccess = tt
suspend_stands s ApplyingUpdate = tt
suspend_stands s Completed = tt
suspend_stands s Failed = tt
suspend_stands s CancelingUpdate = tt

cancels_stand : (s : DistState) (client : Option Client) → SameOffer s.durable (cancels s client).durable
cancels_stand s None = (refl, refl, refl)
cancels_stand s (Some c) = (refl, refl, refl)

cancel_stands : (s : DistState) (p : DistPhase) → Stands s (distribution_cancel s p)
cancel_stands s TransferActive = cancels_stand s s.client
cancel_stands s TransferSuccess = cancels_stand s s.client
cancel_stands s TransferSuspended = cancels_stand s s.client
cancel_stands s Completed = (refl, refl, refl)
cancel_stands s Failed = (refl, refl, refl)
cancel_stands s ApplyingUpdate = tt
cancel_stands s Idle = (refl, refl, refl)
cancel_stands s CancelingUpdate = (refl, refl, refl)

applies_stand : (s : DistState) (client : Option Client) → SameOffer s.durable (applies s client).durable
applies_stand s None = (refl, refl, refl)
applies_stand s (Some c) = (refl, refl, refl)

apply_stands : (s : DistState) (p : DistPhase) → Stands s (distribution_apply s p)
apply_stands s TransferSuccess = applies_stand s s.client
apply_stands s ApplyingUpdate = (refl, refl, refl)
apply_stands s Idle = tt
apply_stands s TransferActive = tt
apply_stands s Completed = tt
apply_stands s Failed = tt
apply_stands s CancelingUpdate = tt
apply_stands s TransferSuspended = tt

add_stands : (s : DistState) (entries : List Entry) → Stands s (receivers_add s entries)
add_stands s entries = split s (not (is_idle s.durable.phase)) _ _ tt (split s (nat_lt 128 (length (added s.durable.receivers entries))) _ _ tt (refl, refl, refl))

delete_stands : (s : DistState) → Stands s (receivers_delete_all s)
delete_stands s = split s (is_idle s.durable.phase) _ _ (refl, refl, refl) tt

takes_stand : (s : DistState) (u : UploadStart) (meta : Meta) (banks : List ℕ) → Stands s (takes_in s u meta banks)
takes_stand s u meta [] = tt
takes_stand s u meta (bank ∷ others) = split s (nat_lt s.durable.capacity u.size) _ _ tt (refl, refl, refl)

takes_or_stand : (s : DistState) (u : UploadStart) (meta : Meta) (upload : Upload) → Stands s (takes_or_resumes s u meta upload)
takes_or_stand s u meta (Broken (Some j)) = split s (same_upload_start u s.durable j) _ _ (refl, refl, refl) (takes_stand s u meta (empty_banks s.durable.images None))
takes_or_stand s u meta (Broken None) = takes_stand s u meta (empty_banks s.durable.images None)
takes_or_stand s u meta NoUpload = takes_stand s u meta (empty_banks s.durable.images None)
takes_or_stand s u meta (Uploading j) = takes_stand s u meta (empty_banks s.durable.images None)
takes_or_stand s u meta Uploaded = takes_stand s u meta (empty_banks s.durable.images None)

offers_stand : (s : DistState) (u : UploadStart) (upload : Upload) (offer : Option Meta) → Stands s (offers s u upload offer)
offers_stand s u upload None = tt
offers_stand s u upload (Some meta) = split s (has_image s.durable.images meta) _ _ (refl, refl, refl) (takes_or_stand s u meta upload)

upload_stands : (s : DistState) (u : UploadStart) (upload : Upload) → Stands s (upload_start s u upload)
upload_stands s u (Uploading j) = split s (same_upload_start u s.durable j) _ _ (refl, refl, refl) tt
upload_stands s u NoUpload = split s (is_at_rest s.durable.phase) _ _ (offers_stand s u NoUpload (offered_meta u)) tt
upload_stands s u (Broken job) = split s (is_at_rest s.durable.phase) _ _ (offers_stand s u (Broken job) (offered_meta u)) tt
upload_stands s u Uploaded = split s (is_at_rest s.durable.phase) _ _ (offers_stand s u Uploaded (offered_meta u)) tt

-- images go only at rest
only_at_rest : (s : DistState) (b : Bool) (r : Result DistState ℕ) → b ≡ false → Stands s (cond (not b) (Err 7) r)
only_at_rest s true r e = cc
only_at_rest s false r e = tt

firmware_stands : (s : DistState) (fwid : List ℕ) → is_at_rest s.durable.phase ≡ false → Stands s (firmware_delete s fwid)
firmware_stands s fwid busy = only_at_rest s (is_at_rest s.durable.phase) (cond (is_in_upload (run_upload s)) (Err 8) (cond (is_none (index_of s.durable.images fwid)) (Err 4) (Ok (with_images s (filter (λ (x : StoredImage). not (has_id fwid x)) s.durable.images))))) busy

all_stand : (s : DistState) → is_at_rest s.durable.phase ≡ false → Stands s (firmware_delete_all s)
all_stand s busy = only_at_rest s (is_at_rest s.durable.phase) (cond (is_in_upload (run_upload s)) (Err 8) (Ok (with_images s []))) busy

request_stands : (address : ℕ) (s : DistState) (to : ℕ) (request : DistRequest) → is_at_rest s.durable.phase ≡ false → SameOffer s.durable (on_request address s to request).next.durable
request_stands address s to (ReceiversAdd entries) busy = led s to receivers_status (receivers_add s entries) (add_stands s entries)
request_stands address s to ReceiversDeleteAll busy = led s to receivers_status (receivers_delete_all s) (delete_stands s)
request_stands address s to (ReceiversGet first limit) busy = (refl, refl, refl)
request_stands address s to CapabilitiesGet busy = (refl, refl, refl)
request_stands address s to DistributionGet busy = (refl, refl, refl)
request_stands address s to (DistributionStart ask) busy = led s to distribution_status (distribution_start address s ask s.durable.phase) (start_stands address s ask s.durable.phase refl busy)
request_stands address s to DistributionSuspend busy = led s to distribution_status (distribution_suspend s s.durable.phase) (suspend_stands s s.durable.phase)
request_stands address s to DistributionCancel busy = led s to distribution_status (distribution_cancel s s.durable.phase) (cancel_stands s s.durable.phase)
request_stands address s to DistributionApply busy = led s to distribution_status (distribution_apply s s.durable.phase) (apply_stands s s.durable.phase)
request_stands address s to UploadGet busy = (refl, refl, refl)
request_stands address s to (StartUpload u) busy = led s to upload_status (upload_start s u (run_upload s)) (upload_stands s u (run_upload s))
request_stands address s to StartUploadOob busy = (refl, refl, refl)
request_stands address s to UploadCancel busy = committed_stands s (upload_cancel s) (refl, refl, refl)
request_stands address s to (FirmwareGet fwid) busy = (refl, refl, refl)
request_stands address s to (FirmwareGetByIndex index) busy = (refl, refl, refl)
request_stands address s to (FirmwareDelete fwid) busy = led s to (firmware_status no_index (Some fwid)) (firmware_delete s fwid) (firmware_stands s fwid busy)
request_stands address s to FirmwareDeleteAll busy = led s to (firmware_status no_index None) (firmware_delete_all s) (all_stand s busy)

change_stands : (s : DistState) (c : Change) (l : Session) → SameOffer s.durable (with_session (blob_changed s c) l).durable
change_stands s Same l = (refl, refl, refl)
change_stands s (Begins p) l = (refl, refl, refl)
change_stands s Drops l = (refl, refl, refl)
change_stands s (Puts block octets) l = (refl, refl, refl)

hears_stand : (s : DistState) (from : ℕ) (answer : Answer) (client : Option Client) → SameOffer s.durable (hears s from answer client).next.durable
hears_stand s from answer None = (refl, refl, refl)
hears_stand s from answer (Some c) = committed_stands s (with_client s (told c from answer s.moment)) (refl, refl, refl)

taken_stands : (address : ℕ) (s : DistState) (from : ℕ) (taken : Taken) → is_at_rest s.durable.phase ≡ false → SameOffer s.durable (on_taken address s from taken).next.durable
taken_stands address s from (OfDistribution request) busy = request_stands address s from request busy
taken_stands address s from (OfBlob request) busy = change_stands s (on_blob (server_of s) from request).change (on_blob (server_of s) from request).session
taken_stands address s from (OfReceiver answer) busy = hears_stand s from answer s.client

client_stands : (address : ℕ) (s t : DistState) (reports : List (ℕ × Sent)) (client : Option Client) → SameOffer s.durable t.durable → SameOffer s.durable (client_waits address s t reports client).next.durable
client_stands address s t reports None h = committed_stands s t h
client_stands address s t reports (Some c) h = by_phase (has_turns t.durable.phase)
  where
    by_phase : (b : Bool) → SameOffer s.durable (cond b (client_turns address s t reports (due c (octets_of (offered t.durable)) t.moment)) (ends s t (λ u. reports))).next.durable
    by_phase true =
        let n : Client = (due c (octets_of (offered t.durable)) t.moment).next in
        let turned : Goes (with_client t n).durable (after_turn address t n).durable = advanced_goes address (with_client t n) n t.durable.phase (stage_of n) in
        committed_stands s (after_turn address t n) (then_offer s.durable t.durable (after_turn address t n).durable h turned.0)
    by_phase false = committed_stands s t h

waits_stand : (address : ℕ) (s : DistState) (o : Served) → SameOffer s.durable (waits address s o).next.durable
waits_stand address s o = client_stands address s (server_waits s o) (map by_blob o.replies) s.client (broken_goes (with_session s o.session) o.session.link (run_upload s)).0

time_stands : (address : ℕ) (s : DistState) (upload : Upload) → run_upload s ≡ upload → IsDistState s → is_at_rest s.durable.phase ≡ false → SameOffer s.durable (on_time address s upload).next.durable
time_stands address s (Uploading j) e h busy =
    let rest : is_at_rest s.durable.phase ≡ true = subst (HasUpload s.durable.phase) (run_is s.lags s.durable.upload j e) h.durable.upload in
    let never : true ≡ false = sym rest ∙ busy in
    absurd (wrong never)
  where
    wrong : true ≡ false → ⊥
    wrong e = cc
time_stands address s NoUpload e h busy = waits_stand address s (on_server_time (server_of s) (server_of s).serving)
time_stands address s (Broken job) e h busy = waits_stand address s (on_server_time (server_of s) (server_of s).serving)
time_stands address s Uploaded e h busy = waits_stand address s (on_server_time (server_of s) (server_of s).serving)

packet_stands : (address : ℕ) (s : DistState) (from : ℕ) (taken : Option Taken) → is_at_rest s.durable.phase ≡ false → SameOffer s.durable (on_packet address s from taken).next.durable
packet_stands address s from (Some taken) busy = taken_stands address s from taken busy
packet_stands address s from None busy = (refl, refl, refl)

event_stands : (address : ℕ) (s : DistState) (event : NodeEvent) → IsDistState s → is_at_rest s.durable.phase ≡ false → SameOffer s.durable (on_event address s event).next.durable
event_stands address s (PacketComes packet) h busy =
    elim (packet.to == address) as (λ b. SameOffer s.durable (cond b (on_packet address s packet.from (taken_at packet.payload)) (passed_over s)).next.durable) [
      | true ↦ packet_stands address s packet.from (taken_at packet.payload) busy
      | false ↦ (refl, refl, refl)
    ]
event_stands address s TimeComes h busy = time_stands address s (run_upload s) refl h busy

pub offers_stand_still : OffersStand
offers_stand_still address s event now h busy = event_stands address (at_moment s now) event (moved s now h) busy
