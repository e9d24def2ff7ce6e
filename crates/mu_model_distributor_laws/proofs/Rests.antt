-- What an event does at rest.
use Rattle.std.proofs.Common.{◌≡◌, ℕ, Bool, true, false, List, [], ◌∷◌, ◌++◌, length, map, drop, refl, sym, ap, subst, ◌∙◌, cond, Option, Some, None, Result, Ok, Err, inl, inr}
use Rattle.std.specs.Prelude.{⊤, ◌==◌, not, nat_lt, nat_le, is_none}
use Rattle.std.specs.List.{AllByRecursion}
use Rattle.mu_model_image.specs.declared.Meta.{Meta}
use Rattle.mu_model_image.specs.Meta.{is_fit}
use Rattle.mu_model_node.specs.Slots.{joined}
use Rattle.mu_model_node.specs.declared.Link.{Link}
use Rattle.mu_model_node.specs.declared.Link.TheVariants.{Cut, Ready, Running}
use Rattle.mu_model_node.specs.BlobServer.{Session, Change, Same, Begins, Drops, Puts}
use Rattle.mu_model_node.specs.BlobTable.{Served, on_blob, on_server_time}
use Rattle.mu_model_node.specs.Events.{NodeEvent, PacketComes, TimeComes}
use Rattle.mu_model_node.specs.UpdateMessages.{UpdateRequest, InformationGet, MetadataCheck, UpdateGet, StartUpdate, UpdateCancel, UpdateApply}
use Rattle.mu_model_node.specs.NodeMessages.{OfUpdate, OfBlob}
use Rattle.mu_model_client.specs.Answers.{Answer}
use Rattle.mu_model_client.specs.Client.{Client}
use Rattle.mu_model_distributor.specs.declared.Settings.{Settings}
use Rattle.mu_model_distributor.specs.declared.DistPhase.{DistPhase}
use Rattle.mu_model_distributor.specs.declared.DistPhase.TheVariants.{Idle, TransferActive, TransferSuccess, ApplyingUpdate, Completed, Failed, CancelingUpdate, TransferSuspended}
use Rattle.mu_model_distributor.specs.Requests.{Entry, UploadStart, DistRequest, ReceiversAdd, ReceiversDeleteAll, ReceiversGet, CapabilitiesGet, DistributionGet, DistributionStart, DistributionSuspend, DistributionCancel, DistributionApply, UploadGet, StartUpload, StartUploadOob, UploadCancel, FirmwareGet, FirmwareGetByIndex, FirmwareDelete, FirmwareDeleteAll}
use Rattle.mu_model_distributor.specs.Replies.{DistReply}
use Rattle.mu_model_distributor.specs.DistMessages.{Taken, OfDistribution, OfBlob, OfReceiver, taken_at, Sent, ByDistribution, ByBlob, ByClient}
use Rattle.mu_model_distributor.specs.DistState.{UploadJob, Upload, NoUpload, Uploading, Broken, Uploaded, run_upload, DistDurable, DistState, is_at_rest, server_of, no_progress}
use Rattle.mu_model_distributor.specs.Same.{same_durable}
use Rattle.mu_model_distributor.specs.Commit.{recorded_if, committed, answered}
use Rattle.mu_model_distributor.specs.Receivers.{added, with_receivers, is_idle, empty_banks, receivers_status, receivers_add, receivers_delete_all}
use Rattle.mu_model_distributor.specs.Distribution.{is_uploading, begins as begins_row, distribution_status, distribution_start, distribution_suspend, distribution_cancel, distribution_apply}
use Rattle.mu_model_distributor.specs.Uploads.{with_session, offered_meta, same_upload_start, has_image, takes_in, takes_or_resumes, offers, upload_status, upload_start, upload_cancel}
use Rattle.mu_model_distributor.specs.Firmware.{index_of, is_in_upload, no_index, firmware_status, firmware_delete, firmware_delete_all}
use Rattle.mu_model_distributor.specs.DistTable.{by_blob, on_request, blob_changed, hears, on_taken}
use Rattle.mu_model_distributor.specs.DistTime.{is_whole, verified, verifies, broken_by, server_waits, client_waits, waits, on_time}
use Rattle.mu_model_distributor.specs.DistEvents.{passed_over, at_moment, on_packet, on_event, new_distributor}
use Rattle.mu_model_distributor.specs.Sound.{HasClient, IsDistState}
use Rattle.mu_model_distributor_laws.specs.Planned.{IsSentAs}
use Rattle.mu_model_distributor_laws.specs.Rests.{RestMoves, begins, adds, empties, stands, RestsMove, IsNoStart, RestsStartNothing}
use Rattle.mu_model_distributor_laws.proofs.Offered.{Offers, blob_offers, packet_offers}

-- ---- a record

recorded_moves : (d : DistDurable) (t : DistState) (b : Bool) → RestMoves d t.durable → RestMoves d (recorded_if t b).durable
recorded_moves d t true h = h
recorded_moves d t false (begins e) = begins e
recorded_moves d t false (adds entries p q e k) = adds entries p q e k
recorded_moves d t false (empties p q e k) = empties p q e k
recorded_moves d t false (stands p e k) = stands p e k

committed_moves : (s t : DistState) → RestMoves s.durable t.durable → RestMoves s.durable (committed s t).durable
committed_moves s t h = recorded_moves s.durable t (same_durable s.durable t.durable) h

-- nothing that is spoken of here changes
stays : (d : DistDurable) → RestMoves d d
stays d = stands (inl refl) refl refl

-- ---- requests

abbrev Leads : DistState → Result DistState ℕ → Type 0
Leads s (Ok t) = RestMoves s.durable t.durable
Leads s (Err status) = ⊤

split : (s : DistState) (b : Bool) (x y : Result DistState ℕ) → Leads s x → Leads s y → Leads s (cond b x y)
split s true x y h k = h
split s false x y h k = k

led : (s : DistState) (to : ℕ) (show : ℕ → DistState → DistReply) (r : Result DistState ℕ) → Leads s r → RestMoves s.durable (answered s to show r).next.durable
led s to show (Ok t) h = committed_moves s t h
led s to show (Err status) h = stays s.durable

-- a phase of a distribution
busy_not : {A : Type 0} (p q : DistPhase) → p ≡ q → is_at_rest q ≡ false → is_at_rest p ≡ true → A
busy_not p q e busy rest = let never : true ≡ false = sym rest ∙ (ap is_at_rest e ∙ busy) in cc

begins_leads : (address : ℕ) (s : DistState) (ask : Option Settings) → Leads s (begins_row address s ask)
begins_leads address s None = tt
begins_leads address s (Some ask) =
    split s (is_uploading (run_upload s)) _ _ tt
    (split s (nat_le (length s.durable.images) ask.image) _ _ tt (split s (length s.durable.receivers == 0) _ _ tt (split s (s.durable.counter == 281474976710655) _ _ tt (begins refl))))

start_leads : (address : ℕ) (s : DistState) (ask : Option Settings) (p : DistPhase) → s.durable.phase ≡ p → is_at_rest s.durable.phase ≡ true → Leads s (distribution_start address s ask p)
start_leads address s ask Idle e rest = begins_leads address s ask
start_leads address s ask Completed e rest = begins_leads address s ask
start_leads address s ask Failed e rest = begins_leads address s ask
start_leads address s ask TransferSuspended e rest = busy_not s.durable.phase TransferSuspended e refl rest
start_leads address s ask TransferActive e rest = busy_not s.durable.phase TransferActive e refl rest
start_leads address s ask TransferSuccess e rest = busy_not s.durable.phase TransferSuccess e refl rest
start_leads address s ask ApplyingUpdate e rest = busy_not s.durable.phase ApplyingUpdate e refl rest
start_leads address s ask CancelingUpdate e rest = busy_not s.durable.phase CancelingUpdate e refl rest

suspend_leads : (s : DistState) (p : DistPhase) → s.durable.phase ≡ p → is_at_rest s.durable.phase ≡ true → Leads s (distribution_suspend s p)
suspend_leads s TransferActive e rest = busy_not s.durable.phase TransferActive e refl rest
suspend_leads s TransferSuspended e rest = stays s.durable
suspend_leads s Idle e rest = tt
suspend_leads s TransferSuccess e rest = tt
suspend_leads s ApplyingUpdate e rest = tt
suspend_leads s Completed e rest = tt
suspend_leads s Failed e rest = tt
suspend_leads s CancelingUpdate e rest = tt

cancel_leads : (s : DistState) (p : DistPhase) → s.durable.phase ≡ p → is_at_rest s.durable.phase ≡ true → Leads s (distribution_cancel s p)
cancel_leads s TransferActive e rest = busy_not s.durable.phase TransferActive e refl rest
cancel_leads s TransferSuccess e rest = busy_not s.durable.phase TransferSuccess e refl rest
cancel_leads s TransferSuspended e rest = busy_not s.durable.phase TransferSuspended e refl rest
cancel_leads s Completed e rest = stands (inr refl) refl refl
cancel_leads s Failed e rest = stands (inr refl) refl refl
cancel_leads s ApplyingUpdate e rest = tt
cancel_leads s Idle e rest = stays s.durable
cancel_leads s CancelingUpdate e rest = stays s.durable

apply_leads : (s : DistState) (p : DistPhase) → s.durable.phase ≡ p → is_at_rest s.durable.phase ≡ true → Leads s (distribution_apply s p)
apply_leads s TransferSuccess e rest = busy_not s.durable.phase TransferSuccess e refl rest
apply_leads s ApplyingUpdate e rest = stays s.durable
apply_leads s Idle e rest = tt
apply_leads s TransferActive e rest = tt
apply_leads s Completed e rest = tt
apply_leads s Failed e rest = tt
apply_leads s CancelingUpdate e rest = tt
apply_leads s TransferSuspended e rest = tt

-- ---- receivers that are added, or go

is_idle_true : (p : DistPhase) → is_idle p ≡ true → p ≡ Idle
is_idle_true Idle e = refl
is_idle_true TransferActive e = cc
is_idle_true TransferSuccess e = cc
is_idle_true ApplyingUpdate e = cc
is_idle_true Completed e = cc
is_idle_true Failed e = cc
is_idle_true CancelingUpdate e = cc
is_idle_true TransferSuspended e = cc

add_leads : (s : DistState) (entries : List Entry) → Leads s (receivers_add s entries)
add_leads s entries = by_idle (is_idle s.durable.phase) refl
  where
    by_idle : (b : Bool) → is_idle s.durable.phase ≡ b → Leads s (cond (not b) (Err 7) (cond (nat_lt 128 (length (added s.durable.receivers entries))) (Err 1) (Ok (with_receivers s (added s.durable.receivers entries) (s.progress ++ no_progress (drop (length s.durable.receivers) (added s.durable.receivers entries)))))))
    by_idle false e = tt
    by_idle true e = let idle : s.durable.phase ≡ Idle = is_idle_true s.durable.phase e in split s (nat_lt 128 (length (added s.durable.receivers entries))) _ _ tt (adds entries idle idle refl refl)

delete_leads : (s : DistState) → Leads s (receivers_delete_all s)
delete_leads s = by_idle (is_idle s.durable.phase) refl
  where
    by_idle : (b : Bool) → is_idle s.durable.phase ≡ b → Leads s (cond b (Ok (with_receivers s [] [])) (Err 7))
    by_idle false e = tt
    by_idle true e = let idle : s.durable.phase ≡ Idle = is_idle_true s.durable.phase e in empties idle idle refl refl

-- ---- uploads and images

takes_lead : (s : DistState) (u : UploadStart) (meta : Meta) (banks : List ℕ) → Leads s (takes_in s u meta banks)
takes_lead s u meta [] = tt
takes_lead s u meta (bank ∷ others) = split s (nat_lt s.durable.capacity u.size) _ _ tt (stands (inl refl) refl refl)

takes_or_lead : (s : DistState) (u : UploadStart) (meta : Meta) (upload : Upload) → Leads s (takes_or_resumes s u meta upload)
takes_or_lead s u meta (Broken (Some j)) = split s (same_upload_start u s.durable j) _ _ (stands (inl refl) refl refl) (takes_lead s u meta (empty_banks s.durable.images None))
takes_or_lead s u meta (Broken None) = takes_lead s u meta (empty_banks s.durable.images None)
takes_or_lead s u meta NoUpload = takes_lead s u meta (empty_banks s.durable.images None)
takes_or_lead s u meta (Uploading j) = takes_lead s u meta (empty_banks s.durable.images None)
takes_or_lead s u meta Uploaded = takes_lead s u meta (empty_banks s.durable.images None)

offers_lead : (s : DistState) (u : UploadStart) (upload : Upload) (offer : Option Meta) → Leads s (offers s u upload offer)
offers_lead s u upload None = tt
offers_lead s u upload (Some meta) = split s (has_image s.durable.images meta) _ _ (stands (inl refl) refl refl) (takes_or_lead s u meta upload)

upload_leads : (s : DistState) (u : UploadStart) (upload : Upload) → Leads s (upload_start s u upload)
upload_leads s u (Uploading j) = split s (same_upload_start u s.durable j) _ _ (stays s.durable) tt
upload_leads s u NoUpload = split s (is_at_rest s.durable.phase) _ _ (offers_lead s u NoUpload (offered_meta u)) tt
upload_leads s u (Broken job) = split s (is_at_rest s.durable.phase) _ _ (offers_lead s u (Broken job) (offered_meta u)) tt
upload_leads s u Uploaded = split s (is_at_rest s.durable.phase) _ _ (offers_lead s u Uploaded (offered_meta u)) tt

firmware_leads : (s : DistState) (fwid : List ℕ) → Leads s (firmware_delete s fwid)
firmware_leads s fwid =
    split s (not (is_at_rest s.durable.phase)) _ _ tt
    (split s (is_in_upload (run_upload s)) _ _ tt (split s (is_none (index_of s.durable.images fwid)) _ _ tt (stands (inl refl) refl refl)))

all_lead : (s : DistState) → Leads s (firmware_delete_all s)
all_lead s = split s (not (is_at_rest s.durable.phase)) _ _ tt (split s (is_in_upload (run_upload s)) _ _ tt (stands (inl refl) refl refl))

-- ---- all messages

request_moves : (address : ℕ) (s : DistState) (to : ℕ) (request : DistRequest) → is_at_rest s.durable.phase ≡ true → RestMoves s.durable (on_request address s to request).next.durable
request_moves address s to (ReceiversAdd entries) rest = led s to receivers_status (receivers_add s entries) (add_leads s entries)
request_moves address s to ReceiversDeleteAll rest = led s to receivers_status (receivers_delete_all s) (delete_leads s)
request_moves address s to (ReceiversGet first limit) rest = stays s.durable
request_moves address s to CapabilitiesGet rest = stays s.durable
request_moves address s to DistributionGet rest = stays s.durable
request_moves address s to (DistributionStart ask) rest = led s to distribution_status (distribution_start address s ask s.durable.phase) (start_leads address s ask s.durable.phase refl rest)
request_moves address s to DistributionSuspend rest = led s to distribution_status (distribution_suspend s s.durable.phase) (suspend_leads s s.durable.phase refl rest)
request_moves address s to DistributionCancel rest = led s to distribution_status (distribution_cancel s s.durable.phase) (cancel_leads s s.durable.phase refl rest)
request_moves address s to DistributionApply rest = led s to distribution_status (distribution_apply s s.durable.phase) (apply_leads s s.durable.phase refl rest)
request_moves address s to UploadGet rest = stays s.durable
request_moves address s to (StartUpload u) rest = led s to upload_status (upload_start s u (run_upload s)) (upload_leads s u (run_upload s))
request_moves address s to StartUploadOob rest = stays s.durable
request_moves address s to UploadCancel rest = committed_moves s (upload_cancel s) (stands (inl refl) refl refl)
request_moves address s to (FirmwareGet fwid) rest = stays s.durable
request_moves address s to (FirmwareGetByIndex index) rest = stays s.durable
request_moves address s to (FirmwareDelete fwid) rest = led s to (firmware_status no_index (Some fwid)) (firmware_delete s fwid) (firmware_leads s fwid)
request_moves address s to FirmwareDeleteAll rest = led s to (firmware_status no_index None) (firmware_delete_all s) (all_lead s)

change_moves : (s : DistState) (c : Change) (l : Session) → RestMoves s.durable (with_session (blob_changed s c) l).durable
change_moves s Same l = stays s.durable
change_moves s (Begins p) l = stands (inl refl) refl refl
change_moves s Drops l = stands (inl refl) refl refl
change_moves s (Puts block octets) l = stands (inl refl) refl refl

hears_moves : (s : DistState) (from : ℕ) (answer : Answer) (client : Option Client) → client ≡ None → RestMoves s.durable (hears s from answer client).next.durable
hears_moves s from answer None e = stays s.durable
hears_moves s from answer (Some c) e = cc

taken_moves : (address : ℕ) (s : DistState) (from : ℕ) (taken : Taken) → is_at_rest s.durable.phase ≡ true → s.client ≡ None → RestMoves s.durable (on_taken address s from taken).next.durable
taken_moves address s from (OfDistribution request) rest none = request_moves address s from request rest
taken_moves address s from (OfBlob request) rest none = change_moves s (on_blob (server_of s) from request).change (on_blob (server_of s) from request).session
taken_moves address s from (OfReceiver answer) rest none = hears_moves s from answer s.client none

-- ---- time

broken_moves : (d : DistDurable) (s : DistState) (link : Link) (upload : Upload) → RestMoves d s.durable → RestMoves d (broken_by link upload s).durable
broken_moves d s Cut NoUpload h = h
broken_moves d s Cut (Broken job) h = h
broken_moves d s Cut Uploaded h = h
broken_moves d s Ready upload h = h
broken_moves d s Running upload h = h
broken_moves d s Cut (Uploading j) (begins e) = begins e
broken_moves d s Cut (Uploading j) (adds entries p q e k) = adds entries p q e k
broken_moves d s Cut (Uploading j) (empties p q e k) = empties p q e k
broken_moves d s Cut (Uploading j) (stands p e k) = stands p e k

client_moves : (address : ℕ) (s t : DistState) (reports : List (ℕ × Sent)) (client : Option Client) → client ≡ None → RestMoves s.durable t.durable → RestMoves s.durable (client_waits address s t reports client).next.durable
client_moves address s t reports None e h = committed_moves s t h
client_moves address s t reports (Some c) e h = cc

waits_move : (address : ℕ) (s : DistState) (o : Served) → s.client ≡ None → RestMoves s.durable (waits address s o).next.durable
waits_move address s o none = client_moves address s (server_waits s o) (map by_blob o.replies) s.client none (broken_moves s.durable (with_session s o.session) o.session.link (run_upload s) (stays s.durable))

verified_moves : (s : DistState) (j : UploadJob) (b : Bool) → RestMoves s.durable (verified s j b).durable
verified_moves s j true = stands (inl refl) refl refl
verified_moves s j false = stands (inl refl) refl refl

time_moves : (address : ℕ) (s : DistState) (upload : Upload) → s.client ≡ None → RestMoves s.durable (on_time address s upload).next.durable
time_moves address s (Uploading j) none = by_whole (is_whole j.transfer)
  where
    by_whole : (b : Bool) → RestMoves s.durable (cond b (verifies s j) (waits address s (on_server_time (server_of s) (server_of s).serving))).next.durable
    by_whole true = committed_moves s (verified s j (is_fit (joined j.transfer.held) s.durable.upload_meta)) (verified_moves s j (is_fit (joined j.transfer.held) s.durable.upload_meta))
    by_whole false = waits_move address s (on_server_time (server_of s) (server_of s).serving) none
time_moves address s NoUpload none = waits_move address s (on_server_time (server_of s) (server_of s).serving) none
time_moves address s (Broken job) none = waits_move address s (on_server_time (server_of s) (server_of s).serving) none
time_moves address s Uploaded none = waits_move address s (on_server_time (server_of s) (server_of s).serving) none

-- ---- events

packet_moves : (address : ℕ) (s : DistState) (from : ℕ) (taken : Option Taken) → is_at_rest s.durable.phase ≡ true → s.client ≡ None → RestMoves s.durable (on_packet address s from taken).next.durable
packet_moves address s from (Some taken) rest none = taken_moves address s from taken rest none
packet_moves address s from None rest none = stays s.durable

event_moves : (address : ℕ) (s : DistState) (event : NodeEvent) → is_at_rest s.durable.phase ≡ true → s.client ≡ None → RestMoves s.durable (on_event address s event).next.durable
event_moves address s (PacketComes packet) rest none =
    elim (packet.to == address) as (λ b. RestMoves s.durable (cond b (on_packet address s packet.from (taken_at packet.payload)) (passed_over s)).next.durable) [
      | true ↦ packet_moves address s packet.from (taken_at packet.payload) rest none
      | false ↦ stays s.durable
    ]
event_moves address s TimeComes rest none = time_moves address s (run_upload s) none

-- at rest there is no client
no_client : (s : DistState) → IsDistState s → is_at_rest s.durable.phase ≡ true → s.client ≡ None
no_client s h rest = subst (λ b. HasClient b s.durable.receivers s.progress s.client) rest h.client

pub rests_move : RestsMove
rests_move address s event now h rest = event_moves address (at_moment s now) event rest (no_client s h rest)

-- ---- what is sent

-- what any durable state offers, even one without receivers, is no Update Start
update_no_start : (address to : ℕ) (request : UpdateRequest) → IsSentAs address (new_distributor 1) (to, ByClient (OfUpdate request)) → IsNoStart (to, ByClient (OfUpdate request))
update_no_start address to (StartUpdate u) h = h.receiver
update_no_start address to (InformationGet first limit) h = tt
update_no_start address to (MetadataCheck index metadata) h = tt
update_no_start address to UpdateGet h = tt
update_no_start address to UpdateCancel h = tt
update_no_start address to UpdateApply h = tt

sent_no_start : (address to : ℕ) (sent : Sent) → IsSentAs address (new_distributor 1) (to, sent) → IsNoStart (to, sent)
sent_no_start address to (ByDistribution reply) h = tt
sent_no_start address to (ByBlob reply) h = tt
sent_no_start address to (ByClient (OfUpdate request)) h = update_no_start address to request h
sent_no_start address to (ByClient (OfBlob request)) h = tt

no_starts : (address : ℕ) (sends : List (ℕ × Sent)) → Offers address (new_distributor 1) sends → AllByRecursion IsNoStart sends
no_starts address [] h = tt
no_starts address (x ∷ sends) h = (sent_no_start address x.0 x.1 h.0, no_starts address sends h.1)

client_offers : (address : ℕ) (d : DistDurable) (s t : DistState) (reports : List (ℕ × Sent)) (client : Option Client) → client ≡ None → Offers address d reports → Offers address d (client_waits address s t reports client).sends
client_offers address d s t reports None e h = h
client_offers address d s t reports (Some c) e h = cc

waits_offer : (address : ℕ) (d : DistDurable) (s : DistState) (o : Served) → s.client ≡ None → Offers address d (waits address s o).sends
waits_offer address d s o none = client_offers address d s (server_waits s o) (map by_blob o.replies) s.client none (blob_offers address d o.replies)

time_offers : (address : ℕ) (d : DistDurable) (s : DistState) (upload : Upload) → s.client ≡ None → Offers address d (on_time address s upload).sends
time_offers address d s (Uploading j) none = by_whole (is_whole j.transfer)
  where
    by_whole : (b : Bool) → Offers address d (cond b (verifies s j) (waits address s (on_server_time (server_of s) (server_of s).serving))).sends
    by_whole true = tt
    by_whole false = waits_offer address d s (on_server_time (server_of s) (server_of s).serving) none
time_offers address d s NoUpload none = waits_offer address d s (on_server_time (server_of s) (server_of s).serving) none
time_offers address d s (Broken job) none = waits_offer address d s (on_server_time (server_of s) (server_of s).serving) none
time_offers address d s Uploaded none = waits_offer address d s (on_server_time (server_of s) (server_of s).serving) none

event_offers : (address : ℕ) (d : DistDurable) (s : DistState) (event : NodeEvent) → s.client ≡ None → Offers address d (on_event address s event).sends
event_offers address d s (PacketComes packet) none =
    elim (packet.to == address) as (λ b. Offers address d (cond b (on_packet address s packet.from (taken_at packet.payload)) (passed_over s)).sends) [ true ↦ packet_offers address d s packet.from (taken_at packet.payload) | false ↦ tt ]
event_offers address d s TimeComes none = time_offers address d s (run_upload s) none

pub rests_start_nothing : RestsStartNothing
rests_start_nothing address s event now h rest = no_starts address _ (event_offers address (new_distributor 1) (at_moment s now) event (no_client s h rest))
