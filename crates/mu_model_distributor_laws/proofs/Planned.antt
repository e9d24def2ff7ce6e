-- The client of a distributor does what the distribution asks.
use Rattle.std.proofs.Common.{◌≡◌, ℕ, Bool, true, false, List, [], ◌∷◌, length, map, refl, sym, ap, subst, ◌∙◌, cond, Option, Some, None, Result, Ok, Err}
use Rattle.std.specs.Prelude.{⊤, ◌==◌, not, nat_le, nat_lt, is_none, MatchOption}
use Rattle.std.specs.List.{list_any}
use Rattle.mu_model_image.specs.declared.Meta.{Meta}
use Rattle.mu_model_image.specs.Meta.{is_fit}
use Rattle.mu_model_node.specs.Slots.{joined}
use Rattle.mu_model_node.specs.declared.Link.{Link}
use Rattle.mu_model_node.specs.declared.Link.TheVariants.{Cut, Ready, Running}
use Rattle.mu_model_node.specs.BlobServer.{Session, Change, Same, Begins, Drops, Puts}
use Rattle.mu_model_node.specs.BlobTable.{Served, on_blob, on_server_time}
use Rattle.mu_model_node.specs.Events.{NodeEvent, PacketComes, TimeComes}
use Rattle.mu_model_client.specs.declared.Plan.{Plan}
use Rattle.mu_model_client.specs.declared.Stage.{Stage}
use Rattle.mu_model_client.specs.declared.Stage.TheVariants.{Transfer, Verified, Applying, Canceling, Ended}
use Rattle.mu_model_client.specs.Answers.{Answer}
use Rattle.mu_model_client.specs.Rows.{Row}
use Rattle.mu_model_client.specs.Client.{Client, is_active, rows}
use Rattle.mu_model_client.specs.Told.{told}
use Rattle.mu_model_client.specs.Begin.{stage_of, purpose_of}
use Rattle.mu_model_client.specs.Due.{due}
use Rattle.mu_model_distributor.specs.declared.Settings.{Settings}
use Rattle.mu_model_distributor.specs.Requests.{Entry, UploadStart, DistRequest, ReceiversAdd, ReceiversDeleteAll, ReceiversGet, CapabilitiesGet, DistributionGet, DistributionStart, DistributionSuspend, DistributionCancel, DistributionApply, UploadGet, StartUpload, StartUploadOob, UploadCancel, FirmwareGet, FirmwareGetByIndex, FirmwareDelete, FirmwareDeleteAll}
use Rattle.mu_model_distributor.specs.Replies.{DistReply}
use Rattle.mu_model_distributor.specs.DistMessages.{Taken, OfDistribution, OfBlob, OfReceiver, taken_at, Sent}
use Rattle.mu_model_distributor.specs.declared.DistPhase.{DistPhase}
use Rattle.mu_model_distributor.specs.declared.DistPhase.TheVariants.{Idle, TransferActive, TransferSuccess, ApplyingUpdate, Completed, Failed, CancelingUpdate, TransferSuspended}
use Rattle.mu_model_distributor.specs.DistState.{StoredImage, UploadJob, Upload, NoUpload, Uploading, Broken, Uploaded, run_upload, DistDurable, DistState, is_at_rest, server_of, rows_of, offered}
use Rattle.mu_model_distributor.specs.Commit.{recorded_if, committed, ends, answered}
use Rattle.mu_model_distributor.specs.Receivers.{added, is_idle, empty_banks, receivers_status, receivers_add, receivers_delete_all}
use Rattle.mu_model_distributor.specs.Distribution.{plan_of, stage_in, begun_at, client_begun, with_client, in_phase, at_rest, are_settings, is_uploading, next_distribution, begins, distribution_status, distribution_start, distribution_suspend, cancels, distribution_cancel, applies, distribution_apply}
use Rattle.mu_model_distributor.specs.Uploads.{with_session, offered_meta, same_upload_start, has_image, takes_in, takes_or_resumes, offers, upload_status, upload_start, upload_cancel}
use Rattle.mu_model_distributor.specs.Firmware.{index_of, with_images, is_in_upload, no_index, firmware_status, firmware_delete, firmware_delete_all}
use Rattle.mu_model_distributor.specs.DistTable.{by_blob, on_request, blob_changed, hears, on_taken}
use Rattle.mu_model_distributor.specs.DistTime.{is_whole, verified, verifies, broken_by, server_waits, has_phase, goes_on_by, goes_on, has_verified, advanced, after_turn, octets_of, has_turns, client_turns, client_waits, waits, on_time}
use Rattle.mu_model_distributor.specs.DistEvents.{passed_over, at_moment, on_packet, on_event}
use Rattle.mu_model_distributor.specs.Sound.{HasUpload, HasClient, IsDistState, AnswerFits, TakenFits}
use Rattle.mu_model_distributor_laws.specs.Laws.{EventFits}
use Rattle.mu_model_distributor_laws.specs.Planned.{DoesPlan, IsPlanned, EventsKeepPlanned, BootsArePlanned}
use Rattle.mu_model_distributor_laws.proofs.ClientDue.{told_rows, due_rows}
use Rattle.mu_model_distributor_laws.proofs.ClientPlan.{within_kept, items_within, Right, due_right}
use Rattle.mu_model_distributor_laws.proofs.Present.{events_place, boots_place}
use Rattle.mu_model_distributor_laws.proofs.Times.{server_client, run_is}
use Rattle.mu_model_distributor_laws.proofs.Steps.{awake, moved}

-- ---- what keeps a plan

abbrev HasPlan : ℕ → DistState → Type 0
HasPlan address s = MatchOption s.client (Unit {0}) (DoesPlan address s.durable)

-- the plan stands where what is offered stands
keeps : (address : ℕ) (d e : DistDurable) (client : Option Client) → plan_of address e ≡ plan_of address d → MatchOption client (Unit {0}) (DoesPlan address d) → MatchOption client (Unit {0}) (DoesPlan address e)
keeps address d e None same h = tt
keeps address d e (Some c) same h = record { sending = h.sending ∙ sym (ap (λ (p : Plan). p.sending) same); purpose = h.purpose ∙ sym (ap purpose_of same); queue = h.queue }

recorded_keeps : (address : ℕ) (t : DistState) (b : Bool) → HasPlan address t → HasPlan address (recorded_if t b)
recorded_keeps address t true h = h
recorded_keeps address t false h = keeps address t.durable _ t.client refl h

pub committed_keeps : (address : ℕ) (s t : DistState) → HasPlan address t → HasPlan address (committed s t)
committed_keeps address s t h = recorded_keeps address t _ h

-- at rest there is no client
rests : (address : ℕ) (d : DistDurable) (b : Bool) (client : Option Client) (receivers : List _) (progress : List ℕ) → b ≡ true → HasClient b receivers progress client → MatchOption client (Unit {0}) (DoesPlan address d)
rests address d true client receivers progress e h = rw h tt
rests address d false client receivers progress e h = cc

pub rest_planned : (address : ℕ) (t : DistState) → IsDistState t → is_at_rest t.durable.phase ≡ true → HasPlan address t
rest_planned address t h e = rests address t.durable (is_at_rest t.durable.phase) t.client t.durable.receivers t.progress e h.client

begins_at : (address : ℕ) (d : DistDurable) (given : List Row) (stage : Option Stage) → MatchOption (begun_at (plan_of address d) given stage) (Unit {0}) (DoesPlan address d)
begins_at address d given None = tt
begins_at address d given (Some stage) = record { sending = refl; purpose = refl; queue = tt }

pub begun_planned : (address : ℕ) (s : DistState) → HasPlan address (client_begun address s)
begun_planned address s = begins_at address s.durable (rows_of s) (stage_in s.durable.phase)

pub own_plan : (address : ℕ) (d : DistDurable) (client : Option Client) (c : Client) → client ≡ Some c → MatchOption client (Unit {0}) (DoesPlan address d) → DoesPlan address d c
own_plan address d None c e h = cc
own_plan address d (Some x) c e h = let same : x ≡ c = cc in subst (DoesPlan address d) same h

told_plan : (address : ℕ) (d : DistDurable) (c : Client) (from : ℕ) (answer : Answer) (now : ℕ) → AnswerFits answer → DoesPlan address d c → DoesPlan address d (told c from answer now)
told_plan address d c from answer now fits h = record {
  sending = h.sending;
  purpose = h.purpose;
  queue = items_within c.sending c.purpose (rows c) (rows (told c from answer now)) c.queue (within_kept c.receivers (told c from answer now).receivers (told_rows c from answer now fits)) h.queue;
}

due_plan : (address : ℕ) (d : DistDurable) (c : Client) (image : List ℕ) (now : ℕ) → DoesPlan address d c → DoesPlan address d (due c image now).next
due_plan address d c image now h =
    let k : Right (rows c) c (due c image now) = due_right c image now h.queue in
    record {
      sending = k.sending ∙ h.sending;
      purpose = k.purpose ∙ h.purpose;
      queue = rw (k.sending, k.purpose) (items_within c.sending c.purpose (rows c) (rows (due c image now).next) (due c image now).next.queue (within_kept c.receivers (due c image now).next.receivers (due_rows c image now)) k.queue);
    }

-- ---- requests

abbrev Plans : ℕ → Result DistState ℕ → Type 0
Plans address (Ok t) = HasPlan address t
Plans address (Err status) = ⊤

split : (address : ℕ) (b : Bool) (x y : Result DistState ℕ) → (b ≡ true → Plans address x) → (b ≡ false → Plans address y) → Plans address (cond b x y)
split address true x y h k = h refl
split address false x y h k = k refl

led : (address : ℕ) (s : DistState) (to : ℕ) (show : ℕ → DistState → DistReply) (r : Result DistState ℕ) → HasPlan address s → Plans address r → HasPlan address (answered s to show r).next
led address s to show (Ok t) h k = committed_keeps address s t k
led address s to show (Err status) h k = h

starts : (address : ℕ) (s : DistState) (ask : Option Settings) → Plans address (begins address s ask)
starts address s None = tt
starts address s (Some ask) =
    split address (is_uploading (run_upload s)) _ _ (λ a. tt)
    (λ a. split address (nat_le (length s.durable.images) ask.image) _ _ (λ b. tt)
    (λ b. split address (length s.durable.receivers == 0) _ _ (λ c. tt)
    (λ c. split address (s.durable.counter == 281474976710655) _ _ (λ d. tt) (λ d. begun_planned address (next_distribution s ask)))))

same_start : (address : ℕ) (s : DistState) (ask : Option Settings) → HasPlan address s → Plans address (cond (are_settings ask s.durable.settings) (Ok s) (Err 7))
same_start address s ask h = split address (are_settings ask s.durable.settings) _ _ (λ k. h) (λ k. tt)

start_plans : (address : ℕ) (s : DistState) (ask : Option Settings) (p : DistPhase) → HasPlan address s → Plans address (distribution_start address s ask p)
start_plans address s ask Idle h = starts address s ask
start_plans address s ask Completed h = starts address s ask
start_plans address s ask Failed h = starts address s ask
start_plans address s ask TransferSuspended h = split address (are_settings ask s.durable.settings) _ _ (λ k. begun_planned address (in_phase s TransferActive)) (λ k. tt)
start_plans address s ask TransferActive h = same_start address s ask h
start_plans address s ask TransferSuccess h = same_start address s ask h
start_plans address s ask ApplyingUpdate h = same_start address s ask h
start_plans address s ask CancelingUpdate h = same_start address s ask h

suspend_plans : (address : ℕ) (s : DistState) (p : DistPhase) → HasPlan address s → Plans address (distribution_suspend s p)
suspend_plans address s TransferActive h = keeps address s.durable _ s.client refl h
suspend_plans address s TransferSuspended h = h
suspend_plans address s Idle h = tt
suspend_plans address s TransferSuccess h = tt
suspend_plans address s ApplyingUpdate h = tt
suspend_plans address s Completed h = tt
suspend_plans address s Failed h = tt
suspend_plans address s CancelingUpdate h = tt

canceled : (address : ℕ) (s : DistState) (client : Option Client) → s.client ≡ client → HasPlan address s → HasPlan address (cancels s client)
canceled address s None e h = keeps address s.durable _ s.client refl h
canceled address s (Some c) e h = let k = own_plan address s.durable s.client c e h in record { sending = k.sending; purpose = k.purpose; queue = tt }

cancel_plans : (address : ℕ) (s : DistState) (p : DistPhase) → HasPlan address s → Plans address (distribution_cancel s p)
cancel_plans address s TransferActive h = canceled address s s.client refl h
cancel_plans address s TransferSuccess h = canceled address s s.client refl h
cancel_plans address s TransferSuspended h = canceled address s s.client refl h
cancel_plans address s Completed h = tt
cancel_plans address s Failed h = tt
cancel_plans address s ApplyingUpdate h = tt
cancel_plans address s Idle h = h
cancel_plans address s CancelingUpdate h = h

applied : (address : ℕ) (s : DistState) (client : Option Client) → s.client ≡ client → HasPlan address s → HasPlan address (applies s client)
applied address s None e h = keeps address s.durable _ s.client refl h
applied address s (Some c) e h = let k = own_plan address s.durable s.client c e h in record { sending = k.sending; purpose = k.purpose; queue = tt }

apply_plans : (address : ℕ) (s : DistState) (p : DistPhase) → HasPlan address s → Plans address (distribution_apply s p)
apply_plans address s TransferSuccess h = applied address s s.client refl h
apply_plans address s ApplyingUpdate h = h
apply_plans address s Idle h = tt
apply_plans address s TransferActive h = tt
apply_plans address s Completed h = tt
apply_plans address s Failed h = tt
apply_plans address s CancelingUpdate h = tt
apply_plans address s TransferSuspended h = tt

add_plans : (address : ℕ) (s : DistState) (entries : List Entry) → HasPlan address s → Plans address (receivers_add s entries)
add_plans address s entries h =
    split address (not (is_idle s.durable.phase)) _ _ (λ a. tt)
    (λ a. split address (nat_lt 128 (length (added s.durable.receivers entries))) _ _ (λ b. tt) (λ b. keeps address s.durable _ s.client refl h))

delete_plans : (address : ℕ) (s : DistState) → HasPlan address s → Plans address (receivers_delete_all s)
delete_plans address s h = split address (is_idle s.durable.phase) _ _ (λ a. keeps address s.durable _ s.client refl h) (λ a. tt)

takes_plan : (address : ℕ) (s : DistState) (u : UploadStart) (meta : Meta) (banks : List ℕ) → HasPlan address s → Plans address (takes_in s u meta banks)
takes_plan address s u meta [] h = tt
takes_plan address s u meta (bank ∷ others) h = split address (nat_lt s.durable.capacity u.size) _ _ (λ a. tt) (λ a. keeps address s.durable _ s.client refl h)

takes_or_plan : (address : ℕ) (s : DistState) (u : UploadStart) (meta : Meta) (upload : Upload) → HasPlan address s → Plans address (takes_or_resumes s u meta upload)
takes_or_plan address s u meta (Broken (Some j)) h = split address (same_upload_start u s.durable j) _ _ (λ a. keeps address s.durable _ s.client refl h) (λ a. takes_plan address s u meta (empty_banks s.durable.images None) h)
takes_or_plan address s u meta (Broken None) h = takes_plan address s u meta (empty_banks s.durable.images None) h
takes_or_plan address s u meta NoUpload h = takes_plan address s u meta (empty_banks s.durable.images None) h
takes_or_plan address s u meta (Uploading j) h = takes_plan address s u meta (empty_banks s.durable.images None) h
takes_or_plan address s u meta Uploaded h = takes_plan address s u meta (empty_banks s.durable.images None) h

offers_plan : (address : ℕ) (s : DistState) (u : UploadStart) (upload : Upload) (offer : Option Meta) → HasPlan address s → Plans address (offers s u upload offer)
offers_plan address s u upload None h = tt
offers_plan address s u upload (Some meta) h = split address (has_image s.durable.images meta) _ _ (λ a. keeps address s.durable _ s.client refl h) (λ a. takes_or_plan address s u meta upload h)

upload_plans : (address : ℕ) (s : DistState) (u : UploadStart) (upload : Upload) → HasPlan address s → Plans address (upload_start s u upload)
upload_plans address s u (Uploading j) h = split address (same_upload_start u s.durable j) _ _ (λ a. h) (λ a. tt)
upload_plans address s u NoUpload h = split address (is_at_rest s.durable.phase) _ _ (λ a. offers_plan address s u NoUpload (offered_meta u) h) (λ a. tt)
upload_plans address s u (Broken job) h = split address (is_at_rest s.durable.phase) _ _ (λ a. offers_plan address s u (Broken job) (offered_meta u) h) (λ a. tt)
upload_plans address s u Uploaded h = split address (is_at_rest s.durable.phase) _ _ (λ a. offers_plan address s u Uploaded (offered_meta u) h) (λ a. tt)

-- where images go there is no client
fewer : (address : ℕ) (s : DistState) (images : List StoredImage) → IsDistState s → is_at_rest s.durable.phase ≡ true → HasPlan address (with_images s images)
fewer address s images h rest = rests address (record (s.durable) { images = images }) (is_at_rest s.durable.phase) s.client s.durable.receivers s.progress rest h.client

rest_of : (b : Bool) → not b ≡ false → b ≡ true
rest_of true e = refl
rest_of false e = cc

firmware_plans : (address : ℕ) (s : DistState) (fwid : List ℕ) → IsDistState s → Plans address (firmware_delete s fwid)
firmware_plans address s fwid h =
    split address (not (is_at_rest s.durable.phase)) _ _ (λ a. tt)
    (λ a. split address (is_in_upload (run_upload s)) _ _ (λ b. tt)
    (λ b. split address (is_none (index_of s.durable.images fwid)) _ _ (λ c. tt) (λ c. fewer address s _ h (rest_of (is_at_rest s.durable.phase) a))))

all_plans : (address : ℕ) (s : DistState) → IsDistState s → Plans address (firmware_delete_all s)
all_plans address s h =
    split address (not (is_at_rest s.durable.phase)) _ _ (λ a. tt)
    (λ a. split address (is_in_upload (run_upload s)) _ _ (λ b. tt) (λ b. fewer address s [] h (rest_of (is_at_rest s.durable.phase) a)))

request_plans : (address : ℕ) (s : DistState) (to : ℕ) (request : DistRequest) → IsDistState s → HasPlan address s → HasPlan address (on_request address s to request).next
request_plans address s to (ReceiversAdd entries) h k = led address s to receivers_status (receivers_add s entries) k (add_plans address s entries k)
request_plans address s to ReceiversDeleteAll h k = led address s to receivers_status (receivers_delete_all s) k (delete_plans address s k)
request_plans address s to (ReceiversGet first limit) h k = k
request_plans address s to CapabilitiesGet h k = k
request_plans address s to DistributionGet h k = k
request_plans address s to (DistributionStart ask) h k = led address s to distribution_status (distribution_start address s ask s.durable.phase) k (start_plans address s ask s.durable.phase k)
request_plans address s to DistributionSuspend h k = led address s to distribution_status (distribution_suspend s s.durable.phase) k (suspend_plans address s s.durable.phase k)
request_plans address s to DistributionCancel h k = led address s to distribution_status (distribution_cancel s s.durable.phase) k (cancel_plans address s s.durable.phase k)
request_plans address s to DistributionApply h k = led address s to distribution_status (distribution_apply s s.durable.phase) k (apply_plans address s s.durable.phase k)
request_plans address s to UploadGet h k = k
request_plans address s to (StartUpload u) h k = led address s to upload_status (upload_start s u (run_upload s)) k (upload_plans address s u (run_upload s) k)
request_plans address s to StartUploadOob h k = k
request_plans address s to UploadCancel h k = committed_keeps address s (upload_cancel s) (keeps address s.durable _ s.client refl k)
request_plans address s to (FirmwareGet fwid) h k = k
request_plans address s to (FirmwareGetByIndex index) h k = k
request_plans address s to (FirmwareDelete fwid) h k = led address s to (firmware_status no_index (Some fwid)) (firmware_delete s fwid) k (firmware_plans address s fwid h)
request_plans address s to FirmwareDeleteAll h k = led address s to (firmware_status no_index None) (firmware_delete_all s) k (all_plans address s h)

-- ---- the other messages

change_plans : (address : ℕ) (s : DistState) (c : Change) (l : Session) → HasPlan address s → HasPlan address (with_session (blob_changed s c) l)
change_plans address s Same l h = keeps address s.durable _ s.client refl h
change_plans address s (Begins p) l h = keeps address s.durable _ s.client refl h
change_plans address s Drops l h = keeps address s.durable _ s.client refl h
change_plans address s (Puts block octets) l h = keeps address s.durable _ s.client refl h

hears_plans : (address : ℕ) (s : DistState) (from : ℕ) (answer : Answer) (client : Option Client) → s.client ≡ client → AnswerFits answer → HasPlan address s → HasPlan address (hears s from answer client).next
hears_plans address s from answer None e fits h = h
hears_plans address s from answer (Some c) e fits h =
    let k = told_plan address s.durable c from answer s.moment fits (own_plan address s.durable s.client c e h) in
    committed_keeps address s (with_client s (told c from answer s.moment)) (record { sending = k.sending; purpose = k.purpose; queue = k.queue })

taken_plans : (address : ℕ) (s : DistState) (from : ℕ) (taken : Taken) → TakenFits taken → IsDistState s → HasPlan address s → HasPlan address (on_taken address s from taken).next
taken_plans address s from (OfDistribution request) fits h k = request_plans address s from request h k
taken_plans address s from (OfBlob request) fits h k = change_plans address s (on_blob (server_of s) from request).change (on_blob (server_of s) from request).session k
taken_plans address s from (OfReceiver answer) fits h k = hears_plans address s from answer s.client refl fits k

-- ---- time

broken_plans : (address : ℕ) (s : DistState) (link : Link) (upload : Upload) → HasPlan address s → HasPlan address (broken_by link upload s)
broken_plans address s Cut (Uploading j) h = keeps address s.durable _ s.client refl h
broken_plans address s Cut NoUpload h = h
broken_plans address s Cut (Broken job) h = h
broken_plans address s Cut Uploaded h = h
broken_plans address s Ready upload h = h
broken_plans address s Running upload h = h

pub server_plans : (address : ℕ) (s : DistState) (o : Served) → HasPlan address s → HasPlan address (server_waits s o)
server_plans address s o h = broken_plans address (with_session s o.session) o.session.link (run_upload s) (keeps address s.durable s.durable s.client refl h)

either : (address : ℕ) (b : Bool) (x y : DistState) → HasPlan address x → HasPlan address y → HasPlan address (cond b x y)
either address true x y h k = h
either address false x y h k = k

going_by : (address : ℕ) (s : DistState) (b : Bool) → HasPlan address s → HasPlan address (goes_on_by address s b)
going_by address s true h = h
going_by address s false h = begun_planned address s

verifying : (address : ℕ) (s : DistState) (c : Client) → HasPlan address s → HasPlan address (has_verified address s c)
verifying address s c h =
    let p : DistPhase = cond (s.durable.settings.policy == 1) ApplyingUpdate TransferSuccess in
    either address (not (has_phase s.durable.receivers (4 ∷ 6 ∷ 8 ∷ []))) (at_rest s Failed) (goes_on address s c p) tt
    (going_by address (in_phase s p) (list_any is_active c.receivers) (keeps address s.durable (record (s.durable) { phase = p }) s.client refl h))

advances : (address : ℕ) (s : DistState) (c : Client) (p : DistPhase) (stage : Stage) → HasPlan address s → HasPlan address (advanced address s c p stage)
advances address s c TransferActive Transfer h = h
advances address s c TransferActive Verified h = verifying address s c h
advances address s c TransferActive Applying h = verifying address s c h
advances address s c TransferActive Canceling h = verifying address s c h
advances address s c TransferActive Ended h = verifying address s c h
advances address s c ApplyingUpdate Ended h = tt
advances address s c ApplyingUpdate Transfer h = h
advances address s c ApplyingUpdate Verified h = h
advances address s c ApplyingUpdate Applying h = h
advances address s c ApplyingUpdate Canceling h = h
advances address s c CancelingUpdate Ended h = tt
advances address s c CancelingUpdate Transfer h = h
advances address s c CancelingUpdate Verified h = h
advances address s c CancelingUpdate Applying h = h
advances address s c CancelingUpdate Canceling h = h
advances address s c Idle stage h = h
advances address s c TransferSuccess stage h = h
advances address s c Completed stage h = h
advances address s c Failed stage h = h
advances address s c TransferSuspended stage h = h

turn_plans : (address : ℕ) (t : DistState) (c : Client) (image : List ℕ) (now : ℕ) → DoesPlan address t.durable c → HasPlan address (after_turn address t (due c image now).next)
turn_plans address t c image now h =
    let k = due_plan address t.durable c image now h in
    advances address (with_client t (due c image now).next) (due c image now).next t.durable.phase (stage_of (due c image now).next) (record { sending = k.sending; purpose = k.purpose; queue = k.queue })

client_plans : (address : ℕ) (s t : DistState) (reports : List (ℕ × Sent)) (client : Option Client) → t.client ≡ client → HasPlan address t → HasPlan address (client_waits address s t reports client).next
client_plans address s t reports None e h = committed_keeps address s t h
client_plans address s t reports (Some c) e h = by_phase (has_turns t.durable.phase)
  where
    by_phase : (b : Bool) → HasPlan address (cond b (client_turns address s t reports (due c (octets_of (offered t.durable)) t.moment)) (ends s t (λ u. reports))).next
    by_phase true = committed_keeps address s (after_turn address t (due c (octets_of (offered t.durable)) t.moment).next) (turn_plans address t c (octets_of (offered t.durable)) t.moment (own_plan address t.durable t.client c e h))
    by_phase false = committed_keeps address s t h

waits_plan : (address : ℕ) (s : DistState) (o : Served) → HasPlan address s → HasPlan address (waits address s o).next
waits_plan address s o h = client_plans address s (server_waits s o) (map by_blob o.replies) s.client (server_client (with_session s o.session) o.session.link (run_upload s)) (server_plans address s o h)

stores_plan : (address : ℕ) (s : DistState) (j : UploadJob) (b : Bool) → s.durable.upload ≡ Uploading j → IsDistState s → HasPlan address s → HasPlan address (verified s j b)
stores_plan address s j true e h k =
    let rest : is_at_rest s.durable.phase ≡ true = subst (HasUpload s.durable.phase) e h.durable.upload in
    rests address (verified s j true).durable (is_at_rest s.durable.phase) s.client s.durable.receivers s.progress rest h.client
stores_plan address s j false e h k = keeps address s.durable _ s.client refl k

time_plans : (address : ℕ) (s : DistState) (upload : Upload) → run_upload s ≡ upload → IsDistState s → HasPlan address s → HasPlan address (on_time address s upload).next
time_plans address s (Uploading j) e h k = by_whole (is_whole j.transfer)
  where
    by_whole : (b : Bool) → HasPlan address (cond b (verifies s j) (waits address s (on_server_time (server_of s) (server_of s).serving))).next
    by_whole true = committed_keeps address s (verified s j (is_fit (joined j.transfer.held) s.durable.upload_meta)) (stores_plan address s j (is_fit (joined j.transfer.held) s.durable.upload_meta) (run_is s.lags s.durable.upload j e) h k)
    by_whole false = waits_plan address s (on_server_time (server_of s) (server_of s).serving) k
time_plans address s NoUpload e h k = waits_plan address s (on_server_time (server_of s) (server_of s).serving) k
time_plans address s (Broken job) e h k = waits_plan address s (on_server_time (server_of s) (server_of s).serving) k
time_plans address s Uploaded e h k = waits_plan address s (on_server_time (server_of s) (server_of s).serving) k

-- ---- events

packet_plans : (address : ℕ) (s : DistState) (from : ℕ) (taken : Option Taken) → MatchOption taken (Unit {0}) TakenFits → IsDistState s → HasPlan address s → HasPlan address (on_packet address s from taken).next
packet_plans address s from (Some taken) fits h k = taken_plans address s from taken fits h k
packet_plans address s from None fits h k = k

event_plans : (address : ℕ) (s : DistState) (event : NodeEvent) → EventFits event → IsDistState s → HasPlan address s → HasPlan address (on_event address s event).next
event_plans address s (PacketComes packet) fits h k =
    elim (packet.to == address) as (λ b. HasPlan address (cond b (on_packet address s packet.from (taken_at packet.payload)) (passed_over s)).next) [
      | true ↦ packet_plans address s packet.from (taken_at packet.payload) fits h k
      | false ↦ k
    ]
event_plans address s TimeComes fits h k = time_plans address s (run_upload s) refl h k

pub planned_at : (address : ℕ) (s : DistState) (now : ℕ) → IsPlanned address s → IsPlanned address (at_moment s now)
planned_at address s now k = record { plan = keeps address s.durable s.durable s.client refl k.plan; place = k.place }

pub events_plan : EventsKeepPlanned
events_plan address s event now fits h k =
    record { plan = event_plans address (at_moment s now) event fits (moved s now h) (keeps address s.durable s.durable s.client refl k.plan); place = events_place address s event now k.place }

pub boots_plan : BootsArePlanned
boots_plan address d = record { plan = begun_planned address (awake d); place = boots_place address d }
