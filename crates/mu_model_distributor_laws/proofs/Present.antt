-- The client of a distributor cancels exactly in Canceling Update.
use Rattle.std.proofs.Common.{◌≡◌, ℕ, Bool, true, false, List, [], ◌∷◌, length, map, refl, sym, ap, subst, ◌∙◌, cond, Option, Some, None, Result, Ok, Err}
use Rattle.std.specs.Prelude.{◌+◌, ◌==◌, not, nat_le, nat_lt, is_none, MatchOption}
use Rattle.std.specs.List.{list_any}
use Rattle.mu_model_image.specs.declared.Meta.{Meta}
use Rattle.mu_model_image.specs.Meta.{is_fit}
use Rattle.mu_model_node.specs.Slots.{joined}
use Rattle.mu_model_node.specs.declared.Link.{Link}
use Rattle.mu_model_node.specs.declared.Link.TheVariants.{Cut, Ready, Running}
use Rattle.mu_model_node.specs.BlobServer.{Session, Change, Same, Begins, Drops, Puts}
use Rattle.mu_model_node.specs.BlobTable.{Served, on_blob, on_server_time}
use Rattle.mu_model_node.specs.Events.{NodeEvent, PacketComes, TimeComes}
use Rattle.mu_model_client.specs.declared.Sending.{Sending}
use Rattle.mu_model_client.specs.declared.Plan.{Plan}
use Rattle.mu_model_client.specs.declared.Stage.{Stage}
use Rattle.mu_model_client.specs.declared.Stage.TheVariants.{Transfer, Verified, Applying, Canceling, Ended}
use Rattle.mu_model_client.specs.Answers.{Answer}
use Rattle.mu_model_client.specs.Rows.{Row}
use Rattle.mu_model_client.specs.Client as c
use Rattle.mu_model_client.specs.Client.{Purpose, Step, Receiver, Item, Place, At, Before, Client, is_active, is_pending, is_begun_for, rows, at_moment as client_at, round_time, is_push, misses_chunks}
use Rattle.mu_model_client.specs.Lists.{chunk_items, wanted_of}
use Rattle.mu_model_client.specs.Told.{is_present, told}
use Rattle.mu_model_client.specs.Begin.{stage_of}
use Rattle.mu_model_client.specs.Due.{Due, Next, Go, Rests, Ends, after, after_blocks, block_or, least_missed, chunks_or, chunk_step, next_block, after_verify, applies as applies_by, begins_if, goes_on as goes, next_step, round_or_next, after_counting, if_round_over, by_round, by_wanted, list_is_sent, by_list, is_done, by_step, by_place, due}
use Rattle.mu_model_distributor.specs.declared.Settings.{Settings}
use Rattle.mu_model_distributor.specs.Requests.{Entry, UploadStart, DistRequest, ReceiversAdd, ReceiversDeleteAll, ReceiversGet, CapabilitiesGet, DistributionGet, DistributionStart, DistributionSuspend, DistributionCancel, DistributionApply, UploadGet, StartUpload, StartUploadOob, UploadCancel, FirmwareGet, FirmwareGetByIndex, FirmwareDelete, FirmwareDeleteAll}
use Rattle.mu_model_distributor.specs.Replies.{DistReply}
use Rattle.mu_model_distributor.specs.DistMessages.{Taken, OfDistribution, OfBlob, OfReceiver, taken_at, Sent}
use Rattle.mu_model_distributor.specs.declared.DistPhase.{DistPhase}
use Rattle.mu_model_distributor.specs.declared.DistPhase.TheVariants.{Idle, TransferActive, TransferSuccess, ApplyingUpdate, Completed, Failed, CancelingUpdate, TransferSuspended}
use Rattle.mu_model_distributor.specs.DistState.{UploadJob, Upload, NoUpload, Uploading, Broken, Uploaded, run_upload, DistDurable, DistState, is_at_rest, server_of, rows_of, offered}
use Rattle.mu_model_distributor.specs.Commit.{recorded_if, committed, ends, answered}
use Rattle.mu_model_distributor.specs.Receivers.{added, is_idle, empty_banks, receivers_status, receivers_add, receivers_delete_all}
use Rattle.mu_model_distributor.specs.Distribution.{plan_of, stage_in, begun_at, client_begun, with_client, in_phase, at_rest, are_settings, is_uploading, next_distribution, begins, distribution_status, distribution_start, distribution_suspend, cancels, distribution_cancel, applies, distribution_apply}
use Rattle.mu_model_distributor.specs.Uploads.{with_session, offered_meta, same_upload_start, has_image, takes_in, takes_or_resumes, offers, upload_status, upload_start, upload_cancel}
use Rattle.mu_model_distributor.specs.Firmware.{index_of, is_in_upload, no_index, firmware_status, firmware_delete, firmware_delete_all}
use Rattle.mu_model_distributor.specs.DistTable.{by_blob, on_request, blob_changed, hears, on_taken}
use Rattle.mu_model_distributor.specs.DistTime.{is_whole, verified, verifies, broken_by, server_waits, has_phase, goes_on_by, goes_on, has_verified, advanced, after_turn, octets_of, has_turns, client_turns, client_waits, waits, on_time}
use Rattle.mu_model_distributor.specs.DistEvents.{passed_over, at_moment, on_packet, on_event, dist_step, restarted}
use Rattle.mu_model_distributor_laws.specs.Planned.{has_transfer, StandsIn}
use Rattle.mu_model_distributor_laws.proofs.Times.{server_client}
use Rattle.mu_model_distributor_laws.proofs.Steps.{awake}

-- ---- a client's time events keep it

abbrev next_present : Next → Bool
next_present (Go step) = is_present (At step)
next_present Rests = true
next_present (Ends part) = is_present (c.Ended part)

begins_present : (x : Client) (image : List ℕ) (step : Step) (b : Bool) → is_present (begins_if x image step b).next.place ≡ is_present (At step)
begins_present x image step true = refl
begins_present x image step false = refl

goes_present : (x : Client) (image : List ℕ) (next : Next) → is_present (goes x image next).next.place ≡ next_present next
goes_present x image (Go step) = begins_present x image step (list_any (is_begun_for step) x.receivers)
goes_present x image Rests = refl
goes_present x image (Ends part) = refl

blocks_present : (purpose : Purpose) (found : Option ℕ) → next_present (block_or (after_blocks purpose) found) ≡ true
blocks_present c.Blob None = refl
blocks_present (c.Update meta apply) None = refl
blocks_present purpose (Some b) = refl

chunks_present : (step : Step) (next : Next) (b : Bool) → is_present (At step) ≡ true → next_present next ≡ true → next_present (cond b (Go step) next) ≡ true
chunks_present step next true h k = h
chunks_present step next false h k = k

chunk_present : (p : Sending) (b : ℕ) (push : Bool) → is_present (At (cond push (c.Chunks b) (c.Pull b))) ≡ true
chunk_present p b true = refl
chunk_present p b false = refl

verify_present : (apply : Bool) → next_present (after_verify apply) ≡ true
verify_present true = refl
verify_present false = refl

after_present : (p : Sending) (purpose : Purpose) (rs : List Receiver) (step : Step) → next_present (after p purpose rs step) ≡ is_present (At step)
after_present p purpose rs c.Check = refl
after_present p purpose rs c.Start = refl
after_present p purpose rs c.Information = refl
after_present p purpose rs c.Transfer = blocks_present purpose (least_missed p rs)
after_present p purpose rs (c.Block b) = chunks_present (chunk_step p b) (next_block p purpose rs) (list_any misses_chunks rs) (chunk_present p b (is_push p)) (blocks_present purpose (least_missed p rs))
after_present p purpose rs (c.Chunks b) = refl
after_present p purpose rs (c.Pull b) = blocks_present purpose (least_missed p rs)
after_present p purpose rs (c.Get b) = chunks_present (c.Chunks b) (next_block p purpose rs) (list_any misses_chunks rs) refl (blocks_present purpose (least_missed p rs))
after_present p purpose rs c.Verify = verify_present (applies_by purpose)
after_present p purpose rs c.Apply = refl
after_present p purpose rs c.Confirm = refl
after_present p purpose rs c.Cancel = refl

step_next : (x : Client) (image : List ℕ) (step : Step) → is_present (next_step x image step).next.place ≡ is_present (At step)
step_next x image step = goes_present x image (after x.sending x.purpose x.receivers step) ∙ after_present x.sending x.purpose x.receivers step

-- where it stands at the step
abbrev Stays : Step → Due → Type 0
Stays step d = is_present d.next.place ≡ is_present (At step)

round_or : (x : Client) (image : List ℕ) (step : Step) (b : Bool) → x.place ≡ At step → Stays step (round_or_next x image step b)
round_or x image step true e = ap is_present e
round_or x image step false e = step_next x image step

round_over : (x : Client) (image : List ℕ) (step : Step) (b : Bool) → x.place ≡ At step → Stays step (if_round_over x image step b)
round_over x image step true e = round_or (after_counting x step) image step (list_any is_pending (after_counting x step).receivers) e
round_over x image step false e = ap is_present e

round : (x : Client) (image : List ℕ) (step : Step) → x.place ≡ At step → Stays step (by_round x image step)
round x image step e = round_over x image step (nat_le (x.began + round_time x.sending) x.moment) e

wanted : (x : Client) (image : List ℕ) (step : Step) (items : List Item) → x.place ≡ At step → Stays step (by_wanted x image step items)
wanted x image step [] e = round x image step e
wanted x image step (item ∷ items) e = ap is_present e

sent : (x : Client) (image : List ℕ) (step : Step) → x.place ≡ At step → Stays step (list_is_sent x image step)
sent x image (c.Pull b) e = wanted x image (c.Pull b) (chunk_items x.sending b wanted_of x.receivers) e
sent x image step e = round x image step e

listed : (x : Client) (image : List ℕ) (step : Step) (items : List Item) → x.place ≡ At step → Stays step (by_list x image step items)
listed x image step [] e = sent x image step e
listed x image step (item ∷ items) e = ap is_present e

stepped : (x : Client) (image : List ℕ) (step : Step) (b : Bool) → x.place ≡ At step → Stays step (by_step x image step b)
stepped x image step true e = step_next x image step
stepped x image step false e = listed x image step x.queue e

placed : (x : Client) (image : List ℕ) (place : Place) → x.place ≡ place → is_present (by_place x image place).next.place ≡ is_present place
placed x image (Before step) e = goes_present x image (Go step)
placed x image (At step) e = stepped x image step (is_done x step) e
placed x image c.Verified e = ap is_present e
placed x image (c.Ended part) e = ap is_present e

due_present : (x : Client) (image : List ℕ) (now : ℕ) → is_present (due x image now).next.place ≡ is_present x.place
due_present x image now = placed (client_at x now) image x.place refl

-- ---- clients and phases

abbrev Fits : Bool → Option Client → Type 0
Fits has client = MatchOption client (Unit {0}) (λ (x : Client). is_present x.place ≡ has)

abbrev pub HasPlace : DistState → Type 0
HasPlace s = MatchOption s.client (Unit {0}) (StandsIn s.durable.phase)

with_other : (b has : Bool) (client : Option Client) → has ≡ b → Fits b client → Fits has client
with_other b has client e h = subst (λ x. Fits x client) (sym e) h

pub own_place : (s : DistState) (x : Client) → s.client ≡ Some x → HasPlace s → is_present x.place ≡ has_transfer s.durable.phase
own_place s x e h = subst (Fits (has_transfer s.durable.phase)) e h

begins_place : (plan : Plan) (given : List Row) (p : DistPhase) → MatchOption (begun_at plan given (stage_in p)) (Unit {0}) (StandsIn p)
begins_place plan given Idle = tt
begins_place plan given TransferActive = refl
begins_place plan given TransferSuccess = refl
begins_place plan given ApplyingUpdate = refl
begins_place plan given Completed = tt
begins_place plan given Failed = tt
begins_place plan given CancelingUpdate = refl
begins_place plan given TransferSuspended = refl

begun_place : (address : ℕ) (s : DistState) → HasPlace (client_begun address s)
begun_place address s = begins_place (plan_of address s.durable) (rows_of s) s.durable.phase

recorded_place : (t : DistState) (b : Bool) → HasPlace t → HasPlace (recorded_if t b)
recorded_place t true h = h
recorded_place t false h = h

committed_place : (s t : DistState) → HasPlace t → HasPlace (committed s t)
committed_place s t h = recorded_place t _ h

-- ---- requests

abbrev Places : Result DistState ℕ → Type 0
Places (Ok t) = HasPlace t
Places (Err status) = Unit {0}

split : (b : Bool) (x y : Result DistState ℕ) → Places x → Places y → Places (cond b x y)
split true x y h k = h
split false x y h k = k

led : (s : DistState) (to : ℕ) (show : ℕ → DistState → DistReply) (r : Result DistState ℕ) → HasPlace s → Places r → HasPlace (answered s to show r).next
led s to show (Ok t) h k = committed_place s t k
led s to show (Err status) h k = h

starts : (address : ℕ) (s : DistState) (ask : Option Settings) → Places (begins address s ask)
starts address s None = tt
starts address s (Some ask) =
    split (is_uploading (run_upload s)) _ _ tt
    (split (nat_le (length s.durable.images) ask.image) _ _ tt
    (split (length s.durable.receivers == 0) _ _ tt
    (split (s.durable.counter == 281474976710655) _ _ tt (begun_place address (next_distribution s ask)))))

start_places : (address : ℕ) (s : DistState) (ask : Option Settings) (p : DistPhase) → HasPlace s → Places (distribution_start address s ask p)
start_places address s ask Idle h = starts address s ask
start_places address s ask Completed h = starts address s ask
start_places address s ask Failed h = starts address s ask
start_places address s ask TransferSuspended h = split (are_settings ask s.durable.settings) _ _ (begun_place address (in_phase s TransferActive)) tt
start_places address s ask TransferActive h = split (are_settings ask s.durable.settings) _ _ h tt
start_places address s ask TransferSuccess h = split (are_settings ask s.durable.settings) _ _ h tt
start_places address s ask ApplyingUpdate h = split (are_settings ask s.durable.settings) _ _ h tt
start_places address s ask CancelingUpdate h = split (are_settings ask s.durable.settings) _ _ h tt

suspend_places : (s : DistState) (p : DistPhase) → s.durable.phase ≡ p → HasPlace s → Places (distribution_suspend s p)
suspend_places s TransferActive e h = with_other (has_transfer s.durable.phase) true s.client (sym (ap has_transfer e)) h
suspend_places s TransferSuspended e h = h
suspend_places s Idle e h = tt
suspend_places s TransferSuccess e h = tt
suspend_places s ApplyingUpdate e h = tt
suspend_places s Completed e h = tt
suspend_places s Failed e h = tt
suspend_places s CancelingUpdate e h = tt

no_client : (has : Bool) (client : Option Client) → client ≡ None → Fits has client
no_client has client e = rw e tt

canceled : (s : DistState) (client : Option Client) → s.client ≡ client → HasPlace (cancels s client)
canceled s None e = no_client false s.client e
canceled s (Some x) e = refl

cancel_places : (s : DistState) (p : DistPhase) → HasPlace s → Places (distribution_cancel s p)
cancel_places s TransferActive h = canceled s s.client refl
cancel_places s TransferSuccess h = canceled s s.client refl
cancel_places s TransferSuspended h = canceled s s.client refl
cancel_places s Completed h = tt
cancel_places s Failed h = tt
cancel_places s ApplyingUpdate h = tt
cancel_places s Idle h = h
cancel_places s CancelingUpdate h = h

applied : (s : DistState) (client : Option Client) → s.client ≡ client → HasPlace (applies s client)
applied s None e = no_client true s.client e
applied s (Some x) e = refl

apply_places : (s : DistState) (p : DistPhase) → HasPlace s → Places (distribution_apply s p)
apply_places s TransferSuccess h = applied s s.client refl
apply_places s ApplyingUpdate h = h
apply_places s Idle h = tt
apply_places s TransferActive h = tt
apply_places s Completed h = tt
apply_places s Failed h = tt
apply_places s CancelingUpdate h = tt
apply_places s TransferSuspended h = tt

takes_place : (s : DistState) (u : UploadStart) (meta : Meta) (banks : List ℕ) → HasPlace s → Places (takes_in s u meta banks)
takes_place s u meta [] h = tt
takes_place s u meta (bank ∷ others) h = split (nat_lt s.durable.capacity u.size) _ _ tt h

takes_or_place : (s : DistState) (u : UploadStart) (meta : Meta) (upload : Upload) → HasPlace s → Places (takes_or_resumes s u meta upload)
takes_or_place s u meta (Broken (Some j)) h = split (same_upload_start u s.durable j) _ _ h (takes_place s u meta (empty_banks s.durable.images None) h)
takes_or_place s u meta (Broken None) h = takes_place s u meta (empty_banks s.durable.images None) h
takes_or_place s u meta NoUpload h = takes_place s u meta (empty_banks s.durable.images None) h
takes_or_place s u meta (Uploading j) h = takes_place s u meta (empty_banks s.durable.images None) h
takes_or_place s u meta Uploaded h = takes_place s u meta (empty_banks s.durable.images None) h

offers_place : (s : DistState) (u : UploadStart) (upload : Upload) (offer : Option Meta) → HasPlace s → Places (offers s u upload offer)
offers_place s u upload None h = tt
offers_place s u upload (Some meta) h = split (has_image s.durable.images meta) _ _ h (takes_or_place s u meta upload h)

upload_places : (s : DistState) (u : UploadStart) (upload : Upload) → HasPlace s → Places (upload_start s u upload)
upload_places s u (Uploading j) h = split (same_upload_start u s.durable j) _ _ h tt
upload_places s u NoUpload h = split (is_at_rest s.durable.phase) _ _ (offers_place s u NoUpload (offered_meta u) h) tt
upload_places s u (Broken job) h = split (is_at_rest s.durable.phase) _ _ (offers_place s u (Broken job) (offered_meta u) h) tt
upload_places s u Uploaded h = split (is_at_rest s.durable.phase) _ _ (offers_place s u Uploaded (offered_meta u) h) tt

add_places : (s : DistState) (entries : List Entry) → HasPlace s → Places (receivers_add s entries)
add_places s entries h = split (not (is_idle s.durable.phase)) _ _ tt (split (nat_lt 128 (length (added s.durable.receivers entries))) _ _ tt h)

delete_places : (s : DistState) → HasPlace s → Places (receivers_delete_all s)
delete_places s h = split (is_idle s.durable.phase) _ _ h tt

firmware_places : (s : DistState) (fwid : List ℕ) → HasPlace s → Places (firmware_delete s fwid)
firmware_places s fwid h =
    split (not (is_at_rest s.durable.phase)) _ _ tt (split (is_in_upload (run_upload s)) _ _ tt (split (is_none (index_of s.durable.images fwid)) _ _ tt h))

all_places : (s : DistState) → HasPlace s → Places (firmware_delete_all s)
all_places s h = split (not (is_at_rest s.durable.phase)) _ _ tt (split (is_in_upload (run_upload s)) _ _ tt h)

request_places : (address : ℕ) (s : DistState) (to : ℕ) (request : DistRequest) → HasPlace s → HasPlace (on_request address s to request).next
request_places address s to (ReceiversAdd entries) h = led s to receivers_status (receivers_add s entries) h (add_places s entries h)
request_places address s to ReceiversDeleteAll h = led s to receivers_status (receivers_delete_all s) h (delete_places s h)
request_places address s to (ReceiversGet first limit) h = h
request_places address s to CapabilitiesGet h = h
request_places address s to DistributionGet h = h
request_places address s to (DistributionStart ask) h = led s to distribution_status (distribution_start address s ask s.durable.phase) h (start_places address s ask s.durable.phase h)
request_places address s to DistributionSuspend h = led s to distribution_status (distribution_suspend s s.durable.phase) h (suspend_places s s.durable.phase refl h)
request_places address s to DistributionCancel h = led s to distribution_status (distribution_cancel s s.durable.phase) h (cancel_places s s.durable.phase h)
request_places address s to DistributionApply h = led s to distribution_status (distribution_apply s s.durable.phase) h (apply_places s s.durable.phase h)
request_places address s to UploadGet h = h
request_places address s to (StartUpload u) h = led s to upload_status (upload_start s u (run_upload s)) h (upload_places s u (run_upload s) h)
request_places address s to StartUploadOob h = h
request_places address s to UploadCancel h = committed_place s (upload_cancel s) h
request_places address s to (FirmwareGet fwid) h = h
request_places address s to (FirmwareGetByIndex index) h = h
request_places address s to (FirmwareDelete fwid) h = led s to (firmware_status no_index (Some fwid)) (firmware_delete s fwid) h (firmware_places s fwid h)
request_places address s to FirmwareDeleteAll h = led s to (firmware_status no_index None) (firmware_delete_all s) h (all_places s h)

-- ---- the other messages

change_places : (s : DistState) (x : Change) (l : Session) → HasPlace s → HasPlace (with_session (blob_changed s x) l)
change_places s Same l h = h
change_places s (Begins p) l h = h
change_places s Drops l h = h
change_places s (Puts block octets) l h = h

hears_place : (s : DistState) (from : ℕ) (answer : Answer) (client : Option Client) → s.client ≡ client → HasPlace s → HasPlace (hears s from answer client).next
hears_place s from answer None e h = h
hears_place s from answer (Some x) e h = committed_place s (with_client s (told x from answer s.moment)) (own_place s x e h)

taken_places : (address : ℕ) (s : DistState) (from : ℕ) (taken : Taken) → HasPlace s → HasPlace (on_taken address s from taken).next
taken_places address s from (OfDistribution request) h = request_places address s from request h
taken_places address s from (OfBlob request) h = change_places s (on_blob (server_of s) from request).change (on_blob (server_of s) from request).session h
taken_places address s from (OfReceiver answer) h = hears_place s from answer s.client refl h

-- ---- time

broken_places : (s : DistState) (link : Link) (upload : Upload) → HasPlace s → HasPlace (broken_by link upload s)
broken_places s Cut (Uploading j) h = h
broken_places s Cut NoUpload h = h
broken_places s Cut (Broken job) h = h
broken_places s Cut Uploaded h = h
broken_places s Ready upload h = h
broken_places s Running upload h = h

server_places : (s : DistState) (o : Served) → HasPlace s → HasPlace (server_waits s o)
server_places s o h = broken_places (with_session s o.session) o.session.link (run_upload s) h

going_by : (address : ℕ) (s : DistState) (b : Bool) → HasPlace s → HasPlace (goes_on_by address s b)
going_by address s true h = h
going_by address s false h = begun_place address s

in_either : (s : DistState) (apply : Bool) → has_transfer s.durable.phase ≡ true → HasPlace s → HasPlace (in_phase s (cond apply ApplyingUpdate TransferSuccess))
in_either s true e h = with_other (has_transfer s.durable.phase) true s.client (sym e) h
in_either s false e h = with_other (has_transfer s.durable.phase) true s.client (sym e) h

either : (b : Bool) (x y : DistState) → HasPlace x → HasPlace y → HasPlace (cond b x y)
either true x y h k = h
either false x y h k = k

verifying : (address : ℕ) (s : DistState) (x : Client) → has_transfer s.durable.phase ≡ true → HasPlace s → HasPlace (has_verified address s x)
verifying address s x e h =
    let p : DistPhase = cond (s.durable.settings.policy == 1) ApplyingUpdate TransferSuccess in
    either (not (has_phase s.durable.receivers (4 ∷ 6 ∷ 8 ∷ []))) (at_rest s Failed) (goes_on address s x p) tt
    (going_by address (in_phase s p) (list_any is_active x.receivers) (in_either s (s.durable.settings.policy == 1) e h))

advances : (address : ℕ) (s : DistState) (x : Client) (p : DistPhase) (stage : Stage) → s.durable.phase ≡ p → HasPlace s → HasPlace (advanced address s x p stage)
advances address s x TransferActive Transfer e h = h
advances address s x TransferActive Verified e h = verifying address s x (ap has_transfer e) h
advances address s x TransferActive Applying e h = verifying address s x (ap has_transfer e) h
advances address s x TransferActive Canceling e h = verifying address s x (ap has_transfer e) h
advances address s x TransferActive Ended e h = verifying address s x (ap has_transfer e) h
advances address s x ApplyingUpdate Ended e h = tt
advances address s x ApplyingUpdate Transfer e h = h
advances address s x ApplyingUpdate Verified e h = h
advances address s x ApplyingUpdate Applying e h = h
advances address s x ApplyingUpdate Canceling e h = h
advances address s x CancelingUpdate Ended e h = tt
advances address s x CancelingUpdate Transfer e h = h
advances address s x CancelingUpdate Verified e h = h
advances address s x CancelingUpdate Applying e h = h
advances address s x CancelingUpdate Canceling e h = h
advances address s x Idle stage e h = h
advances address s x TransferSuccess stage e h = h
advances address s x Completed stage e h = h
advances address s x Failed stage e h = h
advances address s x TransferSuspended stage e h = h

turn_places : (address : ℕ) (t : DistState) (x : Client) (image : List ℕ) (now : ℕ) → is_present x.place ≡ has_transfer t.durable.phase → HasPlace (after_turn address t (due x image now).next)
turn_places address t x image now h =
    advances address (with_client t (due x image now).next) (due x image now).next t.durable.phase (stage_of (due x image now).next) refl (due_present x image now ∙ h)

client_places : (address : ℕ) (s t : DistState) (reports : List (ℕ × Sent)) (client : Option Client) → t.client ≡ client → HasPlace t → HasPlace (client_waits address s t reports client).next
client_places address s t reports None e h = committed_place s t h
client_places address s t reports (Some x) e h = by_phase (has_turns t.durable.phase)
  where
    by_phase : (b : Bool) → HasPlace (cond b (client_turns address s t reports (due x (octets_of (offered t.durable)) t.moment)) (ends s t (λ u. reports))).next
    by_phase true = committed_place s (after_turn address t (due x (octets_of (offered t.durable)) t.moment).next) (turn_places address t x (octets_of (offered t.durable)) t.moment (own_place t x e h))
    by_phase false = committed_place s t h

waits_place : (address : ℕ) (s : DistState) (o : Served) → HasPlace s → HasPlace (waits address s o).next
waits_place address s o h = client_places address s (server_waits s o) (map by_blob o.replies) s.client (server_client (with_session s o.session) o.session.link (run_upload s)) (server_places s o h)

verified_place : (s : DistState) (j : UploadJob) (b : Bool) → HasPlace s → HasPlace (verified s j b)
verified_place s j true h = h
verified_place s j false h = h

time_places : (address : ℕ) (s : DistState) (upload : Upload) → HasPlace s → HasPlace (on_time address s upload).next
time_places address s (Uploading j) h = by_whole (is_whole j.transfer)
  where
    by_whole : (b : Bool) → HasPlace (cond b (verifies s j) (waits address s (on_server_time (server_of s) (server_of s).serving))).next
    by_whole true = committed_place s (verified s j (is_fit (joined j.transfer.held) s.durable.upload_meta)) (verified_place s j (is_fit (joined j.transfer.held) s.durable.upload_meta) h)
    by_whole false = waits_place address s (on_server_time (server_of s) (server_of s).serving) h
time_places address s NoUpload h = waits_place address s (on_server_time (server_of s) (server_of s).serving) h
time_places address s (Broken job) h = waits_place address s (on_server_time (server_of s) (server_of s).serving) h
time_places address s Uploaded h = waits_place address s (on_server_time (server_of s) (server_of s).serving) h

-- ---- events

packet_places : (address : ℕ) (s : DistState) (from : ℕ) (taken : Option Taken) → HasPlace s → HasPlace (on_packet address s from taken).next
packet_places address s from (Some taken) h = taken_places address s from taken h
packet_places address s from None h = h

event_places : (address : ℕ) (s : DistState) (event : NodeEvent) → HasPlace s → HasPlace (on_event address s event).next
event_places address s (PacketComes packet) h =
    elim (packet.to == address) as (λ b. HasPlace (cond b (on_packet address s packet.from (taken_at packet.payload)) (passed_over s)).next) [
      | true ↦ packet_places address s packet.from (taken_at packet.payload) h
      | false ↦ h
    ]
event_places address s TimeComes h = time_places address s (run_upload s) h

pub events_place : (address : ℕ) (s : DistState) (event : NodeEvent) (now : ℕ) → HasPlace s → HasPlace (dist_step address s event now).next
events_place address s event now h = event_places address (at_moment s now) event h

pub boots_place : (address : ℕ) (d : DistDurable) → HasPlace (restarted address d)
boots_place address d = begun_place address (awake d)
