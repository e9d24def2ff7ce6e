-- Each change of a row has its cause.
use Rattle.std.proofs.Common.{◌≡◌, ℕ, Bool, true, false, List, [], ◌∷◌, ◌++◌, length, map, drop, refl, sym, ap, subst, ◌∙◌, cond, arith, Option, Some, None, Result, Ok, Err, ◌⊎◌, inl, inr}
use Rattle.std.specs.Prelude.{⊤, ◌==◌, not, nat_lt, nat_le, is_none, MatchOption}
use Rattle.std.proofs.lemmas.Bool.{eqb-true}
use Rattle.std.proofs.lemmas.Bool.Decides.{nat_tests}
use Rattle.mu_model_image.specs.declared.Meta.{Meta}
use Rattle.mu_model_image.specs.Meta.{is_fit}
use Rattle.mu_model_node.specs.Slots.{joined}
use Rattle.mu_model_node.specs.BlobServer.{Session, Change, Same, Begins, Drops, Puts}
use Rattle.mu_model_node.specs.BlobTable.{Served, on_blob, on_server_time}
use Rattle.mu_model_node.specs.Events.{NodeEvent, PacketComes, TimeComes}
use Rattle.mu_model_wire.specs.Packet.{Packet}
use Rattle.mu_model_client.specs.declared.Sending.{Sending}
use Rattle.mu_model_client.specs.Answers.{Answer}
use Rattle.mu_model_client.specs.Rows.{Row, rank, row_after}
use Rattle.mu_model_client.specs.Client.{Purpose, Update, Client, Receiver as Told, row_of, rows}
use Rattle.mu_model_client.specs.Told.{is_present, row_told, told_if, told}
use Rattle.mu_model_client.specs.Begin.{stage_of, take_cancel, canceled as told_canceled}
use Rattle.mu_model_client.specs.Due.{due}
use Rattle.mu_model_distributor.specs.declared.Settings.{Settings}
use Rattle.mu_model_distributor.specs.Requests.{Entry, UploadStart, DistRequest, ReceiversAdd, ReceiversDeleteAll, ReceiversGet, CapabilitiesGet, DistributionGet, DistributionStart, DistributionSuspend, DistributionCancel, DistributionApply, UploadGet, StartUpload, StartUploadOob, UploadCancel, FirmwareGet, FirmwareGetByIndex, FirmwareDelete, FirmwareDeleteAll}
use Rattle.mu_model_distributor.specs.Replies.{DistReply}
use Rattle.mu_model_distributor.specs.DistMessages.{Taken, OfDistribution, OfBlob, OfReceiver, taken_at, Sent}
use Rattle.mu_model_distributor.specs.declared.DistPhase.{DistPhase}
use Rattle.mu_model_distributor.specs.declared.DistPhase.TheVariants.{Idle, TransferActive, TransferSuccess, ApplyingUpdate, Completed, Failed, CancelingUpdate, TransferSuspended}
use Rattle.mu_model_distributor.specs.DistState.{Receiver, UploadJob, Upload, NoUpload, Uploading, Broken, Uploaded, run_upload, DistDurable, DistState, is_at_rest, server_of, receiver_of, transfer_id, offered, no_progress}
use Rattle.mu_model_distributor.specs.Same.{same_durable}
use Rattle.mu_model_distributor.specs.Commit.{recorded_if, committed, ends, answered}
use Rattle.mu_model_distributor.specs.Receivers.{added, with_receivers, is_idle, empty_banks, receivers_status, receivers_add, receivers_delete_all}
use Rattle.mu_model_distributor.specs.Distribution.{meta_of, plan_of, client_begun, begun, resumes, with_client, at_rest, are_settings, is_uploading, next_distribution, begins as begins_row, distribution_status, distribution_start, distribution_suspend, cancels, distribution_cancel, applies, distribution_apply}
use Rattle.mu_model_distributor.specs.Uploads.{with_session, offered_meta, same_upload_start, has_image, takes_in, takes_or_resumes, offers, upload_status, upload_start, upload_cancel}
use Rattle.mu_model_distributor.specs.Firmware.{index_of, is_in_upload, no_index, firmware_status, firmware_delete, firmware_delete_all}
use Rattle.mu_model_distributor.specs.DistTable.{by_blob, on_request, blob_changed, hears, on_taken}
use Rattle.mu_model_distributor.specs.DistTime.{is_whole, verified, verifies, server_waits, after_turn, octets_of, has_turns, client_turns, client_waits, waits, on_time}
use Rattle.mu_model_distributor.specs.DistEvents.{passed_over, at_moment, on_packet, on_event}
use Rattle.mu_model_distributor.specs.Sound.{IsDistState, AnswerFits, TakenFits}
use Rattle.mu_model_distributor_laws.specs.Laws.{EventFits}
use Rattle.mu_model_distributor_laws.specs.Planned.{has_transfer, DoesPlan, IsPlanned}
use Rattle.mu_model_distributor_laws.specs.RowMoves.{Each, Says, RowChange, stands, told as by_answer, canceled, unconfirmed, RowMoves, ReceiversMove, begins, adds, empties, moves, RowsMoveByCause}
use Rattle.mu_model_distributor_laws.proofs.ClientRows.{Keeps, told_keeps, present_phase, canceled_phase}
use Rattle.mu_model_distributor_laws.proofs.ClientDue.{RowsBy, Times, due_times}
use Rattle.mu_model_distributor_laws.proofs.Moved.{has_rows}
use Rattle.mu_model_distributor_laws.proofs.Present.{own_place}
use Rattle.mu_model_distributor_laws.proofs.Planned.{own_plan, planned_at}
use Rattle.mu_model_distributor_laws.proofs.Steps.{moved}
use Rattle.mu_model_distributor_laws.proofs.Offered.{Goes, broken_goes, advanced_goes}

-- ---- rows that stand

all_stand : (address : ℕ) (d : DistDurable) (event : NodeEvent) (rs : List Receiver) → Each (RowMoves address d event) rs rs
all_stand address d event [] = tt
all_stand address d event (r ∷ rs) = (record { address_same = refl; index_same = refl; phase_change = stands refl }, all_stand address d event rs)

abbrev SameRows : DistDurable → DistDurable → Type 0
SameRows d e = (e.counter ≡ d.counter) × (e.receivers ≡ d.receivers)

stay : (address : ℕ) (d : DistDurable) (event : NodeEvent) (e : DistDurable) → SameRows d e → ReceiversMove address d event e
stay address d event e h = moves h.0 (subst (λ rs. Each (RowMoves address d event) d.receivers rs) (sym h.1) (all_stand address d event d.receivers))

-- a record changes neither
recorded_rows : (t : DistState) (b : Bool) → SameRows t.durable (recorded_if t b).durable
recorded_rows t true = (refl, refl)
recorded_rows t false = (refl, refl)

committed_rows : (s t : DistState) → SameRows t.durable (committed s t).durable
committed_rows s t = recorded_rows t (same_durable s.durable t.durable)

committed_stay : (address : ℕ) (s t : DistState) (event : NodeEvent) → SameRows s.durable t.durable → ReceiversMove address s.durable event (committed s t).durable
committed_stay address s t event h = let k = committed_rows s t in stay address s.durable event (committed s t).durable (k.0 ∙ h.0, k.1 ∙ h.1)

-- ---- requests that leave the rows

abbrev Leaves : DistState → Result DistState ℕ → Type 0
Leaves s (Ok t) = SameRows s.durable t.durable
Leaves s (Err status) = ⊤

split : (s : DistState) (b : Bool) (x y : Result DistState ℕ) → Leaves s x → Leaves s y → Leaves s (cond b x y)
split s true x y h k = h
split s false x y h k = k

leaves : (address : ℕ) (s : DistState) (event : NodeEvent) (to : ℕ) (show : ℕ → DistState → DistReply) (r : Result DistState ℕ) → Leaves s r → ReceiversMove address s.durable event (answered s to show r).next.durable
leaves address s event to show (Ok t) h = committed_stay address s t event h
leaves address s event to show (Err status) h = stay address s.durable event s.durable (refl, refl)

suspend_leaves : (s : DistState) (p : DistPhase) → Leaves s (distribution_suspend s p)
suspend_leaves s TransferActive = (refl, refl)
suspend_leaves s TransferSuspended = (refl, refl)
suspend_leaves s Idle = tt
suspend_leaves s TransferSuccess = tt
suspend_leaves s ApplyingUpdate = tt
suspend_leaves s Completed = tt
suspend_leaves s Failed = tt
suspend_leaves s CancelingUpdate = tt

takes_leave : (s : DistState) (u : UploadStart) (meta : Meta) (banks : List ℕ) → Leaves s (takes_in s u meta banks)
takes_leave s u meta [] = tt
takes_leave s u meta (bank ∷ others) = split s (nat_lt s.durable.capacity u.size) _ _ tt (refl, refl)

takes_or_leave : (s : DistState) (u : UploadStart) (meta : Meta) (upload : Upload) → Leaves s (takes_or_resumes s u meta upload)
takes_or_leave s u meta (Broken (Some j)) = split s (same_upload_start u s.durable j) _ _ (refl, refl) (takes_leave s u meta (empty_banks s.durable.images None))
takes_or_leave s u meta (Broken None) = takes_leave s u meta (empty_banks s.durable.images None)
takes_or_leave s u meta NoUpload = takes_leave s u meta (empty_banks s.durable.images None)
takes_or_leave s u meta (Uploading j) = takes_leave s u meta (empty_banks s.durable.images None)
takes_or_leave s u meta Uploaded = takes_leave s u meta (empty_banks s.durable.images None)

offers_leave : (s : DistState) (u : UploadStart) (upload : Upload) (offer : Option Meta) → Leaves s (offers s u upload offer)
offers_leave s u upload None = tt
offers_leave s u upload (Some meta) = split s (has_image s.durable.images meta) _ _ (refl, refl) (takes_or_leave s u meta upload)

upload_leaves : (s : DistState) (u : UploadStart) (upload : Upload) → Leaves s (upload_start s u upload)
upload_leaves s u (Uploading j) = split s (same_upload_start u s.durable j) _ _ (refl, refl) tt
upload_leaves s u NoUpload = split s (is_at_rest s.durable.phase) _ _ (offers_leave s u NoUpload (offered_meta u)) tt
upload_leaves s u (Broken job) = split s (is_at_rest s.durable.phase) _ _ (offers_leave s u (Broken job) (offered_meta u)) tt
upload_leaves s u Uploaded = split s (is_at_rest s.durable.phase) _ _ (offers_leave s u Uploaded (offered_meta u)) tt

firmware_leaves : (s : DistState) (fwid : List ℕ) → Leaves s (firmware_delete s fwid)
firmware_leaves s fwid =
    split s (not (is_at_rest s.durable.phase)) _ _ tt
    (split s (is_in_upload (run_upload s)) _ _ tt (split s (is_none (index_of s.durable.images fwid)) _ _ tt (refl, refl)))

all_leaves : (s : DistState) → Leaves s (firmware_delete_all s)
all_leaves s = split s (not (is_at_rest s.durable.phase)) _ _ tt (split s (is_in_upload (run_upload s)) _ _ tt (refl, refl))

-- ---- a client's rows

-- a sound distributor's receivers are its client's
rows_are : (s : DistState) (c : Client) → s.client ≡ Some c → IsDistState s → map receiver_of (rows c) ≡ s.durable.receivers
rows_are s c e h = (has_rows (is_at_rest s.durable.phase) s.durable.receivers s.progress s.client c h.client e).1.receivers

apply_leaves_by : (s : DistState) (client : Option Client) → s.client ≡ client → IsDistState s → SameRows s.durable (applies s client).durable
apply_leaves_by s None e h = (refl, refl)
apply_leaves_by s (Some c) e h = (refl, rows_are s c e h)

apply_leaves : (s : DistState) (p : DistPhase) → IsDistState s → Leaves s (distribution_apply s p)
apply_leaves s TransferSuccess h = apply_leaves_by s s.client refl h
apply_leaves s ApplyingUpdate h = (refl, refl)
apply_leaves s Idle h = tt
apply_leaves s TransferActive h = tt
apply_leaves s Completed h = tt
apply_leaves s Failed h = tt
apply_leaves s CancelingUpdate h = tt
apply_leaves s TransferSuspended h = tt

-- ---- cancelling

row_canceled_moves : (address : ℕ) (d : DistDurable) (event : NodeEvent) (from : ℕ) (row : Row) (b : Bool) → nat_lt (rank row.phase) 5 ≡ b → Says address event from (OfDistribution DistributionCancel) → RowMoves address d event (receiver_of row) (receiver_of (cond b (record row { phase = 7 }) row))
row_canceled_moves address d event from row true e says = record { address_same = refl; index_same = refl; phase_change = canceled from says (grind (arith, nat_tests)) refl }
row_canceled_moves address d event from row false e says = record { address_same = refl; index_same = refl; phase_change = stands refl }

rows_canceled : (address : ℕ) (d : DistDurable) (event : NodeEvent) (from : ℕ) (rs : List Told) → Says address event from (OfDistribution DistributionCancel) → Each (RowMoves address d event) (map receiver_of (map row_of rs)) (map receiver_of (map row_of (map told_canceled rs)))
rows_canceled address d event from [] says = tt
rows_canceled address d event from (r ∷ rs) says = (row_canceled_moves address d event from r.row (nat_lt (rank r.row.phase) 5) refl says, rows_canceled address d event from rs says)

-- rows that moved one by one, and the record after it
committed_moves : (address : ℕ) (s t : DistState) (event : NodeEvent) → t.durable.counter ≡ s.durable.counter → Each (RowMoves address s.durable event) s.durable.receivers t.durable.receivers → ReceiversMove address s.durable event (committed s t).durable
committed_moves address s t event e h = let k = committed_rows s t in moves (k.0 ∙ e) (subst (λ rs. Each (RowMoves address s.durable event) s.durable.receivers rs) (sym k.1) h)

cancels_move : (address : ℕ) (s : DistState) (event : NodeEvent) (from : ℕ) (client : Option Client) → s.client ≡ client → Says address event from (OfDistribution DistributionCancel) → IsDistState s → ReceiversMove address s.durable event (committed s (cancels s client)).durable
cancels_move address s event from None e says h = committed_stay address s (cancels s None) event (refl, refl)
cancels_move address s event from (Some c) e says h =
    committed_moves address s (cancels s (Some c)) event refl
    (subst (λ rs. Each (RowMoves address s.durable event) rs (map receiver_of (rows (take_cancel c)))) (rows_are s c e h) (rows_canceled address s.durable event from c.receivers says))

cancel_moves : (address : ℕ) (s : DistState) (event : NodeEvent) (from : ℕ) (p : DistPhase) → Says address event from (OfDistribution DistributionCancel) → IsDistState s → ReceiversMove address s.durable event (answered s from distribution_status (distribution_cancel s p)).next.durable
cancel_moves address s event from TransferActive says h = cancels_move address s event from s.client refl says h
cancel_moves address s event from TransferSuccess says h = cancels_move address s event from s.client refl says h
cancel_moves address s event from TransferSuspended says h = cancels_move address s event from s.client refl says h
cancel_moves address s event from Completed says h = committed_stay address s (at_rest s Idle) event (refl, refl)
cancel_moves address s event from Failed says h = committed_stay address s (at_rest s Idle) event (refl, refl)
cancel_moves address s event from ApplyingUpdate says h = stay address s.durable event s.durable (refl, refl)
cancel_moves address s event from Idle says h = committed_stay address s s event (refl, refl)
cancel_moves address s event from CancelingUpdate says h = committed_stay address s s event (refl, refl)

-- ---- a distribution that begins

begin_moves : (address : ℕ) (s : DistState) (event : NodeEvent) (from : ℕ) (ask : Option Settings) → Says address event from (OfDistribution (DistributionStart ask)) → is_at_rest s.durable.phase ≡ true → ReceiversMove address s.durable event (answered s from distribution_status (begins_row address s ask)).next.durable
begin_moves address s event from None says rest = stay address s.durable event s.durable (refl, refl)
begin_moves address s event from (Some ask) says rest =
    first (is_uploading (run_upload s)) (nat_le (length s.durable.images) ask.image) (length s.durable.receivers == 0) (s.durable.counter == 281474976710655)
  where
    begun_moves : (b : Bool) → ReceiversMove address s.durable event (recorded_if (client_begun address (next_distribution s ask)) b).durable
    begun_moves true = begins from ask says rest refl refl refl
    begun_moves false = begins from ask says rest refl refl refl

    first : (a b c d : Bool) → ReceiversMove address s.durable event (answered s from distribution_status (cond a (Err 8) (cond b (Err 4) (cond c (Err 6) (cond d (Err 1) (Ok (begun address s ask))))))).next.durable
    first true b c d = stay address s.durable event s.durable (refl, refl)
    first false true c d = stay address s.durable event s.durable (refl, refl)
    first false false true d = stay address s.durable event s.durable (refl, refl)
    first false false false true = stay address s.durable event s.durable (refl, refl)
    first false false false false = begun_moves (same_durable s.durable (begun address s ask).durable)

-- the settings stand or don't: the rows do
same_leaves : (s : DistState) (ask : Option Settings) → Leaves s (cond (are_settings ask s.durable.settings) (Ok s) (Err 7))
same_leaves s ask = split s (are_settings ask s.durable.settings) _ _ (refl, refl) tt

start_moves : (address : ℕ) (s : DistState) (event : NodeEvent) (from : ℕ) (ask : Option Settings) (p : DistPhase) → s.durable.phase ≡ p → Says address event from (OfDistribution (DistributionStart ask)) → ReceiversMove address s.durable event (answered s from distribution_status (distribution_start address s ask p)).next.durable
start_moves address s event from ask Idle e says = begin_moves address s event from ask says (ap is_at_rest e)
start_moves address s event from ask Completed e says = begin_moves address s event from ask says (ap is_at_rest e)
start_moves address s event from ask Failed e says = begin_moves address s event from ask says (ap is_at_rest e)
start_moves address s event from ask TransferSuspended e says =
    leaves address s event from distribution_status (cond (are_settings ask s.durable.settings) (Ok (resumes address s)) (Err 2)) (split s (are_settings ask s.durable.settings) _ _ (refl, refl) tt)
start_moves address s event from ask TransferActive e says = leaves address s event from distribution_status (cond (are_settings ask s.durable.settings) (Ok s) (Err 7)) (same_leaves s ask)
start_moves address s event from ask TransferSuccess e says = leaves address s event from distribution_status (cond (are_settings ask s.durable.settings) (Ok s) (Err 7)) (same_leaves s ask)
start_moves address s event from ask ApplyingUpdate e says = leaves address s event from distribution_status (cond (are_settings ask s.durable.settings) (Ok s) (Err 7)) (same_leaves s ask)
start_moves address s event from ask CancelingUpdate e says = leaves address s event from distribution_status (cond (are_settings ask s.durable.settings) (Ok s) (Err 7)) (same_leaves s ask)

-- ---- receivers that are added, or go

is_idle_true : (p : DistPhase) → is_idle p ≡ true → p ≡ Idle
is_idle_true Idle e = refl
is_idle_true TransferActive e = cc
is_idle_true TransferSuccess e = cc
is_idle_true ApplyingUpdate e = cc
is_idle_true Completed e = cc
is_idle_true Failed e = cc
is_idle_true CancelingUpdate e = cc
is_idle_true TransferSuspended e = cc

add_moves : (address : ℕ) (s : DistState) (event : NodeEvent) (from : ℕ) (entries : List Entry) → Says address event from (OfDistribution (ReceiversAdd entries)) → ReceiversMove address s.durable event (answered s from receivers_status (receivers_add s entries)).next.durable
add_moves address s event from entries says = first (is_idle s.durable.phase) refl (nat_lt 128 (length (added s.durable.receivers entries)))
  where
    added_moves : (t : DistState) (b : Bool) → s.durable.phase ≡ Idle → SameRows (record (s.durable) { receivers = added s.durable.receivers entries }) t.durable → ReceiversMove address s.durable event (recorded_if t b).durable
    added_moves t true idle h = adds from entries says idle h.0 h.1
    added_moves t false idle h = adds from entries says idle h.0 h.1

    first : (a : Bool) → is_idle s.durable.phase ≡ a → (b : Bool) → ReceiversMove address s.durable event (answered s from receivers_status (cond (not a) (Err 7) (cond b (Err 1) (Ok (with_receivers s (added s.durable.receivers entries) (s.progress ++ no_progress (drop (length s.durable.receivers) (added s.durable.receivers entries)))))))).next.durable
    first false e b = stay address s.durable event s.durable (refl, refl)
    first true e true = stay address s.durable event s.durable (refl, refl)
    first true e false = added_moves (with_receivers s (added s.durable.receivers entries) (s.progress ++ no_progress (drop (length s.durable.receivers) (added s.durable.receivers entries)))) _ (is_idle_true s.durable.phase e) (refl, refl)

delete_moves : (address : ℕ) (s : DistState) (event : NodeEvent) (from : ℕ) → Says address event from (OfDistribution ReceiversDeleteAll) → ReceiversMove address s.durable event (answered s from receivers_status (receivers_delete_all s)).next.durable
delete_moves address s event from says = first (is_idle s.durable.phase) refl
  where
    emptied_moves : (b : Bool) → s.durable.phase ≡ Idle → ReceiversMove address s.durable event (recorded_if (with_receivers s [] []) b).durable
    emptied_moves true idle = empties from says idle refl refl
    emptied_moves false idle = empties from says idle refl refl

    first : (a : Bool) → is_idle s.durable.phase ≡ a → ReceiversMove address s.durable event (answered s from receivers_status (cond a (Ok (with_receivers s [] [])) (Err 7))).next.durable
    first true e = emptied_moves (same_durable s.durable (with_receivers s [] []).durable) (is_idle_true s.durable.phase e)
    first false e = stay address s.durable event s.durable (refl, refl)

-- ---- all requests

request_moves : (address : ℕ) (s : DistState) (event : NodeEvent) (from : ℕ) (request : DistRequest) → Says address event from (OfDistribution request) → IsDistState s → ReceiversMove address s.durable event (on_request address s from request).next.durable
request_moves address s event from (ReceiversAdd entries) says h = add_moves address s event from entries says
request_moves address s event from ReceiversDeleteAll says h = delete_moves address s event from says
request_moves address s event from (ReceiversGet first limit) says h = stay address s.durable event s.durable (refl, refl)
request_moves address s event from CapabilitiesGet says h = stay address s.durable event s.durable (refl, refl)
request_moves address s event from DistributionGet says h = stay address s.durable event s.durable (refl, refl)
request_moves address s event from (DistributionStart ask) says h = start_moves address s event from ask s.durable.phase refl says
request_moves address s event from DistributionSuspend says h = leaves address s event from distribution_status (distribution_suspend s s.durable.phase) (suspend_leaves s s.durable.phase)
request_moves address s event from DistributionCancel says h = cancel_moves address s event from s.durable.phase says h
request_moves address s event from DistributionApply says h = leaves address s event from distribution_status (distribution_apply s s.durable.phase) (apply_leaves s s.durable.phase h)
request_moves address s event from UploadGet says h = stay address s.durable event s.durable (refl, refl)
request_moves address s event from (StartUpload u) says h = leaves address s event from upload_status (upload_start s u (run_upload s)) (upload_leaves s u (run_upload s))
request_moves address s event from StartUploadOob says h = stay address s.durable event s.durable (refl, refl)
request_moves address s event from UploadCancel says h = committed_stay address s (upload_cancel s) event (refl, refl)
request_moves address s event from (FirmwareGet fwid) says h = stay address s.durable event s.durable (refl, refl)
request_moves address s event from (FirmwareGetByIndex index) says h = stay address s.durable event s.durable (refl, refl)
request_moves address s event from (FirmwareDelete fwid) says h = leaves address s event from (firmware_status no_index (Some fwid)) (firmware_delete s fwid) (firmware_leaves s fwid)
request_moves address s event from FirmwareDeleteAll says h = leaves address s event from (firmware_status no_index None) (firmware_delete_all s) (all_leaves s)

-- ---- an answer of a receiver

row_by_answer : (p : Sending) (purpose : Purpose) (offer : Meta) (apply : Bool) (id : ℕ) (answer : Answer) (r : Told) → p.id ≡ id → purpose ≡ Update offer apply → (row_told p answer r purpose).row.phase ≡ (row_after id offer r.row answer).phase
row_by_answer p purpose offer apply id answer r e k =
    let one : (row_told p answer r purpose).row.phase ≡ (row_after p.id offer r.row answer).phase = ap (λ x. (row_told p answer r x).row.phase) k in
    one ∙ ap (λ n. (row_after n offer r.row answer).phase) e

answered_row : (address : ℕ) (d : DistDurable) (event : NodeEvent) (c : Client) (from : ℕ) (answer : Answer) (r : Told) (b : Bool) → (r.row.address == from) ≡ b → is_present c.place ≡ has_transfer d.phase → AnswerFits answer → DoesPlan address d c → Says address event from (OfReceiver answer) → RowMoves address d event (receiver_of r.row) (receiver_of (told_if c answer r b).row)
answered_row address d event c from answer r true e place fits plan says = record { address_same = k.address; index_same = k.index; phase_change = by_presence (is_present c.place) refl }
  where
    k : Keeps r.row (told_if c answer r true).row
    k = told_keeps c answer r true fits

    same : r.row.address ≡ from
    same = eqb-true r.row.address from e

    by_presence : (b : Bool) → is_present c.place ≡ b → RowChange address d event (receiver_of r.row) (receiver_of (told_if c answer r true).row)
    by_presence true there =
        let phase : (told_if c answer r true).row.phase ≡ (row_after (transfer_id address d) (meta_of (offered d)) r.row answer).phase = present_phase c answer r fits there ∙ row_by_answer c.sending c.purpose (meta_of (offered d)) (plan_of address d).apply (transfer_id address d) answer r (ap (λ (p : Sending). p.id) plan.sending) plan.purpose in
        by_answer r.row answer (sym place ∙ there) refl (subst (λ x. Says address event x (OfReceiver answer)) (sym same) says) phase
    by_presence false gone = stands (canceled_phase c answer r fits gone)
answered_row address d event c from answer r false e place fits plan says = record { address_same = refl; index_same = refl; phase_change = stands refl }

answered_rows : (address : ℕ) (d : DistDurable) (event : NodeEvent) (c : Client) (from : ℕ) (answer : Answer) (rs : List Told) → is_present c.place ≡ has_transfer d.phase → AnswerFits answer → DoesPlan address d c → Says address event from (OfReceiver answer) → Each (RowMoves address d event) (map receiver_of (map row_of rs)) (map receiver_of (map row_of (map (λ r. told_if c answer r (r.row.address == from)) rs)))
answered_rows address d event c from answer [] place fits plan says = tt
answered_rows address d event c from answer (r ∷ rs) place fits plan says = (answered_row address d event c from answer r (r.row.address == from) refl place fits plan says, answered_rows address d event c from answer rs place fits plan says)

hears_move : (address : ℕ) (s : DistState) (event : NodeEvent) (from : ℕ) (answer : Answer) (client : Option Client) → s.client ≡ client → AnswerFits answer → Says address event from (OfReceiver answer) → IsDistState s → IsPlanned address s → ReceiversMove address s.durable event (hears s from answer client).next.durable
hears_move address s event from answer None e fits says h k = stay address s.durable event s.durable (refl, refl)
hears_move address s event from answer (Some c) e fits says h k =
    committed_moves address s (with_client s (told c from answer s.moment)) event refl
    (subst (λ rs. Each (RowMoves address s.durable event) rs (map receiver_of (rows (told c from answer s.moment)))) (rows_are s c e h) (answered_rows address s.durable event c from answer c.receivers (own_place s c e k.place) fits (own_plan address s.durable s.client c e k.plan) says))

change_moves : (address : ℕ) (s : DistState) (event : NodeEvent) (c : Change) (l : Session) → ReceiversMove address s.durable event (with_session (blob_changed s c) l).durable
change_moves address s event Same l = stay address s.durable event s.durable (refl, refl)
change_moves address s event (Begins p) l = stay address s.durable event _ (refl, refl)
change_moves address s event Drops l = stay address s.durable event _ (refl, refl)
change_moves address s event (Puts block octets) l = stay address s.durable event _ (refl, refl)

taken_moves : (address : ℕ) (s : DistState) (event : NodeEvent) (from : ℕ) (taken : Taken) → TakenFits taken → Says address event from taken → IsDistState s → IsPlanned address s → ReceiversMove address s.durable event (on_taken address s from taken).next.durable
taken_moves address s event from (OfDistribution request) fits says h k = request_moves address s event from request says h
taken_moves address s event from (OfBlob request) fits says h k = change_moves address s event (on_blob (server_of s) from request).change (on_blob (server_of s) from request).session
taken_moves address s event from (OfReceiver answer) fits says h k = hears_move address s event from answer s.client refl fits says h k

-- ---- time

timed_row : (address : ℕ) (d : DistDurable) (old new : Row) → Times old new → RowMoves address d TimeComes (receiver_of old) (receiver_of new)
timed_row address d old new h = record { address_same = h.keeps.address; index_same = h.keeps.index; phase_change = by_phase h.phase }
  where
    by_phase : (new.phase ≡ old.phase) ⊎ ((old.phase ≡ 8 → ⊥) × (new.phase ≡ 9)) → RowChange address d TimeComes (receiver_of old) (receiver_of new)
    by_phase (inl e) = stands e
    by_phase (inr e) = unconfirmed refl e.0 e.1

timed_rows : (address : ℕ) (d : DistDurable) (rs ss : List Told) → RowsBy Times rs ss → Each (RowMoves address d TimeComes) (map receiver_of (map row_of rs)) (map receiver_of (map row_of ss))
timed_rows address d [] [] h = tt
timed_rows address d [] (s ∷ ss) h = absurd h
timed_rows address d (r ∷ rs) [] h = absurd h
timed_rows address d (r ∷ rs) (s ∷ ss) h = (timed_row address d r.row s.row h.0, timed_rows address d rs ss h.1)

client_moves : (address : ℕ) (s t : DistState) (reports : List (ℕ × Sent)) (client : Option Client) → s.client ≡ client → Goes s.durable t.durable → IsDistState s → ReceiversMove address s.durable TimeComes (client_waits address s t reports client).next.durable
client_moves address s t reports None e same h = committed_stay address s t TimeComes (same.0.0, same.1)
client_moves address s t reports (Some c) e same h = by_phase (has_turns t.durable.phase)
  where
    by_phase : (b : Bool) → ReceiversMove address s.durable TimeComes (cond b (client_turns address s t reports (due c (octets_of (offered t.durable)) t.moment)) (ends s t (λ u. reports))).next.durable
    by_phase true =
        let n : Client = (due c (octets_of (offered t.durable)) t.moment).next in
        let turned : Goes (with_client t n).durable (after_turn address t n).durable = advanced_goes address (with_client t n) n t.durable.phase (stage_of n) in
        let timed : Each (RowMoves address s.durable TimeComes) (map receiver_of (rows c)) (map receiver_of (rows n)) = timed_rows address s.durable c.receivers n.receivers (due_times c (octets_of (offered t.durable)) t.moment) in
        let there : Each (RowMoves address s.durable TimeComes) s.durable.receivers (map receiver_of (rows n)) = subst (λ rs. Each (RowMoves address s.durable TimeComes) rs (map receiver_of (rows n))) (rows_are s c e h) timed in
        committed_moves address s (after_turn address t n) TimeComes (turned.0.0 ∙ same.0.0) (subst (λ rs. Each (RowMoves address s.durable TimeComes) s.durable.receivers rs) (sym turned.1) there)
    by_phase false = committed_stay address s t TimeComes (same.0.0, same.1)

waits_move : (address : ℕ) (s : DistState) (o : Served) → IsDistState s → ReceiversMove address s.durable TimeComes (waits address s o).next.durable
waits_move address s o h = client_moves address s (server_waits s o) (map by_blob o.replies) s.client refl (broken_goes (with_session s o.session) o.session.link (run_upload s)) h

verified_rows : (s : DistState) (j : UploadJob) (b : Bool) → SameRows s.durable (verified s j b).durable
verified_rows s j true = (refl, refl)
verified_rows s j false = (refl, refl)

time_moves : (address : ℕ) (s : DistState) (upload : Upload) → IsDistState s → ReceiversMove address s.durable TimeComes (on_time address s upload).next.durable
time_moves address s (Uploading j) h = by_whole (is_whole j.transfer)
  where
    by_whole : (b : Bool) → ReceiversMove address s.durable TimeComes (cond b (verifies s j) (waits address s (on_server_time (server_of s) (server_of s).serving))).next.durable
    by_whole true = committed_stay address s (verified s j (is_fit (joined j.transfer.held) s.durable.upload_meta)) TimeComes (verified_rows s j (is_fit (joined j.transfer.held) s.durable.upload_meta))
    by_whole false = waits_move address s (on_server_time (server_of s) (server_of s).serving) h
time_moves address s NoUpload h = waits_move address s (on_server_time (server_of s) (server_of s).serving) h
time_moves address s (Broken job) h = waits_move address s (on_server_time (server_of s) (server_of s).serving) h
time_moves address s Uploaded h = waits_move address s (on_server_time (server_of s) (server_of s).serving) h

-- ---- events

packet_moves : (address : ℕ) (s : DistState) (packet : Packet) (taken : Option Taken) → taken_at packet.payload ≡ taken → packet.to ≡ address → MatchOption taken (Unit {0}) TakenFits → IsDistState s → IsPlanned address s → ReceiversMove address s.durable (PacketComes packet) (on_packet address s packet.from taken).next.durable
packet_moves address s packet (Some taken) e to fits h k = taken_moves address s (PacketComes packet) packet.from taken fits (to, refl, e) h k
packet_moves address s packet None e to fits h k = stay address s.durable (PacketComes packet) s.durable (refl, refl)

event_moves : (address : ℕ) (s : DistState) (event : NodeEvent) → EventFits event → IsDistState s → IsPlanned address s → ReceiversMove address s.durable event (on_event address s event).next.durable
event_moves address s (PacketComes packet) fits h k = by_test (packet.to == address) refl
  where
    by_test : (b : Bool) → (packet.to == address) ≡ b → ReceiversMove address s.durable (PacketComes packet) (cond b (on_packet address s packet.from (taken_at packet.payload)) (passed_over s)).next.durable
    by_test true e = packet_moves address s packet (taken_at packet.payload) refl (eqb-true packet.to address e) fits h k
    by_test false e = stay address s.durable (PacketComes packet) s.durable (refl, refl)
event_moves address s TimeComes fits h k = time_moves address s (run_upload s) h

pub rows_move : RowsMoveByCause
rows_move address s event now fits h k = event_moves address (at_moment s now) event fits (moved s now h) (planned_at address s now k)
