-- Each Update Start that a distributor sends is what each durable state that the event goes through offers.
use Rattle.std.proofs.Common.{◌≡◌, ℕ, Bool, true, false, List, [], ◌∷◌, ◌++◌, map, refl, sym, ap, subst, ◌∙◌, cond, Option, Some, None, Result, Ok, Err, inl, inr}
use Rattle.std.specs.Prelude.{◌==◌, not}
use Rattle.std.specs.List.{AllByRecursion, filter, list_any}
use Rattle.mu_model_node.specs.declared.Link.{Link}
use Rattle.mu_model_node.specs.declared.Link.TheVariants.{Cut, Ready, Running}
use Rattle.mu_model_node.specs.declared.FlashWork.{FlashWork}
use Rattle.mu_model_node.specs.declared.FlashWork.TheVariants.{Untouched, Recorded, Begun, PutBlock}
use Rattle.mu_model_node.specs.FlashWork.{passed_by}
use Rattle.mu_model_node.specs.UpdateMessages.{UpdateRequest, InformationGet, MetadataCheck, UpdateGet, StartUpdate, UpdateCancel, UpdateApply}
use Rattle.mu_model_node.specs.NodeMessages.{Request, OfUpdate, OfBlob}
use Rattle.mu_model_node.specs.BlobMessages.{BlobReply}
use Rattle.mu_model_node.specs.BlobTable.{Served, on_blob, on_server_time}
use Rattle.mu_model_node.specs.Events.{NodeEvent, PacketComes, TimeComes}
use Rattle.mu_model_client.specs.declared.Plan.{Plan}
use Rattle.mu_model_client.specs.declared.Sending.{Sending}
use Rattle.mu_model_client.specs.declared.Stage.{Stage}
use Rattle.mu_model_client.specs.declared.Stage.TheVariants.{Transfer, Verified, Applying, Canceling, Ended}
use Rattle.mu_model_client.specs.Answers.{Answer}
use Rattle.mu_model_client.specs.Rows.{Row}
use Rattle.mu_model_client.specs.Client.{Client, is_active, rows}
use Rattle.mu_model_client.specs.Lists.{metadata_of}
use Rattle.mu_model_client.specs.Begin.{stage_of, purpose_of}
use Rattle.mu_model_client.specs.Due.{due}
use Rattle.mu_model_distributor.specs.Requests.{DistRequest, ReceiversAdd, ReceiversDeleteAll, ReceiversGet, CapabilitiesGet, DistributionGet, DistributionStart, DistributionSuspend, DistributionCancel, DistributionApply, UploadGet, StartUpload, StartUploadOob, UploadCancel, FirmwareGet, FirmwareGetByIndex, FirmwareDelete, FirmwareDeleteAll}
use Rattle.mu_model_distributor.specs.Replies.{DistReply}
use Rattle.mu_model_distributor.specs.DistMessages.{Taken, OfDistribution, OfBlob, OfReceiver, taken_at, Sent, ByClient}
use Rattle.mu_model_distributor.specs.declared.DistPhase.{DistPhase}
use Rattle.mu_model_distributor.specs.declared.DistPhase.TheVariants.{Idle, TransferActive, TransferSuccess, ApplyingUpdate, Completed, Failed, CancelingUpdate, TransferSuspended}
use Rattle.mu_model_distributor.specs.DistState.{Receiver, Upload, NoUpload, Uploading, Broken, Uploaded, run_upload, DistDurable, DistState, is_at_rest, server_of, receiver_of, offered}
use Rattle.mu_model_distributor.specs.Same.{same_durable}
use Rattle.mu_model_distributor.specs.Commit.{recorded_if, committed, ends, answered}
use Rattle.mu_model_distributor.specs.Receivers.{receivers_status, receivers_add, receivers_delete_all}
use Rattle.mu_model_distributor.specs.Distribution.{plan_of, with_client, in_phase, at_rest, distribution_status, distribution_start, distribution_suspend, distribution_cancel, distribution_apply}
use Rattle.mu_model_distributor.specs.Uploads.{with_session, upload_status, upload_start}
use Rattle.mu_model_distributor.specs.Firmware.{no_index, firmware_status, firmware_delete, firmware_delete_all}
use Rattle.mu_model_distributor.specs.DistTable.{by_blob, on_request, hears, on_taken}
use Rattle.mu_model_distributor.specs.DistTime.{is_whole, verifies, broken_by, server_waits, has_phase, goes_on_by, goes_on, has_verified, advanced, after_turn, is_apply, sent_in, by_client, octets_of, has_turns, client_turns, client_waits, waits, on_time}
use Rattle.mu_model_distributor.specs.DistEvents.{passed_over, at_moment, on_packet, on_event, dist_step}
use Rattle.mu_model_distributor.specs.Sound.{HasRows, IsDistState}
use Rattle.mu_model_distributor_laws.specs.Planned.{HasRow, IsAsked, DoesPlan, IsPlanned, HasReceiver, IsSentAs, StartsAreOffered}
use Rattle.mu_model_distributor_laws.proofs.ClientDue.{due_rows}
use Rattle.mu_model_distributor_laws.proofs.ClientPlan.{Packets, within_kept, due_right}
use Rattle.mu_model_distributor_laws.proofs.Moved.{has_rows}
use Rattle.mu_model_distributor_laws.proofs.Planned.{own_plan, planned_at}
use Rattle.mu_model_distributor_laws.proofs.Steps.{moved}

abbrev pub Offers : ℕ → DistDurable → List (ℕ × Sent) → Type 0
Offers address d sends = AllByRecursion (IsSentAs address d) sends

-- ---- what isn't the client's

pub blob_offers : (address : ℕ) (d : DistDurable) (replies : List (ℕ × BlobReply)) → Offers address d (map by_blob replies)
blob_offers address d [] = tt
blob_offers address d (reply ∷ replies) = (tt, blob_offers address d replies)

join_offers : (address : ℕ) (d : DistDurable) (a b : List (ℕ × Sent)) → Offers address d a → Offers address d b → Offers address d (a ++ b)
join_offers address d [] b h k = k
join_offers address d (x ∷ a) b h k = (h.0, join_offers address d a b h.1 k)

answer_offers : (address : ℕ) (d : DistDurable) (s : DistState) (to : ℕ) (show : ℕ → DistState → DistReply) (r : Result DistState ℕ) → Offers address d (answered s to show r).sends
answer_offers address d s to show (Ok t) = (tt, tt)
answer_offers address d s to show (Err status) = (tt, tt)

request_offers : (address : ℕ) (d : DistDurable) (s : DistState) (to : ℕ) (request : DistRequest) → Offers address d (on_request address s to request).sends
request_offers address d s to (ReceiversAdd entries) = answer_offers address d s to receivers_status (receivers_add s entries)
request_offers address d s to ReceiversDeleteAll = answer_offers address d s to receivers_status (receivers_delete_all s)
request_offers address d s to (ReceiversGet first limit) = (tt, tt)
request_offers address d s to CapabilitiesGet = (tt, tt)
request_offers address d s to DistributionGet = (tt, tt)
request_offers address d s to (DistributionStart ask) = answer_offers address d s to distribution_status (distribution_start address s ask s.durable.phase)
request_offers address d s to DistributionSuspend = answer_offers address d s to distribution_status (distribution_suspend s s.durable.phase)
request_offers address d s to DistributionCancel = answer_offers address d s to distribution_status (distribution_cancel s s.durable.phase)
request_offers address d s to DistributionApply = answer_offers address d s to distribution_status (distribution_apply s s.durable.phase)
request_offers address d s to UploadGet = (tt, tt)
request_offers address d s to (StartUpload u) = answer_offers address d s to upload_status (upload_start s u (run_upload s))
request_offers address d s to StartUploadOob = (tt, tt)
request_offers address d s to UploadCancel = (tt, tt)
request_offers address d s to (FirmwareGet fwid) = (tt, tt)
request_offers address d s to (FirmwareGetByIndex index) = (tt, tt)
request_offers address d s to (FirmwareDelete fwid) = answer_offers address d s to (firmware_status no_index (Some fwid)) (firmware_delete s fwid)
request_offers address d s to FirmwareDeleteAll = answer_offers address d s to (firmware_status no_index None) (firmware_delete_all s)

hears_offers : (address : ℕ) (d : DistDurable) (s : DistState) (from : ℕ) (answer : Answer) (client : Option Client) → Offers address d (hears s from answer client).sends
hears_offers address d s from answer None = tt
hears_offers address d s from answer (Some c) = tt

taken_offers : (address : ℕ) (d : DistDurable) (s : DistState) (from : ℕ) (taken : Taken) → Offers address d (on_taken address s from taken).sends
taken_offers address d s from (OfDistribution request) = request_offers address d s from request
taken_offers address d s from (OfBlob request) = blob_offers address d (on_blob (server_of s) from request).replies
taken_offers address d s from (OfReceiver answer) = hears_offers address d s from answer s.client

-- ---- what is the client's

-- a row is of a receiver
abbrev InReceivers : List Row → List Receiver → Type 0
InReceivers given receivers = (to index : ℕ) → HasRow given to index → HasReceiver receivers to index

row_received : (given : List Row) → InReceivers given (map receiver_of given)
row_received [] to index h = absurd h
row_received (row ∷ given) to index (inl e) = inl e
row_received (row ∷ given) to index (inr h) = inr (row_received given to index h)

update_offered : (address : ℕ) (d : DistDurable) (c : Client) (given : List Row) (to : ℕ) (request : UpdateRequest) → DoesPlan address d c → InReceivers given d.receivers → IsAsked c.sending c.purpose given to (OfUpdate request) → IsSentAs address d (to, ByClient (OfUpdate request))
update_offered address d c given to (StartUpdate u) h w k = record {
  ttl = k.ttl ∙ ap (λ (p : Sending). p.ttl) h.sending;
  base = k.base ∙ ap (λ (p : Sending). p.base) h.sending;
  id = k.id ∙ ap (λ (p : Sending). p.id) h.sending;
  metadata = k.metadata ∙ ap metadata_of h.purpose;
  receiver = w to u.index k.receiver;
}
update_offered address d c given to (InformationGet first limit) h w k = tt
update_offered address d c given to (MetadataCheck index metadata) h w k = tt
update_offered address d c given to UpdateGet h w k = tt
update_offered address d c given to UpdateCancel h w k = tt
update_offered address d c given to UpdateApply h w k = tt

packet_offered : (address : ℕ) (d : DistDurable) (c : Client) (given : List Row) (to : ℕ) (request : Request) → DoesPlan address d c → InReceivers given d.receivers → IsAsked c.sending c.purpose given to request → IsSentAs address d (to, ByClient request)
packet_offered address d c given to (OfUpdate request) h w k = update_offered address d c given to request h w k
packet_offered address d c given to (OfBlob request) h w k = tt

packets_offered : (address : ℕ) (d : DistDurable) (c : Client) (given : List Row) (packets : List (ℕ × Request)) → DoesPlan address d c → InReceivers given d.receivers → Packets c.sending c.purpose given packets → Offers address d (map by_client packets)
packets_offered address d c given [] h w k = tt
packets_offered address d c given (x ∷ packets) h w k = (packet_offered address d c given x.0 x.1 h w k.0, packets_offered address d c given packets h w k.1)

filtered_or : (address : ℕ) (d : DistDurable) (x : ℕ × Request) (rest : List (ℕ × Request)) (b : Bool) → IsSentAs address d (by_client x) → Offers address d (map by_client rest) → Offers address d (map by_client (cond b (x ∷ rest) rest))
filtered_or address d x rest true h k = (h, k)
filtered_or address d x rest false h k = k

filtered : (address : ℕ) (d : DistDurable) (packets : List (ℕ × Request)) → Offers address d (map by_client packets) → Offers address d (map by_client (filter (λ (packet : ℕ × Request). not (is_apply packet.1)) packets))
filtered address d [] h = tt
filtered address d (x ∷ packets) h = filtered_or address d x _ (not (is_apply x.1)) h.0 (filtered address d packets h.1)

sent_offered : (address : ℕ) (d : DistDurable) (p : DistPhase) (packets : List (ℕ × Request)) → Offers address d (map by_client packets) → Offers address d (map by_client (sent_in p packets))
sent_offered address d Failed packets h = filtered address d packets h
sent_offered address d Idle packets h = h
sent_offered address d TransferActive packets h = h
sent_offered address d TransferSuccess packets h = h
sent_offered address d ApplyingUpdate packets h = h
sent_offered address d Completed packets h = h
sent_offered address d CancelingUpdate packets h = h
sent_offered address d TransferSuspended packets h = h

-- ---- what stands while a distribution goes on

-- what is offered
abbrev pub SameOffer : DistDurable → DistDurable → Type 0
SameOffer d e = (e.counter ≡ d.counter) × (e.settings ≡ d.settings) × (e.images ≡ d.images)

same_offer : (d : DistDurable) → SameOffer d d
same_offer d = (refl, refl, refl)

pub then_offer : (d e f : DistDurable) → SameOffer d e → SameOffer e f → SameOffer d f
then_offer d e f h k = (k.0 ∙ h.0, k.1 ∙ h.1, k.2 ∙ h.2)

same_plan : (address : ℕ) (d e : DistDurable) → SameOffer d e → plan_of address e ≡ plan_of address d
same_plan address d e h = rw (h.0, h.1, h.2) refl

still_does : (address : ℕ) (d e : DistDurable) (c : Client) → SameOffer d e → DoesPlan address d c → DoesPlan address e c
still_does address d e c same h =
    let plan = same_plan address d e same in
    record { sending = h.sending ∙ sym (ap (λ (p : Plan). p.sending) plan); purpose = h.purpose ∙ sym (ap purpose_of plan); queue = h.queue }

-- and its receivers
abbrev pub Goes : DistDurable → DistDurable → Type 0
Goes d e = SameOffer d e × (e.receivers ≡ d.receivers)

goes_same : (d : DistDurable) → Goes d d
goes_same d = ((refl, refl, refl), refl)

recorded_goes : (t : DistState) (b : Bool) → Goes t.durable (recorded_if t b).durable
recorded_goes t true = ((refl, refl, refl), refl)
recorded_goes t false = ((refl, refl, refl), refl)

pub committed_goes : (s t : DistState) → Goes t.durable (committed s t).durable
committed_goes s t = recorded_goes t (same_durable s.durable t.durable)

pub broken_goes : (s : DistState) (link : Link) (upload : Upload) → Goes s.durable (broken_by link upload s).durable
broken_goes s Cut (Uploading j) = ((refl, refl, refl), refl)
broken_goes s Cut NoUpload = ((refl, refl, refl), refl)
broken_goes s Cut (Broken job) = ((refl, refl, refl), refl)
broken_goes s Cut Uploaded = ((refl, refl, refl), refl)
broken_goes s Ready upload = ((refl, refl, refl), refl)
broken_goes s Running upload = ((refl, refl, refl), refl)

either : (d : DistDurable) (b : Bool) (x y : DistState) → Goes d x.durable → Goes d y.durable → Goes d (cond b x y).durable
either d true x y h k = h
either d false x y h k = k

going_goes : (address : ℕ) (s : DistState) (b : Bool) → Goes s.durable (goes_on_by address s b).durable
going_goes address s true = ((refl, refl, refl), refl)
going_goes address s false = ((refl, refl, refl), refl)

verifying_goes : (address : ℕ) (s : DistState) (c : Client) → Goes s.durable (has_verified address s c).durable
verifying_goes address s c =
    let p : DistPhase = cond (s.durable.settings.policy == 1) ApplyingUpdate TransferSuccess in
    either s.durable (not (has_phase s.durable.receivers (4 ∷ 6 ∷ 8 ∷ []))) (at_rest s Failed) (goes_on address s c p) ((refl, refl, refl), refl) (going_goes address (in_phase s p) (list_any is_active c.receivers))

pub advanced_goes : (address : ℕ) (s : DistState) (c : Client) (p : DistPhase) (stage : Stage) → Goes s.durable (advanced address s c p stage).durable
advanced_goes address s c TransferActive Transfer = goes_same s.durable
advanced_goes address s c TransferActive Verified = verifying_goes address s c
advanced_goes address s c TransferActive Applying = verifying_goes address s c
advanced_goes address s c TransferActive Canceling = verifying_goes address s c
advanced_goes address s c TransferActive Ended = verifying_goes address s c
advanced_goes address s c ApplyingUpdate Ended = ((refl, refl, refl), refl)
advanced_goes address s c ApplyingUpdate Transfer = goes_same s.durable
advanced_goes address s c ApplyingUpdate Verified = goes_same s.durable
advanced_goes address s c ApplyingUpdate Applying = goes_same s.durable
advanced_goes address s c ApplyingUpdate Canceling = goes_same s.durable
advanced_goes address s c CancelingUpdate Ended = ((refl, refl, refl), refl)
advanced_goes address s c CancelingUpdate Transfer = goes_same s.durable
advanced_goes address s c CancelingUpdate Verified = goes_same s.durable
advanced_goes address s c CancelingUpdate Applying = goes_same s.durable
advanced_goes address s c CancelingUpdate Canceling = goes_same s.durable
advanced_goes address s c Idle stage = goes_same s.durable
advanced_goes address s c TransferSuccess stage = goes_same s.durable
advanced_goes address s c Completed stage = goes_same s.durable
advanced_goes address s c Failed stage = goes_same s.durable
advanced_goes address s c TransferSuspended stage = goes_same s.durable

-- ---- a client's turn

-- a durable state offers what a client sends
abbrev Offering : ℕ → DistDurable → Client → Type 0
Offering address d c = DoesPlan address d c × InReceivers (rows c) d.receivers

turn_offers : (address : ℕ) (d : DistDurable) (s t : DistState) (reports : List (ℕ × Sent)) (c : Client) → Offering address d c → Offers address d reports → Offers address d (client_waits address s t reports (Some c)).sends
turn_offers address d s t reports c h k = by_phase (has_turns t.durable.phase)
  where
    by_phase : (b : Bool) → Offers address d (cond b (client_turns address s t reports (due c (octets_of (offered t.durable)) t.moment)) (ends s t (λ u. reports))).sends
    by_phase true =
        let u : DistState = committed s (after_turn address t (due c (octets_of (offered t.durable)) t.moment).next) in
        join_offers address d reports _ k (sent_offered address d u.durable.phase (due c (octets_of (offered t.durable)) t.moment).packets (packets_offered address d c (rows c) (due c (octets_of (offered t.durable)) t.moment).packets h.0 h.1 (due_right c (octets_of (offered t.durable)) t.moment h.0.queue).packets))
    by_phase false = k

-- the durable state after it offers the same
still_in : (given : List Row) (a b : List Receiver) → a ≡ b → InReceivers given b → InReceivers given a
still_in given a b e h to index k = subst (λ x. HasReceiver x to index) (sym e) (h to index k)

after_offers : (address : ℕ) (s t : DistState) (reports : List (ℕ × Sent)) (c : Client) → Goes s.durable t.durable → Offering address s.durable c → Offering address (client_waits address s t reports (Some c)).next.durable c
after_offers address s t reports c same h = by_phase (has_turns t.durable.phase)
  where
    by_phase : (b : Bool) → Offering address (cond b (client_turns address s t reports (due c (octets_of (offered t.durable)) t.moment)) (ends s t (λ u. reports))).next.durable c
    by_phase true =
        let n : Client = (due c (octets_of (offered t.durable)) t.moment).next in
        let u : DistState = after_turn address t n in
        let turned : Goes (with_client t n).durable u.durable = advanced_goes address (with_client t n) n t.durable.phase (stage_of n) in
        let done : Goes u.durable (committed s u).durable = committed_goes s u in
        let offer : SameOffer s.durable (committed s u).durable = then_offer s.durable t.durable (committed s u).durable same.0 (then_offer t.durable u.durable (committed s u).durable turned.0 done.0) in
        let kept : (committed s u).durable.receivers ≡ map receiver_of (rows n) = done.1 ∙ turned.1 in
        let rows_in : InReceivers (rows c) (map receiver_of (rows n)) = λ to index k. row_received (rows n) to index (within_kept c.receivers n.receivers (due_rows c (octets_of (offered t.durable)) t.moment) to index k) in
        (still_does address s.durable (committed s u).durable c offer h.0, still_in (rows c) (committed s u).durable.receivers (map receiver_of (rows n)) kept rows_in)
    by_phase false =
        let done : Goes t.durable (committed s t).durable = committed_goes s t in
        (still_does address s.durable (committed s t).durable c (then_offer s.durable t.durable (committed s t).durable same.0 done.0) h.0, still_in (rows c) (committed s t).durable.receivers s.durable.receivers (done.1 ∙ same.1) h.1)

-- ---- events

abbrev OffersBoth : ℕ → DistDurable → DistDurable → List (ℕ × Sent) → Type 0
OffersBoth address old new sends = Offers address old sends × Offers address new sends

client_offering : (address : ℕ) (s : DistState) (c : Client) → s.client ≡ Some c → IsDistState s → IsPlanned address s → Offering address s.durable c
client_offering address s c e h k =
    let own : HasRows s.durable.receivers s.progress c = (has_rows (is_at_rest s.durable.phase) s.durable.receivers s.progress s.client c h.client e).1 in
    (own_plan address s.durable s.client c e k.plan, still_in (rows c) s.durable.receivers (map receiver_of (rows c)) (sym own.receivers) (row_received (rows c)))

waiting : (address : ℕ) (s t : DistState) (reports : List (ℕ × Sent)) (client : Option Client) → s.client ≡ client → Goes s.durable t.durable → ((d : DistDurable) → Offers address d reports) → IsDistState s → IsPlanned address s → OffersBoth address s.durable (client_waits address s t reports client).next.durable (client_waits address s t reports client).sends
waiting address s t reports None e same all h k = (all s.durable, all _)
waiting address s t reports (Some c) e same all h k =
    let own = client_offering address s c e h k in
    (turn_offers address s.durable s t reports c own (all s.durable), turn_offers address _ s t reports c (after_offers address s t reports c same own) (all _))

waits_offer : (address : ℕ) (s : DistState) (o : Served) → IsDistState s → IsPlanned address s → OffersBoth address s.durable (waits address s o).next.durable (waits address s o).sends
waits_offer address s o h k = waiting address s (server_waits s o) (map by_blob o.replies) s.client refl (broken_goes (with_session s o.session) o.session.link (run_upload s)) (λ d. blob_offers address d o.replies) h k

time_offers : (address : ℕ) (s : DistState) (upload : Upload) → IsDistState s → IsPlanned address s → OffersBoth address s.durable (on_time address s upload).next.durable (on_time address s upload).sends
time_offers address s (Uploading j) h k = by_whole (is_whole j.transfer)
  where
    by_whole : (b : Bool) → OffersBoth address s.durable (cond b (verifies s j) (waits address s (on_server_time (server_of s) (server_of s).serving))).next.durable (cond b (verifies s j) (waits address s (on_server_time (server_of s) (server_of s).serving))).sends
    by_whole true = (tt, tt)
    by_whole false = waits_offer address s (on_server_time (server_of s) (server_of s).serving) h k
time_offers address s NoUpload h k = waits_offer address s (on_server_time (server_of s) (server_of s).serving) h k
time_offers address s (Broken job) h k = waits_offer address s (on_server_time (server_of s) (server_of s).serving) h k
time_offers address s Uploaded h k = waits_offer address s (on_server_time (server_of s) (server_of s).serving) h k

pub packet_offers : (address : ℕ) (d : DistDurable) (s : DistState) (from : ℕ) (taken : Option Taken) → Offers address d (on_packet address s from taken).sends
packet_offers address d s from (Some taken) = taken_offers address d s from taken
packet_offers address d s from None = tt

event_offers : (address : ℕ) (s : DistState) (event : NodeEvent) → IsDistState s → IsPlanned address s → OffersBoth address s.durable (on_event address s event).next.durable (on_event address s event).sends
event_offers address s (PacketComes packet) h k = (any_offers s.durable, any_offers _)
  where
    any_offers : (d : DistDurable) → Offers address d (on_event address s (PacketComes packet)).sends
    any_offers d = elim (packet.to == address) as (λ b. Offers address d (cond b (on_packet address s packet.from (taken_at packet.payload)) (passed_over s)).sends) [ true ↦ packet_offers address d s packet.from (taken_at packet.payload) | false ↦ tt ]
event_offers address s TimeComes h k = time_offers address s (run_upload s) h k

passed_offers : (address : ℕ) (old new : DistDurable) (sends : List (ℕ × Sent)) (work : FlashWork) → OffersBoth address old new sends → AllByRecursion (λ d. Offers address d sends) (passed_by old new work)
passed_offers address old new sends Untouched h = (h.0, tt)
passed_offers address old new sends (Recorded long) h = (h.0, (h.1, tt))
passed_offers address old new sends (Begun long) h = (h.0, (h.1, tt))
passed_offers address old new sends (PutBlock pages) h = (h.0, (h.1, tt))

pub starts_offered : StartsAreOffered
starts_offered address s event now fits h k =
    passed_offers address s.durable (dist_step address s event now).next.durable (dist_step address s event now).sends (dist_step address s event now).work
    (event_offers address (at_moment s now) event (moved s now h) (planned_at address s now k))
