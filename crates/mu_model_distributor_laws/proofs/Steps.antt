-- Each event and each boot keeps a state sound, and so do the durable states that an event goes through.
use Rattle.std.proofs.Common.{◌≡◌, ◌<◌, ℕ, true, false, [], refl, cond, arith, Option, Some, None, Result, Ok, Err}
use Rattle.std.specs.Prelude.{◌==◌, MatchOption}
use Rattle.std.specs.List.{AllByRecursion}
use Rattle.std.proofs.lemmas.List.Elements.{All-replicate}
use Rattle.mu_model_node.specs.declared.FlashWork.{FlashWork}
use Rattle.mu_model_node.specs.declared.FlashWork.TheVariants.{Untouched, Recorded, Begun, PutBlock}
use Rattle.mu_model_node.specs.FlashWork.{passed_by}
use Rattle.mu_model_node.specs.BlobServer.{asleep}
use Rattle.mu_model_node.specs.Events.{NodeEvent, PacketComes, TimeComes}
use Rattle.mu_model_node.specs.Laws.{RequestsKeepStatesSound}
use Rattle.mu_model_client.specs.Answers.{Answer}
use Rattle.mu_model_client.specs.Client.{Client}
use Rattle.mu_model_client.specs.Told.{told}
use Rattle.mu_model_distributor.specs.Requests.{DistRequest, ReceiversAdd, ReceiversDeleteAll, ReceiversGet, CapabilitiesGet, DistributionGet, DistributionStart, DistributionSuspend, DistributionCancel, DistributionApply, UploadGet, StartUpload, StartUploadOob, UploadCancel, FirmwareGet, FirmwareGetByIndex, FirmwareDelete, FirmwareDeleteAll}
use Rattle.mu_model_distributor.specs.Replies.{DistReply}
use Rattle.mu_model_distributor.specs.DistMessages.{Taken, OfDistribution, OfBlob, OfReceiver, taken_at}
use Rattle.mu_model_distributor.specs.DistState.{DistDurable, DistState, run_upload, no_progress}
use Rattle.mu_model_distributor.specs.Commit.{answered}
use Rattle.mu_model_distributor.specs.Receivers.{receivers_status, receivers_add, receivers_delete_all}
use Rattle.mu_model_distributor.specs.Distribution.{with_client, distribution_status, distribution_start, distribution_suspend, distribution_cancel, distribution_apply}
use Rattle.mu_model_distributor.specs.Firmware.{no_index, firmware_status, firmware_delete, firmware_delete_all}
use Rattle.mu_model_distributor.specs.Uploads.{upload_status, upload_start, upload_cancel}
use Rattle.mu_model_distributor.specs.DistTable.{on_request, hears, on_taken}
use Rattle.mu_model_distributor.specs.DistEvents.{is_broken_off, at_moment, on_packet, on_event, dist_step}
use Rattle.mu_model_distributor.specs.Sound.{IsDistDurable, IsDistState, DistRequestFits, AnswerFits, TakenFits}
use Rattle.mu_model_distributor_laws.specs.Laws.{EventFits, EventsKeepStatesSound, BootsAreSound, PassedStatesAreSound, NewIsSound}
use Rattle.mu_model_distributor_laws.proofs.ClientDue.{told_rows}
use Rattle.mu_model_distributor_laws.proofs.Rows.{none_percents, none_length}
use Rattle.mu_model_distributor_laws.proofs.Moved.{client_turned, begun_sound, committed_sound}
use Rattle.mu_model_distributor_laws.proofs.Requests.{Leads, adds_soundly, empties_soundly, starts_soundly, suspends_soundly, cancels_soundly, applies_soundly}
use Rattle.mu_model_distributor_laws.proofs.Uploads.{upload_soundly, cancels_upload, deletes_soundly, deletes_all_soundly}
use Rattle.mu_model_distributor_laws.proofs.Blobs.{blobs_soundly}
use Rattle.mu_model_distributor_laws.proofs.Times.{times_soundly}

-- ---- messages

leads_to : (s : DistState) (to : ℕ) (show : ℕ → DistState → DistReply) (r : Result DistState ℕ) → IsDistState s → Leads r → IsDistState (answered s to show r).next
leads_to s to show (Ok t) h k = committed_sound s t k
leads_to s to show (Err status) h k = h

requests_soundly : (address : ℕ) (s : DistState) (to : ℕ) (request : DistRequest) → DistRequestFits request → IsDistState s → IsDistState (on_request address s to request).next
requests_soundly address s to (ReceiversAdd entries) fits h = leads_to s to receivers_status (receivers_add s entries) h (adds_soundly s entries fits h)
requests_soundly address s to ReceiversDeleteAll fits h = leads_to s to receivers_status (receivers_delete_all s) h (empties_soundly s h)
requests_soundly address s to (ReceiversGet first limit) fits h = h
requests_soundly address s to CapabilitiesGet fits h = h
requests_soundly address s to DistributionGet fits h = h
requests_soundly address s to (DistributionStart ask) fits h = leads_to s to distribution_status (distribution_start address s ask s.durable.phase) h (starts_soundly address s ask s.durable.phase refl fits h)
requests_soundly address s to DistributionSuspend fits h = leads_to s to distribution_status (distribution_suspend s s.durable.phase) h (suspends_soundly s s.durable.phase refl h)
requests_soundly address s to DistributionCancel fits h = leads_to s to distribution_status (distribution_cancel s s.durable.phase) h (cancels_soundly s s.durable.phase refl h)
requests_soundly address s to DistributionApply fits h = leads_to s to distribution_status (distribution_apply s s.durable.phase) h (applies_soundly s s.durable.phase refl h)
requests_soundly address s to UploadGet fits h = h
requests_soundly address s to (StartUpload u) fits h = leads_to s to upload_status (upload_start s u (run_upload s)) h (upload_soundly s u (run_upload s) refl h fits)
requests_soundly address s to StartUploadOob fits h = h
requests_soundly address s to UploadCancel fits h = committed_sound s (upload_cancel s) (cancels_upload s h)
requests_soundly address s to (FirmwareGet fwid) fits h = h
requests_soundly address s to (FirmwareGetByIndex index) fits h = h
requests_soundly address s to (FirmwareDelete fwid) fits h = leads_to s to (firmware_status no_index (Some fwid)) (firmware_delete s fwid) h (deletes_soundly s fwid h)
requests_soundly address s to FirmwareDeleteAll fits h = leads_to s to (firmware_status no_index None) (firmware_delete_all s) h (deletes_all_soundly s h)

hears_soundly : (s : DistState) (from : ℕ) (answer : Answer) (client : Option Client) → s.client ≡ client → AnswerFits answer → IsDistState s → IsDistState (hears s from answer client).next
hears_soundly s from answer None e fits h = h
hears_soundly s from answer (Some c) e fits h = committed_sound s (with_client s (told c from answer s.moment)) (client_turned s c (told c from answer s.moment) h e (told_rows c from answer s.moment fits))

taken_soundly : RequestsKeepStatesSound → (address : ℕ) (s : DistState) (from : ℕ) (taken : Taken) → TakenFits taken → IsDistState s → IsDistState (on_taken address s from taken).next
taken_soundly law address s from (OfDistribution request) fits h = requests_soundly address s from request fits h
taken_soundly law address s from (OfBlob request) fits h = blobs_soundly law s from request fits h
taken_soundly law address s from (OfReceiver answer) fits h = hears_soundly s from answer s.client refl fits h

-- ---- events

pub moved : (s : DistState) (now : ℕ) → IsDistState s → IsDistState (at_moment s now)
moved s now h = record { durable = h.durable; fresh = h.fresh; current = h.current; client = h.client; progress = h.progress; percents = h.percents }

packet_soundly : RequestsKeepStatesSound → (address : ℕ) (s : DistState) (from : ℕ) (taken : Option Taken) → MatchOption taken (Unit {0}) TakenFits → IsDistState s → IsDistState (on_packet address s from taken).next
packet_soundly law address s from (Some taken) fits h = taken_soundly law address s from taken fits h
packet_soundly law address s from None fits h = h

event_soundly : RequestsKeepStatesSound → (address : ℕ) (s : DistState) (event : NodeEvent) → EventFits event → IsDistState s → IsDistState (on_event address s event).next
event_soundly law address s (PacketComes packet) fits h =
    elim (packet.to == address) as (λ b. IsDistState (cond b (on_packet address s packet.from (taken_at packet.payload)) (record { next = s; sends = []; sent = []; handled = false; work = Untouched })).next) [
      | true ↦ packet_soundly law address s packet.from (taken_at packet.payload) fits h
      | false ↦ h
    ]
event_soundly law address s TimeComes fits h = times_soundly address s (run_upload s) refl h

pub events_keep : RequestsKeepStatesSound → EventsKeepStatesSound
events_keep law address s event now fits h = event_soundly law address (at_moment s now) event fits (moved s now h)

-- before its client begins
abbrev pub awake : DistDurable → DistState
awake d = record { durable = d; fresh = 0; lags = is_broken_off d.upload; session = asleep; client = None; progress = no_progress d.receivers; moment = 0 }

pub boots_are_sound : BootsAreSound
boots_are_sound address d h = begun_sound address (awake d) (record { durable = h; fresh = omega arith; current = tt; progress = none_length d.receivers; percents = none_percents d.receivers })

-- ---- states passed

passed_sound : (old new : DistDurable) (work : FlashWork) → IsDistDurable old → IsDistDurable new → AllByRecursion IsDistDurable (passed_by old new work)
passed_sound old new Untouched h k = (h, tt)
passed_sound old new (Recorded is_long) h k = (h, (k, tt))
passed_sound old new (Begun is_long) h k = (h, (k, tt))
passed_sound old new (PutBlock pages) h k = (h, (k, tt))

pub passed_are_sound : RequestsKeepStatesSound → PassedStatesAreSound
passed_are_sound law address s event now fits h = passed_sound s.durable _ (dist_step address s event now).work h.durable (events_keep law address s event now fits h).durable

-- ---- a new one

pub new_is_sound : NewIsSound
new_is_sound pages some few = record {
  capacity = (pages, some, few, refl);
  images = tt;
  banks = tt;
  counter = omega arith;
  unbegun = λ e. (refl, refl);
  begun = λ h. absurd (omega arith);
  image = λ e. cc;
  some_receiver = λ e. cc;
  receivers = tt;
  addresses = tt;
  few_receivers = omega arith;
  upload_ttl = omega arith;
  upload_meta = record { size = omega arith; version = omega arith; digest_length = refl; digest_octets = All-replicate (λ octet. octet < 256) 32 0 (omega arith) };
  upload_job = tt;
  upload = tt;
}
