-- The number of distributions never falls.
use Rattle.std.proofs.Common.{◌≤◌, ℕ, Bool, true, false, List, refl, cond, arith, Option, Some, None, Result, Ok, Err}
use Rattle.std.specs.Prelude.{◌==◌}
use Rattle.mu_model_image.specs.Meta.{is_fit}
use Rattle.mu_model_node.specs.Slots.{joined}
use Rattle.mu_model_node.specs.BlobServer.{Session, Change, Same, Begins, Drops, Puts}
use Rattle.mu_model_node.specs.BlobTable.{Served, on_blob, on_server_time}
use Rattle.mu_model_node.specs.Events.{NodeEvent, PacketComes, TimeComes}
use Rattle.mu_model_client.specs.Answers.{Answer}
use Rattle.mu_model_client.specs.Client.{Client}
use Rattle.mu_model_client.specs.Told.{told}
use Rattle.mu_model_client.specs.Due.{due}
use Rattle.mu_model_distributor.specs.Requests.{DistRequest, ReceiversAdd, ReceiversDeleteAll, ReceiversGet, CapabilitiesGet, DistributionGet, DistributionStart, DistributionSuspend, DistributionCancel, DistributionApply, UploadGet, StartUpload, StartUploadOob, UploadCancel, FirmwareGet, FirmwareGetByIndex, FirmwareDelete, FirmwareDeleteAll}
use Rattle.mu_model_distributor.specs.Replies.{DistReply}
use Rattle.mu_model_distributor.specs.DistMessages.{Taken, OfDistribution, OfBlob, OfReceiver, taken_at, Sent}
use Rattle.mu_model_distributor.specs.DistState.{Upload, NoUpload, Uploading, Broken, Uploaded, run_upload, DistState, server_of, offered}
use Rattle.mu_model_distributor.specs.Same.{same_durable}
use Rattle.mu_model_distributor.specs.Commit.{recorded_if, committed, ends, answered}
use Rattle.mu_model_distributor.specs.Receivers.{receivers_status, receivers_add, receivers_delete_all}
use Rattle.mu_model_distributor.specs.Distribution.{with_client, distribution_status, distribution_start, distribution_suspend, distribution_cancel, distribution_apply}
use Rattle.mu_model_distributor.specs.Uploads.{with_session, upload_status, upload_start, upload_cancel}
use Rattle.mu_model_distributor.specs.Firmware.{no_index, firmware_status, firmware_delete, firmware_delete_all}
use Rattle.mu_model_distributor.specs.DistTable.{on_request, blob_changed, hears, on_taken}
use Rattle.mu_model_distributor.specs.DistTime.{is_whole, verified, verifies, server_waits, after_turn, octets_of, has_turns, client_turns, client_waits, waits, on_time}
use Rattle.mu_model_distributor.specs.DistEvents.{passed_over, at_moment, on_packet, on_event}
use Rattle.mu_model_distributor_laws.specs.Planned.{CountersRise}
use Rattle.mu_model_distributor_laws.proofs.Counts.{SameCount, then_counts, Counts, add_counts, delete_counts, start_counts, suspend_counts, cancel_counts, apply_counts, upload_counts, firmware_counts, all_counts, verified_counts, broken_counts, turn_counts}

abbrev Rises : DistState → DistState → Type 0
Rises s t = s.durable.counter ≤ t.durable.counter

recorded_rises : (s t : DistState) (b : Bool) → SameCount s t → Rises s (recorded_if t b)
recorded_rises s t true h = h.1
recorded_rises s t false h = h.1

committed_rises : (s t : DistState) → SameCount s t → Rises s (committed s t)
committed_rises s t h = recorded_rises s t (same_durable s.durable t.durable) h

led : (s : DistState) (to : ℕ) (show : ℕ → DistState → DistReply) (r : Result DistState ℕ) → Counts s r → Rises s (answered s to show r).next
led s to show (Ok t) h = committed_rises s t h
led s to show (Err status) h = omega arith

request_rises : (address : ℕ) (s : DistState) (to : ℕ) (request : DistRequest) → Rises s (on_request address s to request).next
request_rises address s to (ReceiversAdd entries) = led s to receivers_status (receivers_add s entries) (add_counts s entries)
request_rises address s to ReceiversDeleteAll = led s to receivers_status (receivers_delete_all s) (delete_counts s)
request_rises address s to (ReceiversGet first limit) = omega arith
request_rises address s to CapabilitiesGet = omega arith
request_rises address s to DistributionGet = omega arith
request_rises address s to (DistributionStart ask) = led s to distribution_status (distribution_start address s ask s.durable.phase) (start_counts address s ask s.durable.phase)
request_rises address s to DistributionSuspend = led s to distribution_status (distribution_suspend s s.durable.phase) (suspend_counts s s.durable.phase)
request_rises address s to DistributionCancel = led s to distribution_status (distribution_cancel s s.durable.phase) (cancel_counts s s.durable.phase)
request_rises address s to DistributionApply = led s to distribution_status (distribution_apply s s.durable.phase) (apply_counts s s.durable.phase)
request_rises address s to UploadGet = omega arith
request_rises address s to (StartUpload u) = led s to upload_status (upload_start s u (run_upload s)) (upload_counts s u (run_upload s))
request_rises address s to StartUploadOob = omega arith
request_rises address s to UploadCancel = committed_rises s (upload_cancel s) (refl, omega arith)
request_rises address s to (FirmwareGet fwid) = omega arith
request_rises address s to (FirmwareGetByIndex index) = omega arith
request_rises address s to (FirmwareDelete fwid) = led s to (firmware_status no_index (Some fwid)) (firmware_delete s fwid) (firmware_counts s fwid)
request_rises address s to FirmwareDeleteAll = led s to (firmware_status no_index None) (firmware_delete_all s) (all_counts s)

change_rises : (s : DistState) (c : Change) (l : Session) → Rises s (with_session (blob_changed s c) l)
change_rises s Same l = omega arith
change_rises s (Begins p) l = omega arith
change_rises s Drops l = omega arith
change_rises s (Puts block octets) l = omega arith

hears_rise : (s : DistState) (from : ℕ) (answer : Answer) (client : Option Client) → Rises s (hears s from answer client).next
hears_rise s from answer None = omega arith
hears_rise s from answer (Some c) = committed_rises s (with_client s (told c from answer s.moment)) (refl, omega arith)

taken_rises : (address : ℕ) (s : DistState) (from : ℕ) (taken : Taken) → Rises s (on_taken address s from taken).next
taken_rises address s from (OfDistribution request) = request_rises address s from request
taken_rises address s from (OfBlob request) = change_rises s (on_blob (server_of s) from request).change (on_blob (server_of s) from request).session
taken_rises address s from (OfReceiver answer) = hears_rise s from answer s.client

client_rises : (address : ℕ) (s t : DistState) (reports : List (ℕ × Sent)) (client : Option Client) → SameCount s t → Rises s (client_waits address s t reports client).next
client_rises address s t reports None e = committed_rises s t e
client_rises address s t reports (Some c) e = by_phase (has_turns t.durable.phase)
  where
    by_phase : (b : Bool) → Rises s (cond b (client_turns address s t reports (due c (octets_of (offered t.durable)) t.moment)) (ends s t (λ u. reports))).next
    by_phase true = committed_rises s (after_turn address t (due c (octets_of (offered t.durable)) t.moment).next) (then_counts s t (after_turn address t (due c (octets_of (offered t.durable)) t.moment).next) e (turn_counts address t (due c (octets_of (offered t.durable)) t.moment).next))
    by_phase false = committed_rises s t e

waits_rise : (address : ℕ) (s : DistState) (o : Served) → Rises s (waits address s o).next
waits_rise address s o = client_rises address s (server_waits s o) _ s.client (broken_counts (with_session s o.session) o.session.link (run_upload s))

time_rises : (address : ℕ) (s : DistState) (upload : Upload) → Rises s (on_time address s upload).next
time_rises address s (Uploading j) = by_whole (is_whole j.transfer)
  where
    by_whole : (b : Bool) → Rises s (cond b (verifies s j) (waits address s (on_server_time (server_of s) (server_of s).serving))).next
    by_whole true = committed_rises s (verified s j (is_fit (joined j.transfer.held) s.durable.upload_meta)) (verified_counts s j (is_fit (joined j.transfer.held) s.durable.upload_meta))
    by_whole false = waits_rise address s (on_server_time (server_of s) (server_of s).serving)
time_rises address s NoUpload = waits_rise address s (on_server_time (server_of s) (server_of s).serving)
time_rises address s (Broken job) = waits_rise address s (on_server_time (server_of s) (server_of s).serving)
time_rises address s Uploaded = waits_rise address s (on_server_time (server_of s) (server_of s).serving)

packet_rises : (address : ℕ) (s : DistState) (from : ℕ) (taken : Option Taken) → Rises s (on_packet address s from taken).next
packet_rises address s from (Some taken) = taken_rises address s from taken
packet_rises address s from None = omega arith

event_rises : (address : ℕ) (s : DistState) (event : NodeEvent) → Rises s (on_event address s event).next
event_rises address s (PacketComes packet) =
    elim (packet.to == address) as (λ b. Rises s (cond b (on_packet address s packet.from (taken_at packet.payload)) (passed_over s)).next) [
      | true ↦ packet_rises address s packet.from (taken_at packet.payload)
      | false ↦ omega arith
    ]
event_rises address s TimeComes = time_rises address s (run_upload s)

pub counters_rise : CountersRise
counters_rise address s event now = event_rises address (at_moment s now) event
