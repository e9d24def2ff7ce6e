-- The table of a distributor: all messages.
use Rattle.std.specs.Prelude.{ℕ, ◌+◌, [], Bool, map, length, Option, Some, None, Ok}
use Rattle.mu_model_image.specs.Pieces.{piece_count}
use Rattle.mu_model_node.specs.BlobMessages.{BlobReply}
use Rattle.mu_model_node.specs.BlobServer.{Change, Same, Begins, Drops, Puts, changed}
use Rattle.mu_model_node.specs.BlobTable.{Served, on_blob}
use Rattle.mu_model_node.specs.declared.FlashWork.{FlashWork}
use Rattle.mu_model_node.specs.declared.FlashWork.TheVariants.{Untouched, Recorded, Begun, PutBlock}
use Rattle.mu_model_node.specs.FlashWork.{fresh_after, page_octets}
use Rattle.mu_model_distributor.specs.Requests.{DistRequest, ReceiversAdd, ReceiversDeleteAll, ReceiversGet, CapabilitiesGet, DistributionGet, DistributionStart, DistributionSuspend, DistributionCancel, DistributionApply, UploadGet, StartUpload, StartUploadOob, UploadCancel, FirmwareGet, FirmwareGetByIndex, FirmwareDelete, FirmwareDeleteAll}
use Rattle.mu_model_distributor.specs.DistMessages.{Taken, OfDistribution, OfBlob, OfReceiver, Sent, ByBlob}
use Rattle.mu_model_client.specs.Answers.{Answer}
use Rattle.mu_model_client.specs.Client.{Client}
use Rattle.mu_model_client.specs.Told.{told}
use Rattle.mu_model_distributor.specs.DistState.{UploadJob, Upload, Uploading, Broken, DistState, run_upload, server_of}
use Rattle.mu_model_distributor.specs.Commit.{Outcome, silently, is_long, ends, tells, answered}
use Rattle.mu_model_distributor.specs.Receivers.{success, receivers_add, receivers_status, receivers_delete_all, receivers_list, capabilities}
use Rattle.mu_model_distributor.specs.Distribution.{with_client, distribution_status, distribution_start, distribution_suspend, distribution_cancel, distribution_apply}
use Rattle.mu_model_distributor.specs.Uploads.{with_session, upload_status, upload_start, upload_start_oob, upload_cancel}
use Rattle.mu_model_distributor.specs.Firmware.{no_index, firmware_status, firmware_get, firmware_get_by_index, firmware_delete, firmware_delete_all}

-- ---- requests

abbrev pub on_request : ℕ → DistState → ℕ → DistRequest → Outcome
on_request address s to (ReceiversAdd entries) = answered s to receivers_status (receivers_add s entries)
on_request address s to ReceiversDeleteAll = answered s to receivers_status (receivers_delete_all s)
on_request address s to (ReceiversGet first limit) = tells s to (receivers_list first limit s)
on_request address s to CapabilitiesGet = tells s to (capabilities s)
on_request address s to DistributionGet = tells s to (distribution_status success s)
on_request address s to (DistributionStart ask) = answered s to distribution_status (distribution_start address s ask s.durable.phase)
on_request address s to DistributionSuspend = answered s to distribution_status (distribution_suspend s s.durable.phase)
on_request address s to DistributionCancel = answered s to distribution_status (distribution_cancel s s.durable.phase)
on_request address s to DistributionApply = answered s to distribution_status (distribution_apply s s.durable.phase)
on_request address s to UploadGet = tells s to (upload_status success s)
on_request address s to (StartUpload u) = answered s to upload_status (upload_start s u (run_upload s))
on_request address s to StartUploadOob = tells s to (upload_start_oob s)
on_request address s to UploadCancel = answered s to upload_status (Ok (upload_cancel s))
on_request address s to (FirmwareGet fwid) = tells s to (firmware_get fwid s)
on_request address s to (FirmwareGetByIndex index) = tells s to (firmware_get_by_index index s)
on_request address s to (FirmwareDelete fwid) = answered s to (firmware_status no_index (Some fwid)) (firmware_delete s fwid)
on_request address s to FirmwareDeleteAll = answered s to (firmware_status no_index None) (firmware_delete_all s)

-- ---- BLOB messages of an uploader (the node's rows)

abbrev pub job_changed : Change → UploadJob → UploadJob
job_changed c j = record j { transfer = changed c j.transfer }

abbrev pub upload_changed : Change → Upload → Upload
upload_changed c (Uploading j) = Uploading (job_changed c j)
upload_changed c (Broken (Some j)) = Broken (Some (job_changed c j))
upload_changed c upload = upload

abbrev pub with_change : DistState → Change → ℕ → DistState
with_change s c count = record s { durable = record (s.durable) { count = count; upload = upload_changed c s.durable.upload } }

-- a record that a BLOB message writes keeps the note that stands, so the record's upload phase too; a mark says that a block is held
abbrev pub blob_changed : DistState → Change → DistState
blob_changed s Same = s
blob_changed s (Puts block octets) = with_change s (Puts block octets) s.durable.count
blob_changed s c = record (with_change s c (s.durable.count + 1)) { fresh = fresh_after (is_long s.durable) s.fresh }

abbrev pub blob_work : Bool → Change → FlashWork
blob_work is_long Same = Untouched
blob_work is_long (Begins p) = Begun is_long
blob_work is_long Drops = Recorded is_long
blob_work is_long (Puts block octets) = PutBlock (piece_count (length octets) page_octets)

abbrev pub by_blob : ℕ × BlobReply → ℕ × Sent
by_blob reply = (reply.0, ByBlob reply.1)

abbrev pub served : DistState → Served → Outcome
served s o = record {
  next = with_session (blob_changed s o.change) o.session;
  sends = map by_blob o.replies;
  work = blob_work (is_long s.durable) o.change;
}

-- ---- statuses and reports of receivers

-- the client is told, and the rows follow it; without a client nothing changes
abbrev pub hears : DistState → ℕ → Answer → Option Client → Outcome
hears s from answer None = silently s
hears s from answer (Some c) = ends s (with_client s (told c from answer s.moment)) (λ u. [])

-- ---- all messages

abbrev pub on_taken : ℕ → DistState → ℕ → Taken → Outcome
on_taken address s from (OfDistribution request) = on_request address s from request
on_taken address s from (OfBlob request) = served s (on_blob (server_of s) from request)
on_taken address s from (OfReceiver answer) = hears s from answer s.client
