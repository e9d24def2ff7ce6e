-- The table of a distributor: its uploads, a definition for each request, by the upload's phase (MshDFU, Firmware Distribution
-- Server behavior; what is compared and kept as this profile sets it).
use Rattle.std.specs.Prelude.{ℕ, ◌*◌, ◌/◌, ◌==◌, nat_lt, Bool, false, ◌&&◌, List, [], ◌∷◌, Option, Some, None, Result, Ok, Err, if◌then◌else◌, length, is_some, bytes_eq}
use Rattle.std.specs.List.{list_any}
use Rattle.mu_model_image.specs.declared.Meta.{Meta}
use Rattle.mu_model_image.specs.Meta.{meta_octets, meta_from, firmware_id, own_company}
use Rattle.mu_model_node.specs.Slots.{held_count}
use Rattle.mu_model_node.specs.BlobServer.{Transfer, Session, unlinked, heard_at, made_ready}
use Rattle.mu_model_node.specs.declared.Link.{Link}
use Rattle.mu_model_node.specs.declared.Link.TheVariants.{Cut}
use Rattle.mu_model_distributor.specs.Requests.{UploadStart}
use Rattle.mu_model_distributor.specs.Replies.{DistReply, ShownUpload, UploadStatus}
use Rattle.mu_model_distributor.specs.DistState.{StoredImage, UploadJob, Upload, NoUpload, Uploading, Broken, Uploaded, DistDurable, DistState, upload_number, run_upload, is_at_rest}
use Rattle.mu_model_distributor.specs.Receivers.{insufficient_resources, internal_error, busy_with_distribution, busy_with_upload, uri_not_supported, empty_banks}

-- ---- Firmware Distribution Upload Get

abbrev pub percent : ℕ → ℕ → ℕ
percent done all = 100 * done / all

-- the per cent of blocks held, and 0 without parameters
abbrev pub transfer_progress : Transfer → ℕ
transfer_progress t = if is_some t.parameters then percent (held_count t.held) (length t.held) else 0

abbrev pub job_progress : Option UploadJob → ℕ
job_progress None = 0
job_progress (Some j) = transfer_progress j.transfer

-- the Firmware ID of an image of this project
abbrev pub own_id : Meta → List ℕ
own_id meta = firmware_id own_company meta

abbrev pub shown_at : ℕ → Meta → Option ShownUpload
shown_at progress meta = Some (record { progress = progress; fwid = own_id meta })

abbrev pub shown_upload : Upload → Meta → Option ShownUpload
shown_upload NoUpload meta = None
shown_upload (Uploading j) meta = shown_at (transfer_progress j.transfer) meta
shown_upload (Broken job) meta = shown_at (job_progress job) meta
shown_upload Uploaded meta = shown_at 100 meta

-- a status that refuses shows the upload as it stands
abbrev pub upload_status : ℕ → DistState → DistReply
upload_status status s = UploadStatus status (upload_number (run_upload s)) (shown_upload (run_upload s) s.durable.upload_meta)

-- ---- Firmware Distribution Upload Start

-- the metadata that are offered: the size and the Firmware ID are theirs, and the company is this project's
abbrev pub agreed : UploadStart → Option Meta → Option Meta
agreed u None = None
agreed u (Some meta) = if (u.size == meta.size) && bytes_eq u.fwid (own_id meta) then Some meta else None

abbrev pub offered_meta : UploadStart → Option Meta
offered_meta u = agreed u (meta_from u.metadata)

-- whether all fields are equal to those of an upload
abbrev pub same_upload_start : UploadStart → DistDurable → UploadJob → Bool
same_upload_start u d j =
    (u.ttl == d.upload_ttl) && (u.base == j.transfer.base) && (u.id == j.transfer.id) && (u.size == j.transfer.size)
    && bytes_eq u.metadata (meta_octets d.upload_meta) && bytes_eq u.fwid (own_id d.upload_meta)

abbrev pub has_image : List StoredImage → Meta → Bool
has_image images meta = list_any (λ (x : StoredImage). bytes_eq (own_id x.image.meta) (own_id meta)) images

abbrev pub with_upload : DistState → Upload → DistState
with_upload s upload = record s { durable = record (s.durable) { upload = upload }; lags = false }

-- the upload's fields become the request's
abbrev pub with_fields : DistState → ℕ → Meta → DistState
with_fields s ttl meta = record s { durable = record (s.durable) { upload_ttl = ttl; upload_meta = meta } }

abbrev pub with_session : DistState → Session → DistState
with_session s l = record s { session = l }

-- the image is there already: an earlier job goes
abbrev pub finds : DistState → UploadStart → Meta → DistState
finds s u meta = with_session (with_fields (with_upload s Uploaded) u.ttl meta) (unlinked s.session)

abbrev pub new_job : UploadStart → ℕ → UploadJob
new_job u bank = record { transfer = record { id = u.id; size = u.size; base = u.base; parameters = None; held = [] }; bank = bank }

-- a new job goes to the lowest empty bank
abbrev pub takes_in : DistState → UploadStart → Meta → List ℕ → Result DistState ℕ
takes_in s u meta [] = Err insufficient_resources
takes_in s u meta (bank ∷ others) =
    if nat_lt s.durable.capacity u.size then Err insufficient_resources
    else Ok (with_session (with_fields (with_upload s (Uploading (new_job u bank))) u.ttl meta) (made_ready s.moment (unlinked s.session)))

-- an earlier job that was broken off goes
abbrev pub takes : DistState → UploadStart → Meta → Result DistState ℕ
takes s u meta = takes_in s u meta (empty_banks s.durable.images None)

-- a link that was cut is ready again
abbrev pub taken_up : ℕ → Session → Link → Session
taken_up now l Cut = made_ready now l
taken_up now l _ = heard_at now l

abbrev pub resumes : DistState → UploadJob → DistState
resumes s j = with_session (with_upload s (Uploading j)) (taken_up s.moment s.session s.session.link)

abbrev pub takes_or_resumes : DistState → UploadStart → Meta → Upload → Result DistState ℕ
takes_or_resumes s u meta (Broken (Some j)) = if same_upload_start u s.durable j then Ok (resumes s j) else takes s u meta
takes_or_resumes s u meta _ = takes s u meta

abbrev pub offers : DistState → UploadStart → Upload → Option Meta → Result DistState ℕ
offers s u upload None = Err internal_error
offers s u upload (Some meta) = if has_image s.durable.images meta then Ok (finds s u meta) else takes_or_resumes s u meta upload

abbrev pub upload_start : DistState → UploadStart → Upload → Result DistState ℕ
upload_start s u (Uploading j) = if same_upload_start u s.durable j then Ok s else Err busy_with_upload
upload_start s u upload = if is_at_rest s.durable.phase then offers s u upload (offered_meta u) else Err busy_with_distribution

-- ---- Firmware Distribution Upload Start OOB

-- no image is fetched by a URI (this profile)
abbrev pub upload_start_oob : DistState → DistReply
upload_start_oob s = upload_status uri_not_supported s

-- ---- Firmware Distribution Upload Cancel

-- the job goes
abbrev pub upload_cancel : DistState → DistState
upload_cancel s = with_session (with_upload s NoUpload) (unlinked s.session)
