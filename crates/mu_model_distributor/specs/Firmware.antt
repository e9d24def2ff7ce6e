-- The table of a distributor: its images, a definition for each request (MshDFU, Firmware Distribution Server behavior).
use Rattle.std.specs.Prelude.{ℕ, ◌+◌, not, Bool, true, false, List, [], ◌∷◌, Option, Some, None, Result, Ok, Err, if◌then◌else◌, length, slice_get, bytes_eq, is_none}
use Rattle.std.specs.List.{filter}
use Rattle.mu_model_distributor.specs.Replies.{DistReply, FirmwareStatus}
use Rattle.mu_model_distributor.specs.DistState.{StoredImage, Upload, Uploading, Broken, DistState, run_upload, is_at_rest}
use Rattle.mu_model_distributor.specs.Receivers.{success, firmware_not_found, busy_with_distribution, busy_with_upload}
use Rattle.mu_model_distributor.specs.Uploads.{own_id}

-- the index of no image
abbrev pub no_index : ℕ
no_index = 0xFFFF

abbrev pub has_id : List ℕ → StoredImage → Bool
has_id fwid x = bytes_eq (own_id x.image.meta) fwid

-- the least index of an image with this ID
abbrev pub index_from : ℕ → List StoredImage → List ℕ → Option ℕ
index_from n [] fwid = None
index_from n (x ∷ images) fwid = if has_id fwid x then Some n else index_from (n + 1) images fwid

abbrev pub index_of : List StoredImage → List ℕ → Option ℕ
index_of images fwid = index_from 0 images fwid

abbrev pub firmware_status : ℕ → Option (List ℕ) → ℕ → DistState → DistReply
firmware_status index fwid status s = FirmwareStatus status (length s.durable.images) index fwid

-- ---- Firmware Distribution Firmware Get

abbrev pub firmware_found : List ℕ → Option ℕ → DistState → DistReply
firmware_found fwid None s = firmware_status no_index (Some fwid) firmware_not_found s
firmware_found fwid (Some n) s = firmware_status n (Some fwid) success s

abbrev pub firmware_get : List ℕ → DistState → DistReply
firmware_get fwid s = firmware_found fwid (index_of s.durable.images fwid) s

-- ---- Firmware Distribution Firmware Get By Index

abbrev pub firmware_at : ℕ → Option StoredImage → DistState → DistReply
firmware_at index None s = firmware_status index None firmware_not_found s
firmware_at index (Some x) s = firmware_status index (Some (own_id x.image.meta)) success s

abbrev pub firmware_get_by_index : ℕ → DistState → DistReply
firmware_get_by_index index s = firmware_at index (slice_get s.durable.images index) s

-- ---- Firmware Distribution Firmware Delete

abbrev pub with_images : DistState → List StoredImage → DistState
with_images s images = record s { durable = record (s.durable) { images = images } }

-- an upload that came in part
abbrev pub is_in_upload : Upload → Bool
is_in_upload (Uploading j) = true
is_in_upload (Broken job) = true
is_in_upload _ = false

-- each image with this ID goes, and the others close up
abbrev pub firmware_delete : DistState → List ℕ → Result DistState ℕ
firmware_delete s fwid =
    if not (is_at_rest s.durable.phase) then Err busy_with_distribution
    else if is_in_upload (run_upload s) then Err busy_with_upload
    else if is_none (index_of s.durable.images fwid) then Err firmware_not_found
    else Ok (with_images s (filter (λ (x : StoredImage). not (has_id fwid x)) s.durable.images))

-- ---- Firmware Distribution Firmware Delete All

abbrev pub firmware_delete_all : DistState → Result DistState ℕ
firmware_delete_all s =
    if not (is_at_rest s.durable.phase) then Err busy_with_distribution
    else if is_in_upload (run_upload s) then Err busy_with_upload
    else Ok (with_images s [])
