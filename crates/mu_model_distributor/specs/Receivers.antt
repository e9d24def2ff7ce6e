-- The table of a distributor: its receivers and capabilities, a definition for each request (MshDFU, Firmware Distribution Server
-- behavior; limits and statuses as this profile sets them).
use Rattle.std.specs.Prelude.{ℕ, ◌*◌, ◌/◌, ◌==◌, min, nat_lt, not, Bool, true, false, ◌&&◌, ◌||◌, List, [], ◌∷◌, ◌++◌, Option, Some, None, Result, Ok, Err, if◌then◌else◌, length, take, drop, map, is_some}
use Rattle.std.specs.List.{list_any, filter}
pub use Rattle.mu_model_wire.specs.Statuses.{success, wrong_phase}
use Rattle.mu_model_distributor.specs.Requests.{Entry}
use Rattle.mu_model_client.specs.Rows.{Row, phase_unknown}
use Rattle.mu_model_distributor.specs.Replies.{DistReply, ReceiversStatus, ReceiversList, CapabilitiesStatus, most_receivers, most_rows}
use Rattle.mu_model_distributor.specs.DistState.{StoredImage, Receiver, UploadJob, job_of, DistPhase, Idle, DistState, rows_of, no_progress}

-- ---- statuses (MshDFU, Status)

abbrev pub insufficient_resources : ℕ
insufficient_resources = 1

abbrev pub internal_error : ℕ
internal_error = 3

abbrev pub firmware_not_found : ℕ
firmware_not_found = 4

abbrev pub receivers_list_empty : ℕ
receivers_list_empty = 6

abbrev pub busy_with_distribution : ℕ
busy_with_distribution = 7

abbrev pub busy_with_upload : ℕ
busy_with_upload = 8

abbrev pub uri_not_supported : ℕ
uri_not_supported = 9

-- ---- Firmware Distribution Receivers Add

-- nothing was learnt of it yet
abbrev pub new_receiver : Entry → Receiver
new_receiver e = record { address = e.address; index = e.index; phase = phase_unknown; update_status = 0; transfer_status = 0 }

abbrev pub has_address : List Receiver → ℕ → Bool
has_address receivers address = list_any (λ (r : Receiver). r.address == address) receivers

-- each new address is added, and one that is there is passed over
abbrev pub added : List Receiver → List Entry → List Receiver
added receivers [] = receivers
added receivers (e ∷ entries) = if has_address receivers e.address then added receivers entries else added (receivers ++ new_receiver e ∷ []) entries

abbrev pub with_receivers : DistState → List Receiver → List ℕ → DistState
with_receivers s receivers progress = record s { durable = record (s.durable) { receivers = receivers }; progress = progress }

abbrev pub is_idle : DistPhase → Bool
is_idle Idle = true
is_idle _ = false

abbrev pub receivers_add : DistState → List Entry → Result DistState ℕ
receivers_add s entries =
    if not (is_idle s.durable.phase) then Err busy_with_distribution
    else if nat_lt most_receivers (length (added s.durable.receivers entries)) then Err insufficient_resources
    else Ok (with_receivers s (added s.durable.receivers entries) (s.progress ++ no_progress (drop (length s.durable.receivers) (added s.durable.receivers entries))))

abbrev pub receivers_status : ℕ → DistState → DistReply
receivers_status status s = ReceiversStatus status (length s.durable.receivers)

-- ---- Firmware Distribution Receivers Delete All

abbrev pub receivers_delete_all : DistState → Result DistState ℕ
receivers_delete_all s = if is_idle s.durable.phase then Ok (with_receivers s [] []) else Err busy_with_distribution

-- ---- Firmware Distribution Receivers Get

-- progress is rounded down to an even number, since halves are told
abbrev pub rounded : Row → Row
rounded row = record row { progress = 2 * (row.progress / 2) }

abbrev pub receivers_list : ℕ → ℕ → DistState → DistReply
receivers_list first limit s =
    ReceiversList (length s.durable.receivers) first (take (min limit most_rows) (drop first (map rounded (rows_of s))))

-- ---- Firmware Distribution Capabilities Get

abbrev pub is_stored_in : List StoredImage → ℕ → Bool
is_stored_in images bank = list_any (λ (x : StoredImage). x.bank == bank) images

-- a bank counts as empty where its job has no parameters
abbrev pub is_filled_by : Option UploadJob → ℕ → Bool
is_filled_by None bank = false
is_filled_by (Some j) bank = is_some j.transfer.parameters && (j.bank == bank)

-- the banks of a distributor
abbrev pub banks : List ℕ
banks = 0 ∷ 1 ∷ 2 ∷ 3 ∷ []

abbrev pub empty_banks : List StoredImage → Option UploadJob → List ℕ
empty_banks images job = filter (λ bank. not (is_stored_in images bank || is_filled_by job bank)) banks

abbrev pub capabilities : DistState → DistReply
capabilities s = CapabilitiesStatus s.durable.capacity (s.durable.capacity * length (empty_banks s.durable.images (job_of s.durable.upload)))
