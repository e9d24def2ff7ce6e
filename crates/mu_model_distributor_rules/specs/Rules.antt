-- What each request of a distributor is answered with: the status of the first rule that holds, in this order (MshDFU, Firmware Distribution Server
-- behavior; the order is this profile's). A request that is refused changes nothing.
use Rattle.std.specs.Prelude.{◌≡◌, ◌≢◌, ℕ, ◌+◌, ◌-◌, ◌^◌, ◌==◌, nat_lt, nat_le, not, Bool, true, false, ◌&&◌, ◌||◌, List, [], ◌∷◌, ◌++◌, length, map, Option, Some, None, if◌then◌else◌, bytes_eq, is_none}
use Rattle.std.specs.List.{list_any}
use Rattle.mu_model_wire.specs.Limits.{most_receivers}
use Rattle.mu_model_image.specs.declared.Meta.{Meta}
use Rattle.mu_model_image.specs.Meta.{meta_octets, meta_from, firmware_id}
use Rattle.mu_model_distributor.specs.declared.Settings.{Settings}
use Rattle.mu_model_distributor.specs.Requests.{Entry, UploadStart, DistRequest, ReceiversAdd, ReceiversDeleteAll, DistributionStart, DistributionSuspend, DistributionCancel, DistributionApply, StartUpload, StartUploadOob, FirmwareGet, FirmwareGetByIndex, FirmwareDelete, FirmwareDeleteAll}
use Rattle.mu_model_distributor.specs.Replies.{DistReply, ReceiversStatus, ReceiversList, CapabilitiesStatus, DistributionStatus, UploadStatus, FirmwareStatus}
use Rattle.mu_model_distributor.specs.DistMessages.{Sent, ByDistribution}
use Rattle.mu_model_distributor.specs.DistState.{StoredImage, Receiver, UploadJob, DistState, dist_number, upload_number, run_upload, job_of}
use Rattle.mu_model_distributor.specs.Commit.{Outcome}
use Rattle.mu_model_distributor.specs.DistTable.{on_request}

-- ---- rules

-- whether a rule holds, and the status that it answers
abbrev pub Rule : Type 0
Rule = Bool × ℕ

abbrev pub first_status : List Rule → ℕ
first_status [] = 0
first_status (rule ∷ rules) = if rule.0 then rule.1 else first_status rules

-- ---- what rules look at

abbrev pub phase_of : DistState → ℕ
phase_of s = dist_number s.durable.phase

-- Idle, Completed or Failed
abbrev pub is_at_rest : DistState → Bool
is_at_rest s = (phase_of s == 0) || (phase_of s == 4) || (phase_of s == 5)

-- that of the run
abbrev pub upload_phase_of : DistState → ℕ
upload_phase_of s = upload_number (run_upload s)

abbrev pub is_known : List ℕ → ℕ → Bool
is_known known address = list_any (λ (a : ℕ). a == address) known

-- how many addresses of a list aren't known before
abbrev pub new_ones : List ℕ → List ℕ → ℕ
new_ones known [] = 0
new_ones known (a ∷ addresses) = if is_known known a then new_ones known addresses else 1 + new_ones (known ++ a ∷ []) addresses

abbrev pub receivers_after : DistState → List Entry → ℕ
receivers_after s entries =
    length s.durable.receivers + new_ones (map (λ (r : Receiver). r.address) s.durable.receivers) (map (λ (e : Entry). e.address) entries)

abbrev pub are_same : Settings → Settings → Bool
are_same a b =
    (a.appkey == b.appkey) && (a.ttl == b.ttl) && (a.base == b.base) && (a.mode == b.mode) && (a.policy == b.policy) && (a.image == b.image)
    && (a.group == b.group)

-- those of the distribution that goes on; a label has no equal
abbrev pub are_its_settings : Option Settings → DistState → Bool
are_its_settings None s = false
are_its_settings (Some ask) s = are_same ask s.durable.settings

abbrev pub lacks_image : Option Settings → DistState → Bool
lacks_image None s = false
lacks_image (Some ask) s = nat_le (length s.durable.images) ask.image

-- an image with this Firmware ID, of company FFFF
abbrev pub has_firmware : DistState → List ℕ → Bool
has_firmware s fwid = list_any (λ (x : StoredImage). bytes_eq (firmware_id 0xFFFF x.image.meta) fwid) s.durable.images

-- the metadata are this project's, and size and Firmware ID are theirs
abbrev pub agrees : UploadStart → Option Meta → Bool
agrees u None = false
agrees u (Some meta) = (u.size == meta.size) && bytes_eq u.fwid (firmware_id 0xFFFF meta)

abbrev pub are_its_fields : UploadStart → DistState → Option UploadJob → Bool
are_its_fields u s None = false
are_its_fields u s (Some j) =
    (u.ttl == s.durable.upload_ttl) && (u.base == j.transfer.base) && (u.id == j.transfer.id) && (u.size == j.transfer.size)
    && bytes_eq u.metadata (meta_octets s.durable.upload_meta) && bytes_eq u.fwid (firmware_id 0xFFFF s.durable.upload_meta)

abbrev pub is_its_upload : UploadStart → DistState → Bool
is_its_upload u s = are_its_fields u s (job_of (run_upload s))

-- the Firmware ID of the metadata that are offered
abbrev pub is_stored : DistState → Option Meta → Bool
is_stored s None = false
is_stored s (Some meta) = has_firmware s (firmware_id 0xFFFF meta)

abbrev pub holds_image : List StoredImage → ℕ → Bool
holds_image images bank = list_any (λ (x : StoredImage). x.bank == bank) images

-- each of the four banks has an image
abbrev pub is_full : DistState → Bool
is_full s = holds_image s.durable.images 0 && holds_image s.durable.images 1 && holds_image s.durable.images 2 && holds_image s.durable.images 3

-- ---- the table, a row a request

abbrev pub start_rules : DistState → Option Settings → List Rule
start_rules s ask =
    (is_at_rest s && is_none ask, 1)
    ∷ (is_at_rest s && (upload_phase_of s == 1), 8)
    ∷ (is_at_rest s && lacks_image ask s, 4)
    ∷ (is_at_rest s && (length s.durable.receivers == 0), 6)
    ∷ (is_at_rest s && (s.durable.counter == 2 ^ 48 - 1), 1)
    ∷ (is_at_rest s, 0)
    ∷ (are_its_settings ask s, 0)
    ∷ (phase_of s == 7, 2)
    ∷ (true, 7)
    ∷ []

abbrev pub upload_rules : DistState → UploadStart → List Rule
upload_rules s u =
    ((upload_phase_of s == 1) && is_its_upload u s, 0)
    ∷ (upload_phase_of s == 1, 8)
    ∷ (not (is_at_rest s), 7)
    ∷ (not (agrees u (meta_from u.metadata)), 3)
    ∷ (is_stored s (meta_from u.metadata), 0)
    ∷ ((upload_phase_of s == 2) && is_its_upload u s, 0)
    ∷ (nat_lt s.durable.capacity u.size, 1)
    ∷ (is_full s, 1)
    ∷ (true, 0)
    ∷ []

abbrev pub delete_rules : DistState → List Rule → List Rule
delete_rules s rules =
    (not (is_at_rest s), 7)
    ∷ ((upload_phase_of s == 1) || (upload_phase_of s == 2), 8)
    ∷ rules

abbrev pub rules_of : DistState → DistRequest → List Rule
rules_of s (ReceiversAdd entries) = (not (phase_of s == 0), 7) ∷ (nat_lt most_receivers (receivers_after s entries), 1) ∷ []
rules_of s ReceiversDeleteAll = (not (phase_of s == 0), 7) ∷ []
rules_of s (DistributionStart ask) = start_rules s ask
rules_of s DistributionSuspend = ((phase_of s == 1) || (phase_of s == 7), 0) ∷ (true, 2) ∷ []
rules_of s DistributionCancel = (phase_of s == 3, 2) ∷ []
rules_of s DistributionApply = ((phase_of s == 2) || (phase_of s == 3), 0) ∷ (true, 2) ∷ []
rules_of s (StartUpload u) = upload_rules s u
rules_of s StartUploadOob = (true, 9) ∷ []
rules_of s (FirmwareGet fwid) = (has_firmware s fwid, 0) ∷ (true, 4) ∷ []
rules_of s (FirmwareGetByIndex index) = (nat_lt index (length s.durable.images), 0) ∷ (true, 4) ∷ []
rules_of s (FirmwareDelete fwid) = delete_rules s ((not (has_firmware s fwid), 4) ∷ [])
rules_of s FirmwareDeleteAll = delete_rules s []
-- lists, capabilities, and what is shown of the distribution and of the upload, refuse nothing
rules_of s _ = []

-- ---- what is told

-- the status of a reply; a list and the capabilities have none
abbrev pub status_of : DistReply → Option ℕ
status_of (ReceiversStatus status count) = Some status
status_of (ReceiversList count first rows) = None
status_of (CapabilitiesStatus capacity remaining) = None
status_of (DistributionStatus status phase settings) = Some status
status_of (UploadStatus status phase upload) = Some status
status_of (FirmwareStatus status count index fwid) = Some status

-- one reply, to this address, with this status where it has one
abbrev pub TellsStatus : ℕ → ℕ → List (ℕ × Sent) → Type 0
TellsStatus to status sends = (reply : DistReply) × (sends ≡ (to, ByDistribution reply) ∷ []) × ((n : ℕ) → status_of reply ≡ Some n → n ≡ status)

pub record IsAnsweredBy (s : DistState) (to status : ℕ) (o : Outcome) : Type 0 where
  pub told : TellsStatus to status o.sends
  pub refused : status ≢ 0 → o.next ≡ s

abbrev pub FirstRuleAnswers : Type 0
FirstRuleAnswers = (address to : ℕ) (s : DistState) (request : DistRequest) → IsAnsweredBy s to (first_status (rules_of s request)) (on_request address s to request)
