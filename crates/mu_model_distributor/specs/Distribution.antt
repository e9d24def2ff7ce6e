-- The table of a distributor: its distribution, a definition for each request, by the phase that it comes in (MshDFU, Firmware
-- Distribution Server behavior; what is compared and kept as this profile sets it).
use Rattle.std.specs.Prelude.{ℕ, ◌+◌, ◌-◌, ◌^◌, ◌==◌, nat_le, Bool, true, false, List, replicate, Option, Some, None, Result, Ok, Err, if◌then◌else◌, length, map}
use Rattle.mu_model_image.specs.declared.Meta.{Meta}
use Rattle.mu_model_distributor.specs.Requests.{Settings}
use Rattle.mu_model_client.specs.declared.Plan.{Plan}
use Rattle.mu_model_client.specs.declared.Stage.{Stage}
use Rattle.mu_model_client.specs.declared.Stage.TheVariants.{Transfer, Verified, Applying, Canceling}
use Rattle.mu_model_client.specs.Rows.{Row, phase_unknown}
use Rattle.mu_model_client.specs.Client.{Client, rows}
use Rattle.mu_model_client.specs.Begin.{resume, take_apply, take_cancel}
use Rattle.mu_model_distributor.specs.Replies.{DistReply, DistributionStatus}
use Rattle.mu_model_distributor.specs.DistState.{StoredImage, Receiver, Upload, Uploading, DistPhase, Idle, TransferActive, TransferSuccess, ApplyingUpdate, Completed, Failed, CancelingUpdate, TransferSuspended, DistDurable, DistState, dist_number, run_upload, transfer_id, offered, rows_of, receiver_of, progress_of, no_progress}
use Rattle.mu_model_distributor.specs.Same.{same_settings}
use Rattle.mu_model_distributor.specs.Receivers.{insufficient_resources, wrong_phase, firmware_not_found, receivers_list_empty, busy_with_distribution, busy_with_upload}

-- ---- the client

-- metadata of nothing
abbrev pub no_meta : Meta
no_meta = record { size = 0; version = 0; digest = replicate 32 0 }

abbrev pub meta_of : Option StoredImage → Meta
meta_of None = no_meta
meta_of (Some x) = x.image.meta

-- what the present distribution sends, with these sizes (this profile)
abbrev pub plan_of : ℕ → DistDurable → Plan
plan_of address d = record {
  sending = record {
    from = address;
    id = transfer_id address d;
    size = (meta_of (offered d)).size;
    log = 12;
    chunk = 200;
    mode = d.settings.mode;
    group = d.settings.group;
    ttl = d.settings.ttl;
    base = d.settings.base;
  };
  meta = meta_of (offered d);
  apply = d.settings.policy == 1;
}

-- where a client begins that goes on in a phase, as after a boot
abbrev pub stage_in : DistPhase → Option Stage
stage_in TransferActive = Some Transfer
stage_in TransferSuspended = Some Transfer
stage_in TransferSuccess = Some Verified
stage_in ApplyingUpdate = Some Applying
stage_in CancelingUpdate = Some Canceling
stage_in _ = None

abbrev pub begun_at : Plan → List Row → Option Stage → Option Client
begun_at plan from None = None
begun_at plan from (Some stage) = Some (resume plan from stage)

abbrev pub client_begun : ℕ → DistState → DistState
client_begun address s = record s { client = begun_at (plan_of address s.durable) (rows_of s) (stage_in s.durable.phase) }

-- the rows are those of the client
abbrev pub with_client : DistState → Client → DistState
with_client s c = record s {
  durable = record (s.durable) { receivers = map receiver_of (rows c) };
  client = Some c;
  progress = map progress_of (rows c);
}

abbrev pub in_phase : DistState → DistPhase → DistState
in_phase s phase = record s { durable = record (s.durable) { phase = phase } }

-- in a phase without a client
abbrev pub at_rest : DistState → DistPhase → DistState
at_rest s phase = record (in_phase s phase) { client = None }

-- ---- Firmware Distribution Get

abbrev pub settings_in : DistPhase → Settings → Option Settings
settings_in Idle settings = None
settings_in _ settings = Some settings

abbrev pub distribution_status : ℕ → DistState → DistReply
distribution_status status s = DistributionStatus status (dist_number s.durable.phase) (settings_in s.durable.phase s.durable.settings)

-- ---- Firmware Distribution Start

-- a label has no equal
abbrev pub are_settings : Option Settings → Settings → Bool
are_settings None settings = false
are_settings (Some ask) settings = same_settings ask settings

abbrev pub is_uploading : Upload → Bool
is_uploading (Uploading j) = true
is_uploading _ = false

abbrev pub renewed : Receiver → Receiver
renewed r = record r { phase = phase_unknown; update_status = 0; transfer_status = 0 }

-- the counter's last value, which starts nothing
abbrev pub last_counter : ℕ
last_counter = 2 ^ 48 - 1

-- a distribution with the next number; an upload that was broken off is so from now on
abbrev pub next_distribution : DistState → Settings → DistState
next_distribution s ask = record s {
  durable = record (s.durable) {
    phase = TransferActive;
    counter = s.durable.counter + 1;
    settings = ask;
    receivers = map renewed s.durable.receivers;
    upload = run_upload s;
  };
  lags = false;
  progress = no_progress s.durable.receivers;
}

abbrev pub begun : ℕ → DistState → Settings → DistState
begun address s ask = client_begun address (next_distribution s ask)

abbrev pub begins : ℕ → DistState → Option Settings → Result DistState ℕ
begins address s None = Err insufficient_resources
begins address s (Some ask) =
    if is_uploading (run_upload s) then Err busy_with_upload
    else if nat_le (length s.durable.images) ask.image then Err firmware_not_found
    else if length s.durable.receivers == 0 then Err receivers_list_empty
    else if s.durable.counter == last_counter then Err insufficient_resources
    else Ok (begun address s ask)

-- the client begins again
abbrev pub resumes : ℕ → DistState → DistState
resumes address s = client_begun address (in_phase s TransferActive)

abbrev pub distribution_start : ℕ → DistState → Option Settings → DistPhase → Result DistState ℕ
distribution_start address s ask Idle = begins address s ask
distribution_start address s ask Completed = begins address s ask
distribution_start address s ask Failed = begins address s ask
distribution_start address s ask TransferSuspended = if are_settings ask s.durable.settings then Ok (resumes address s) else Err wrong_phase
distribution_start address s ask _ = if are_settings ask s.durable.settings then Ok s else Err busy_with_distribution

-- ---- Firmware Distribution Suspend

abbrev pub distribution_suspend : DistState → DistPhase → Result DistState ℕ
distribution_suspend s TransferActive = Ok (in_phase s TransferSuspended)
distribution_suspend s TransferSuspended = Ok s
distribution_suspend s _ = Err wrong_phase

-- ---- Firmware Distribution Cancel

-- the client cancels: each row of rank below 5 becomes Transfer Canceled
abbrev pub cancels : DistState → Option Client → DistState
cancels s None = in_phase s CancelingUpdate
cancels s (Some c) = with_client (in_phase s CancelingUpdate) (take_cancel c)

abbrev pub distribution_cancel : DistState → DistPhase → Result DistState ℕ
distribution_cancel s TransferActive = Ok (cancels s s.client)
distribution_cancel s TransferSuccess = Ok (cancels s s.client)
distribution_cancel s TransferSuspended = Ok (cancels s s.client)
distribution_cancel s Completed = Ok (at_rest s Idle)
distribution_cancel s Failed = Ok (at_rest s Idle)
distribution_cancel s ApplyingUpdate = Err wrong_phase
distribution_cancel s _ = Ok s

-- ---- Firmware Distribution Apply

abbrev pub applies : DistState → Option Client → DistState
applies s None = in_phase s ApplyingUpdate
applies s (Some c) = with_client (in_phase s ApplyingUpdate) (take_apply c)

abbrev pub distribution_apply : DistState → DistPhase → Result DistState ℕ
distribution_apply s TransferSuccess = Ok (applies s s.client)
distribution_apply s ApplyingUpdate = Ok s
distribution_apply s _ = Err wrong_phase
