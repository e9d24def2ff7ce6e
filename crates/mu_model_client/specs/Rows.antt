-- The row of a receiver: what its packets and its client's verdicts say of it (MshDFU, Receivers List; ranks and verdicts are
-- this profile's).
use Rattle.std.specs.Prelude.{ℕ, ◌==◌, ◌&&◌, ◌||◌, nat_lt, nat_le, Bool, List, [], ◌∷◌, Option, Some, None, if◌then◌else◌, bytes_eq}
use Rattle.mu_model_image.specs.declared.Meta.{Meta}
use Rattle.mu_model_image.specs.Meta.{firmware_id, own_company}
use Rattle.mu_model_node.specs.UpdateMessages.{ShownJob, UpdateReply, InformationStatus, MetadataStatus, UpdateStatus}
use Rattle.mu_model_client.specs.Answers.{Answer, FromUpdate, FromBlob}

pub record Row : Type 0 where
  pub address : ℕ
  -- the index of the image
  pub index : ℕ
  -- an update phase, or one of those that rows alone have
  pub phase : ℕ
  pub update_status : ℕ
  pub transfer_status : ℕ
  -- the per cent of blocks held
  pub progress : ℕ

-- ---- phases that rows alone have (MshDFU, Retrieved Update Phase)

abbrev pub transfer_canceled : ℕ
transfer_canceled = 7

abbrev pub apply_success : ℕ
apply_success = 8

abbrev pub apply_failed : ℕ
apply_failed = 9

abbrev pub phase_unknown : ℕ
phase_unknown = 10

-- where a row begins
abbrev pub new_row : (address index : ℕ) → Row
new_row address index =
    record { address = address; index = index; phase = phase_unknown; update_status = 0; transfer_status = 0; progress = 0 }

abbrev pub with_phase : ℕ → Row → Row
with_phase phase row = record row { phase = phase }

-- ---- ranks

-- how far a phase is: a row's rank never falls (this profile)
abbrev pub rank : ℕ → ℕ
rank phase =
    if (phase == 0) || (phase == 10) then 0
    else if (phase == 1) || (phase == 2) then 1
    else if phase == 3 then 2
    else if (phase == 4) || (phase == 5) then 3
    else if phase == 6 then 4
    else 5

-- a phase that a node's status can report of a transfer
abbrev pub is_reported : ℕ → Bool
is_reported phase = nat_le 1 phase && nat_le phase 6

-- ---- what a packet says

-- an Update Status of the transfer takes the row to its phase, unless that has a lower rank, or the row is final
abbrev pub phase_reported : ℕ → ℕ → ℕ
phase_reported old new = if is_reported new && (nat_lt (rank old) 5 && nat_le (rank old) (rank new)) then new else old

abbrev pub phase_of_job : ℕ → ℕ → ℕ → Option ShownJob → ℕ
phase_of_job id old phase None = old
phase_of_job id old phase (Some job) = if job.id == id then phase_reported old phase else old

-- an Information Status that shows the offered image at the row's index makes it Apply Success
abbrev pub phase_shown : Meta → ℕ → List (List ℕ) → ℕ
phase_shown offered old [] = old
phase_shown offered old (shown ∷ more) =
    if bytes_eq shown (firmware_id own_company offered) && is_reported old then apply_success else old

abbrev pub phase_after_update : ℕ → Meta → Row → UpdateReply → ℕ
phase_after_update id offered row (UpdateStatus status phase job) = phase_of_job id row.phase phase job
phase_after_update id offered row (InformationStatus count first ids) =
    if first == row.index then phase_shown offered row.phase ids else row.phase
phase_after_update id offered row (MetadataStatus status index) = row.phase

-- the row after a packet from its receiver, of a transfer with this BLOB ID that offers these metadata
abbrev pub row_after : ℕ → Meta → Row → Answer → Row
row_after id offered row (FromUpdate reply) = with_phase (phase_after_update id offered row reply) row
row_after id offered row (FromBlob answer) = row

-- ---- verdicts

-- the transfer was canceled before the row was final
abbrev pub row_canceled : Row → Row
row_canceled row = if nat_lt (rank row.phase) 5 then with_phase transfer_canceled row else row

-- it was asked to confirm in vain
abbrev pub row_unconfirmed : Row → Row
row_unconfirmed row = if row.phase == apply_success then row else with_phase apply_failed row
