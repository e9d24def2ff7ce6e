-- How a client begins, goes on after a boot, and is told to apply or to cancel; and what is seen of it (this profile).
use Rattle.std.specs.Prelude.{ℕ, ◌==◌, ◌&&◌, ◌||◌, not, Bool, true, false, List, [], map, Option, Some, None, if◌then◌else◌}
use Rattle.std.specs.List.{list_any}
use Rattle.mu_model_client.specs.Sets.{below}
use Rattle.mu_model_client.specs.Rows.{Row, new_row, transfer_canceled, apply_success, apply_failed, row_canceled}
use Rattle.mu_model_client.specs.Client.{Sending, Plan, Dropped, Purpose, Blob, Update, Check, Information, Chunks, Pull, Apply, Cancel, Part, Transferring, Applying, Cancelling, part_of, Standing, Idle, Active, Gone, Receiver, new_receiver, Item, Says, Sends, Place, Before, At, Verified, Ended, Client, chunk_total}
pub use Rattle.mu_model_client.specs.declared.Stage.{Stage}
pub use Rattle.mu_model_client.specs.declared.Stage.TheVariants.{Transfer as StageTransfer, Verified as StageVerified, Applying as StageApplying, Canceling as StageCanceling, Ended as StageEnded}
pub use Rattle.mu_model_client.specs.declared.TransferRow.{TransferRow}

-- nobody is pending, and the step begins in the next time event
abbrev pub at_first : Sending → Purpose → List Receiver → Place → Client
at_first sending purpose receivers place =
    record { sending = sending; purpose = purpose; receivers = receivers; place = place; queue = []; began = 0; moment = 0 }

abbrev pub purpose_of : Plan → Purpose
purpose_of plan = Update plan.meta plan.apply

-- ---- starting

abbrev pub new_active : ℕ × ℕ → Receiver
new_active receiver = new_receiver (new_row receiver.0 receiver.1) Active

-- an update of these addresses, each with the index of its image
abbrev pub start : Plan → List (ℕ × ℕ) → Client
start plan to = at_first plan.sending (purpose_of plan) (map new_active to) (Before Check)

-- a BLOB alone: from the information on (MshMBT, BLOB Transfer Client)
abbrev pub start_blob : Sending → List ℕ → Client
start_blob sending to = at_first sending Blob (map (λ address. new_active (address, 0)) to) (Before Information)

-- ---- going on after a boot

abbrev pub is_whole : Row → Bool
is_whole row = (row.phase == 4) || (row.phase == 6)

abbrev pub may_transfer : Row → Bool
may_transfer row =
    not ((row.phase == 5) || (row.phase == transfer_canceled) || (row.phase == apply_success) || (row.phase == apply_failed))
    && (row.update_status == 0) && (row.transfer_status == 0)

-- the receivers that a client begins with
abbrev pub goes_on_with : Stage → Row → Bool
goes_on_with StageTransfer row = may_transfer row
goes_on_with StageVerified row = is_whole row
goes_on_with StageApplying row = is_whole row
goes_on_with StageCanceling row = false
goes_on_with StageEnded row = false

abbrev pub first_place : Stage → Place
first_place StageTransfer = Before Check
first_place StageVerified = Verified
first_place StageApplying = Before Apply
first_place StageCanceling = Before Cancel
first_place StageEnded = Ended Applying

abbrev pub resumed : Stage → Row → Receiver
resumed stage row = new_receiver row (if goes_on_with stage row then Active else Idle)

-- rows stay as they are, progress included
abbrev pub resume : Plan → List Row → Stage → Client
resume plan rows stage = at_first plan.sending (purpose_of plan) (map (resumed stage) rows) (first_place stage)

-- ---- applying and cancelling

-- after the verification
abbrev pub take_apply : Client → Client
take_apply c = record c { place = Before Apply; queue = [] }

-- nobody is pending any more, and each row that isn't final is canceled
abbrev pub canceled : Receiver → Receiver
canceled r = record r { row = row_canceled r.row; pending = false; wanted = [] }

abbrev pub take_cancel : Client → Client
take_cancel c = record c { receivers = map canceled c.receivers; place = Before Cancel; queue = [] }

-- ---- what is seen

abbrev pub stage_in : Part → Stage
stage_in Transferring = StageTransfer
stage_in Applying = StageApplying
stage_in Cancelling = StageCanceling

abbrev pub stage_at : Place → Stage
stage_at (Before step) = stage_in (part_of step)
stage_at (At step) = stage_in (part_of step)
stage_at Verified = StageVerified
stage_at (Ended part) = StageEnded

abbrev pub stage_of : Client → Stage
stage_of c = stage_at c.place

abbrev pub is_ended : Place → Bool
is_ended (Ended part) = true
is_ended _ = false

abbrev pub cause_of : Standing → Option Dropped
cause_of (Gone cause) = Some cause
cause_of _ = None

abbrev pub transfer_row : Receiver → TransferRow
transfer_row r = record {
  address = r.row.address;
  status = r.row.transfer_status;
  progress = r.row.progress;
  silent = r.silent;
  dropped = cause_of r.standing;
}

-- the chunks of the present list that are still to be sent
abbrev pub is_chunk : ℕ → Item → Bool
is_chunk k (Says to request) = false
is_chunk k (Sends to block chunk) = chunk == k

abbrev pub wanted_below : ℕ → List Item → List Bool
wanted_below n queue = map (λ k. list_any (is_chunk k) queue) (below n)

abbrev pub wanted_at : Sending → List Item → Place → List Bool
wanted_at p queue (At (Chunks b)) = wanted_below (chunk_total p b) queue
wanted_at p queue (At (Pull b)) = wanted_below (chunk_total p b) queue
wanted_at p queue _ = []

abbrev pub wanted : Client → List Bool
wanted c = wanted_at c.sending c.queue c.place
