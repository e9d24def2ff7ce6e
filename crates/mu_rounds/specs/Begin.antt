-- How a machine of rounds begins, and what is asked of it then.
use Rattle.std.specs.Prelude.{◌≡◌}
use Rattle.mu_model_client.specs.Rows.{Row}
use Rattle.mu_model_client.specs.Client.{Place, At}
use Rattle.mu_model_client.specs.Begin.{canceled}
use Rattle.mu_receivers.specs.Receivers.{receiver_of}
use Rattle.mu_receivers.specs.Slots.{IsFew}
use Rattle.mu_receivers.specs.declared.slot.Slot.{Slot}
use Rattle.mu_rounds.specs.declared.begin.KeptRow.{KeptRow}

abbrev pub row_kept : KeptRow → Row
row_kept row = record {
  address = row.address;
  index = row.index;
  phase = row.phase;
  update_status = row.update_status;
  transfer_status = row.transfer_status;
  progress = row.progress;
}

-- no step is going on there
abbrev pub IsOff : Place → Type 0
IsOff (At step) = ⊥
IsOff place = Unit {0}

pub record IsCanceled (old new : Slot) : Type 0 where
  pub receiver : receiver_of new ≡ canceled (receiver_of old)
  pub few : IsFew old → IsFew new
