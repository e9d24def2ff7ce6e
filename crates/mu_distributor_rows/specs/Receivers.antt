-- Receivers in memory as the model's, with their progress.
use Rattle.std.specs.Prelude.{ℕ, ◌≡◌, ◌≤◌, ◌++◌, Bool, List, length, map, Result, Ok, Err}
use Rattle.std.specs.List.{AllByRecursion}
use Rattle.mu_distmsg.specs.declared.message.ReceiverRow.{ReceiverRow}
use Rattle.mu_model_client.specs.Rows.{Row}
use Rattle.mu_model_distributor.specs.Requests.{Entry}
use Rattle.mu_model_distributor.specs.DistState.{DistState, no_progress}
use Rattle.mu_model_distributor.specs.Receivers.{with_receivers}
use Rattle.mu_model_distributor.specs.Sound.{IsReceiver}
use Rattle.mu_distributor_kept.specs.Views.{row_receiver, row_receivers}

abbrev pub progress_in : ReceiverRow → ℕ
progress_in r = r.progress

abbrev pub row_here : ReceiverRow → Row
row_here r = record {
  address = r.address;
  index = r.image_index;
  phase = r.phase;
  update_status = r.update_status;
  transfer_status = r.transfer_status;
  progress = r.progress;
}

-- the rows are those of the distributor, with its progress
pub record AreRowsOf (rows : List ReceiverRow) (s : DistState) : Type 0 where
  pub receivers : s.durable.receivers ≡ row_receivers rows
  pub progress : s.progress ≡ map progress_in rows

-- the distributor with other rows
abbrev pub with_rows : DistState → List ReceiverRow → DistState
with_rows s rows = with_receivers s (row_receivers rows) (map progress_in rows)

-- what a request comes to that leads to these rows, or is refused by a status
abbrev pub rows_stepped : DistState → List ReceiverRow → Result Bool ℕ → Result DistState ℕ
rows_stepped s rows (Ok due) = Ok (with_rows s rows)
rows_stepped s rows (Err status) = Err status

-- a receiver of a message: its address, and the index of the image
abbrev pub entry_of_pair : ℕ × ℕ → Entry
entry_of_pair p = record { address = p.0; index = p.1 }

abbrev pub entries_of : List (ℕ × ℕ) → List Entry
entries_of pairs = map entry_of_pair pairs

-- new rows stand behind the old ones, without progress
pub record GrownBy (old new tail : List ReceiverRow) : Type 0 where
  pub is : new ≡ old ++ tail
  pub blank : map progress_in tail ≡ no_progress (row_receivers tail)

abbrev pub Grown : List ReceiverRow → List ReceiverRow → Type 0
Grown old new = (tail : List ReceiverRow) × GrownBy old new tail

-- rows that can be shown
pub record IsShownRow (r : ReceiverRow) : Type 0 where
  pub receiver : IsReceiver (row_receiver r)
  pub progress : r.progress ≤ 100

abbrev pub AreShownRows : List ReceiverRow → Type 0
AreShownRows rows = AllByRecursion IsShownRow rows
