use Rattle.std.proofs.Common.{◌≡◌, map, take}
use Rattle.arrayvec.specs.ArrayVec.{array_vec_len}
use Rattle.mu_model_client.specs.Begin.{resumed}
use Rattle.mu_receivers.specs.Receivers.{receivers_of}
use Rattle.mu_receivers.specs.Slots.{AreFew}
use Rattle.mu_updcli.specs.Client.{row_shown}
use Rattle.mu_updcli.proofs.rows.slots_again.Given as goal

abbrev pub invariant-loop-row : goal.invariant-loop-row
invariant-loop-row l = record {
  count : array_vec_len l.slots ≡ l.row-index;
  receivers : receivers_of l.slots.items ≡ map (resumed l.stage) (map row_shown (take l.row-index l.rows));
  few : AreFew l.slots.items;
}
