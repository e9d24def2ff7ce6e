use Rattle.std.proofs.Common.{◌≡◌, map, take}
use Rattle.arrayvec.specs.ArrayVec.{array_vec_len}
use Rattle.mu_model_client.specs.Begin.{new_active}
use Rattle.mu_receivers.specs.Receivers.{receivers_of}
use Rattle.mu_receivers.specs.Slots.{AreFew}
use Rattle.mu_updcli.proofs.rows.slots_of.Given as goal

abbrev pub invariant-loop-address : goal.invariant-loop-address
invariant-loop-address l = record {
  count : array_vec_len l.slots ≡ l.address-index;
  receivers : receivers_of l.slots.items ≡ map new_active (take l.address-index l.rows);
  few : AreFew l.slots.items;
}
