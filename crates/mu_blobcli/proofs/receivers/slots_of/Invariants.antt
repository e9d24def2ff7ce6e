use Rattle.std.proofs.Common.{◌≡◌, map, take}
use Rattle.arrayvec.specs.ArrayVec.{array_vec_len}
use Rattle.mu_model_client.specs.Begin.{new_active}
use Rattle.mu_receivers.specs.Receivers.{receivers_of}
use Rattle.mu_receivers.specs.Slots.{AreFew}
use Rattle.mu_blobcli.proofs.receivers.slots_of.Given as goal

abbrev pub invariant-loop-address : goal.invariant-loop-address
invariant-loop-address l = record {
  count : array_vec_len l.slots ≡ l.address-index;
  receivers : receivers_of l.slots.items ≡ map (λ address. new_active (address, 0)) (take l.address-index l.to);
  few : AreFew l.slots.items;
}
