use Rattle.std.proofs.Common.{◌≡◌, map, take}
use Rattle.arrayvec.specs.ArrayVec.{array_vec_len}
use Rattle.mu_model_updater.specs.Updater.{first_image}
use Rattle.mu_solo.proofs.solo.first_images.Given as goal

abbrev pub invariant-loop-address : goal.invariant-loop-address
invariant-loop-address l = record {
  count : array_vec_len l.receivers ≡ l.address-index;
  receivers : l.receivers.items ≡ map first_image (take l.address-index l.to);
}
