use Rattle.std.proofs.Common.{◌≡◌, ◌≤◌, ◌<◌, ℕ, true, false, take}
use Rattle.std.specs.List.{list_any}
use Rattle.mu_model_client.specs.Client.{misses_block}
use Rattle.mu_receivers.specs.Receivers.{receivers_of}
use Rattle.mu_receivers.proofs.blocks.least_missed.Given as goal

abbrev pub invariant-loop-slot : goal.invariant-loop-slot
invariant-loop-slot l = record {
  most : l.least ≤ l.total;
  none : (b : ℕ) → b < l.least → list_any (misses_block b) (receivers_of (take l.slot-index l.slots)) ≡ false;
  missed : l.least < l.total → list_any (misses_block l.least) (receivers_of (take l.slot-index l.slots)) ≡ true;
}
