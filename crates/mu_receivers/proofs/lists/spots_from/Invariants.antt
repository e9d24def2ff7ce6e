use Rattle.std.proofs.Common.{◌≡◌, ◌≤◌, ◌-◌, ◌++◌, length}
use Rattle.mu_receivers.specs.Chunks.{AreBelow, rest, items_of}
use Rattle.mu_receivers.proofs.lists.spots_from.Given as goal

abbrev pub invariant-loop-k : goal.invariant-loop-k
invariant-loop-k l = record {
  few : length l.spots.items ≤ 16;
  below : AreBelow l.n l.spots.items;
  within : l.i ≤ length l.slots;
  list : items_of l.b l.spots.items ++ rest l.group l.b l.n l.slots l.k l.i ≡ rest l.group l.b l.n l.slots l.initial.k l.initial.i;
}

abbrev pub decreases-loop-k : goal.decreases-loop-k
decreases-loop-k l = l.n - l.k
