use Rattle.std.proofs.Common.{◌<◌, ◌≡◌, ◌≤◌, ◌-◌, ◌++◌, ℕ, drop, length}
use Rattle.mu_receivers.specs.Chunks.{AreBelow, line, items_of}
use Rattle.mu_receivers.proofs.lists.go_along.Given as goal

abbrev pub invariant-loop-i : goal.invariant-loop-i
invariant-loop-i l = record {
  few : length l.spots.items ≤ 16;
  below : (m : ℕ) → l.k < m → AreBelow m l.initial.spots.items → AreBelow m l.spots.items;
  within : l.i ≤ length l.slots;
  line : items_of l.b l.spots.items ++ line l.group l.b l.k (drop l.i l.slots) ≡ items_of l.b l.initial.spots.items ++ line l.group l.b l.k (drop l.initial.i l.slots);
}

abbrev pub decreases-loop-i : goal.decreases-loop-i
decreases-loop-i l = length l.slots - l.i
