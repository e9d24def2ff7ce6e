use Rattle.std.proofs.Common.{◌≡◌, ◌≤◌, ◌<◌, ℕ, take, []}
use Rattle.mu_receivers.specs.Chunks.{asking}
use Rattle.mu_receivers.proofs.lists.next_asked.Given as goal

abbrev pub invariant-loop-slot : goal.invariant-loop-slot
invariant-loop-slot l = record {
  least : l.k ≤ l.least;
  most : l.least ≤ l.n;
  none : (m : ℕ) → l.k ≤ m → m < l.least → asking (take l.slot-index l.slots) m ≡ [];
}
