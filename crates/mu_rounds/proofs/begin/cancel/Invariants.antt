use Rattle.std.proofs.Common.{◌≡◌, ◌≤◌, ◌<◌, ℕ, length}
use Rattle.std.specs.Prelude.{slice_index_or}
use Rattle.mu_receivers.specs.declared.slot.Slot.{Slot}
use Rattle.mu_rounds.specs.Begin.{IsCanceled}
use Rattle.mu_rounds.proofs.begin.cancel.Given as goal

abbrev pub invariant-loop-i : goal.invariant-loop-i
invariant-loop-i l = record {
  long : length l.slots ≡ length l.fn.slots;
  done : (k : ℕ) (d : Slot) → k < l.i → IsCanceled (slice_index_or l.fn.slots k d) (slice_index_or l.slots k d);
  rest : (k : ℕ) (d : Slot) → l.i ≤ k → slice_index_or l.slots k d ≡ slice_index_or l.fn.slots k d;
}
