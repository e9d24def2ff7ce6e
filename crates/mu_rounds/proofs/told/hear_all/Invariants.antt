use Rattle.std.proofs.Common.{◌≡◌, ◌≤◌, ◌<◌, ℕ, List, length}
use Rattle.std.specs.Prelude.{slice_index_or, ◌==◌}
use Rattle.mu_receivers.specs.declared.slot.Slot.{Slot}
use Rattle.mu_told.specs.Told.{IsTold}
use Rattle.mu_rounds.specs.Told.{answer_of, told_at}
use Rattle.mu_rounds.proofs.told.hear_all.Given as goal

abbrev pub invariant-loop-i : goal.invariant-loop-i
invariant-loop-i l = record {
  long : length l.slots ≡ length l.fn.slots;
  done : (count : ℕ) (more : List (List ℕ)) (k : ℕ) (d : Slot) → k < l.i
      → IsTold (λ r. told_at l.listener.sending l.listener.purpose l.listener.place (answer_of l.heard count more) r (r.row.address == l.from)) (slice_index_or l.fn.slots k d) (slice_index_or l.slots k d);
  rest : (k : ℕ) (d : Slot) → l.i ≤ k → slice_index_or l.slots k d ≡ slice_index_or l.fn.slots k d;
}
