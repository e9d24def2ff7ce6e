use Rattle.std.proofs.Common.{◌≡◌, ◌-◌, ◌+◌, ◌≤◌, length, true, if◌then◌else◌}
use Rattle.mu_model_flash.specs.Cause.{Rose}
use Rattle.mu_outside.specs.Stream.{WriteTakes}
use Rattle.mu_outside.proofs.gathered.hand_on.Given as goal

abbrev pub invariant-loop-done : goal.invariant-loop-done
invariant-loop-done g l = record {
  within : l.done ≤ length l.held.items;
  takes : WriteTakes (g.K.Sink.written l.fn.below) (g.K.Sink.written l.below) l.held.items l.done;
  later : g.K.Sink.faults l.fn.below ≤ g.K.Sink.faults l.below;
  rose : l.failed ≡ true → Rose (g.K.Sink.faults l.fn.below) (g.K.Sink.faults l.below);
}

abbrev pub decreases-loop-done : goal.decreases-loop-done
decreases-loop-done g l = (length l.held.items - l.done) + (if l.failed then 0 else 1)
