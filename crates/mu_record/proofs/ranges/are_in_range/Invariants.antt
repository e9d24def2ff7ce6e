use Rattle.std.proofs.Common.{ℕ, ◌<◌}
use Rattle.mu_record.specs.Ranges.{IsInPlace}
use Rattle.mu_record.proofs.ranges.are_in_range.Given as goal

abbrev pub invariant-loop-b : goal.invariant-loop-b
invariant-loop-b l = (k : ℕ) → k < l.b → IsInPlace l.fields k
