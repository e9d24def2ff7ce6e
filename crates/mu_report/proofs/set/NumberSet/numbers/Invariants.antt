use Rattle.std.proofs.Common.{◌≡◌, ◌≤◌, ◌-◌, length, ℕ, List, Bool}
use Rattle.std.specs.List.{filter, range_with_len}
use Rattle.mu_model_wire.specs.Reports.{has}
use Rattle.mu_report.proofs.set.NumberSet.numbers.Given as goal

pub record Listed (set : List Bool) (numbers : List ℕ) (at : ℕ) : Type 0 where
  pub within : at ≤ length set
  pub before : numbers ≡ filter (has set) (range_with_len 0 at)

abbrev pub invariant-loop-number : goal.invariant-loop-number
invariant-loop-number l = Listed l.self l.numbers.items l.at

abbrev pub decreases-loop-number : goal.decreases-loop-number
decreases-loop-number l = length l.self - l.at
