use Rattle.std.proofs.Common.{length, take, ◌-◌, ◌≤◌, ℕ, List}
use Rattle.mu_model_wire.specs.Patterns.{IsList}
use Rattle.mu_report.proofs.list.decode_list.Given as goal

pub record Decoded (octets numbers : List ℕ) (at : ℕ) : Type 0 where
  pub inside : at ≤ length octets
  pub room : length numbers ≤ at
  pub list : IsList (take at octets) numbers

abbrev pub invariant-loop-at : goal.invariant-loop-at
invariant-loop-at l = Decoded l.bytes l.numbers.items l.at

abbrev pub decreases-loop-at : goal.decreases-loop-at
decreases-loop-at l = length l.bytes - l.at
