use Rattle.std.proofs.Common.{◌≡◌, ◌≤◌, take, length, ℕ, List}
use Rattle.mu_model_wire.specs.Patterns.{list_spelling}
use Rattle.mu_report.proofs.list.encode_list.Given as goal

pub record Encoded (numbers octets : List ℕ) (index : ℕ) : Type 0 where
  pub spelled : octets ≡ list_spelling (take index numbers)
  pub room : length octets ≤ 379

abbrev pub invariant-loop-number : goal.invariant-loop-number
invariant-loop-number l = Encoded l.numbers l.octets.items l.number-index
