use Rattle.std.proofs.Common.{◌≡◌, ◌*◌, ◌<◌, ◌≤◌, ℕ, false}
use Rattle.mu_report.specs.Words.{word_bit}
use Rattle.mu_report.proofs.set.NumberSet.first_from.Given as goal

abbrev pub invariant-loop-index : goal.invariant-loop-index
invariant-loop-index l = (i : ℕ) → l.k ≤ i → i < 64 * l.index → word_bit l.self-inside.words i ≡ false
