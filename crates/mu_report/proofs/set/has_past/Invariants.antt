use Rattle.std.proofs.Common.{◌≡◌, ◌*◌, ◌<◌, ◌≤◌, ℕ, false}
use Rattle.mu_report.specs.Words.{word_bit}
use Rattle.mu_report.proofs.set.has_past.Given as goal

abbrev pub invariant-loop-index : goal.invariant-loop-index
invariant-loop-index l = (i : ℕ) → l.n ≤ i → i < 64 * l.index → word_bit l.words i ≡ false
