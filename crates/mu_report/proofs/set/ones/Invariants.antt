use Rattle.std.proofs.Common.{◌≡◌, ◌*◌}
use Rattle.mu_report.specs.Words.{word_bit, count_below}
use Rattle.mu_report.proofs.set.ones.Given as goal

abbrev pub invariant-loop-word : goal.invariant-loop-word
invariant-loop-word l = l.count ≡ count_below (word_bit l.words) (64 * l.word-index)
