use Rattle.std.proofs.Common.{◌+◌, ◌*◌, ◌∙◌, ℕ, get_or, sym, ap, arith}
use lib.Count.{ones}
use Rattle.mu_report.specs.Words.{word_bit}
use Rattle.mu_report.proofs.Counts.{count-zero, word_more, count_le}
use Rattle.mu_report.proofs.set.ones.Goals as goal

pub loop-word-init : goal.loop-word-init
loop-word-init c = sym (count-zero (word_bit c.args.words.now))

pub overflow_add-count : goal.overflow_add-count
overflow_add-count c =
    let more = word_more c.args.words.now c.loop-word.word-index ((c.type_inv.words c.loop-word.word-index).fits) in
    let small = count_le (word_bit c.args.words.now) (64 * (c.loop-word.word-index + 1)) in
    omega (arith, more, small, c.loop-word.invariant)

pub loop-word-preserved : goal.loop-word-preserved
loop-word-preserved c =
    let more = word_more c.args.words.now c.loop-word.word-index ((c.type_inv.words c.loop-word.word-index).fits) in
    ap (λ (n : ℕ). n + ones (get_or c.args.words.now c.loop-word.word-index 0)) c.loop-word.invariant ∙ sym more
