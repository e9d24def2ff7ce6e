use Rattle.std.proofs.Common.{◌≡◌, ◌+◌, ◌*◌, ◌∙◌, ℕ, List, Bool, length, take, sym, ap, arith}
use Rattle.mu_model_wire.specs.Patterns.{list_spelling}
use Rattle.mu_model_wire.specs.Reports.{members}
use Rattle.mu_report.specs.Words.{word_bit, count_below}
use Rattle.mu_report.proofs.Listing.{spelled}
use Rattle.mu_report.proofs.set.NumberSet.spelled_length.Goals as goal

sum : (c : goal.After-ones) → length (list_spelling (members c.args.self.now)) + c.ones.result ≡ 2 * c.count.result
sum c =
    ap (λ (n : ℕ). length (list_spelling (members c.args.self.now)) + n) c.ones.ensures
    ∙ ap (λ (set : List Bool). length (list_spelling (members set)) + count_below (word_bit (take 2 c.self.inside.words)) (64 * length (take 2 c.self.inside.words))) (sym c.self.view_is)
    ∙ spelled c.self.inside.words c.self.inside.bound c.self.invariant
    ∙ ap (λ (set : List Bool). 2 * length (members set)) c.self.view_is ∙ ap (λ (n : ℕ). 2 * n) (sym c.count.ensures.count)

pub overflow_sub-result : goal.overflow_sub-result
overflow_sub-result c = omega (arith, sum c)

pub returns : goal.returns
returns c = omega (arith, sum c)
