use Rattle.std.proofs.Common.{sym, ap, ◌∙◌, false, Bool, List, set}
use Rattle.mu_report.proofs.Bits.{remove_words, remove_set, remove_past}
use Rattle.mu_report.proofs.set.NumberSet.remove.Goals as goal

pub invariant_of-self : goal.invariant_of-self
invariant_of-self c = remove_words c.self.inside.words c.self.inside.bound c.args.k c.self.invariant c.if-k-self.true

pub returns-then-k-self : goal.returns-then-k-self
returns-then-k-self c =
    remove_set c.self.inside.words c.self.inside.bound c.args.k c.self.invariant c.if-k-self.true ∙ ap (λ (xs : List Bool). set xs c.args.k false) c.self.view_is

pub returns-else-k-self : goal.returns-else-k-self
returns-else-k-self c =
    sym c.self.view_is ∙ remove_past c.self.inside.words c.self.inside.bound c.args.k c.if-k-self.false ∙ ap (λ (xs : List Bool). set xs c.args.k false) c.self.view_is
