use Rattle.std.proofs.Common.{sym, ap, ◌∙◌, Bool, List}
use Rattle.std.proofs.lemmas.Bool.{le-ltb}
use Rattle.mu_model_wire.specs.Reports.{has}
use Rattle.mu_report.proofs.Bits.{has-set, tested}
use Rattle.mu_report.proofs.set.NumberSet.contains.Goals as goal

pub returns-then-k-self : goal.returns-then-k-self
returns-then-k-self c =
    sym (tested c.self.inside.words c.args.k) ∙ sym (has-set c.self.inside.words c.self.inside.bound c.args.k c.self.invariant) ∙ ap (λ (set : List Bool). has set c.args.k) c.self.view_is

pub returns-else-k-self : goal.returns-else-k-self
returns-else-k-self c =
    le-ltb c.args.k c.self.inside.bound c.if-k-self.false ∙ sym (c.self.invariant.past c.args.k c.if-k-self.false)
    ∙ sym (has-set c.self.inside.words c.self.inside.bound c.args.k c.self.invariant) ∙ ap (λ (set : List Bool). has set c.args.k) c.self.view_is
