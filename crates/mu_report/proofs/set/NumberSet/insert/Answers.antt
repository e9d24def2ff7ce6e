use Rattle.std.proofs.Common.{◌<◌, ap, ◌∙◌, true, arith, Bool, List}
use Rattle.std.proofs.Common.{set}
use Rattle.mu_report.proofs.Bits.{bound_is, insert_words, insert_set}
use Rattle.mu_report.proofs.set.NumberSet.insert.Goals as goal

pub bounds-self-inside-k : goal.bounds-self-inside-k
bounds-self-inside-k c = omega (arith, bound_is c.self.inside.words c.self.inside.bound c.args.self.now c.self.view_is)

pub bounds-self-inside-k-2 : goal.bounds-self-inside-k-2
bounds-self-inside-k-2 c = omega (arith, bound_is c.self.inside.words c.self.inside.bound c.args.self.now c.self.view_is)

pub returns : goal.returns
returns c =
    let inside : c.args.k < c.self.inside.bound = omega (arith, bound_is c.self.inside.words c.self.inside.bound c.args.self.now c.self.view_is) in
    insert_set c.self.inside.words c.self.inside.bound c.args.k c.self.invariant inside ∙ ap (λ (xs : List Bool). set xs c.args.k true) c.self.view_is

pub invariant_of-self : goal.invariant_of-self
invariant_of-self c =
    insert_words c.self.inside.words c.self.inside.bound c.args.k c.self.invariant (omega (arith, bound_is c.self.inside.words c.self.inside.bound c.args.self.now c.self.view_is))
