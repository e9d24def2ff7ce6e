use Rattle.std.proofs.Common.{◌≡◌, ◌≤◌, ◌*◌, ◌∙◌, List, Bool, length, ap, arith}
use Rattle.mu_model_wire.specs.Reports.{members}
use Rattle.mu_report.proofs.Bits.{bound_is}
use Rattle.mu_report.proofs.Counts.{set_count, members_le}
use Rattle.mu_report.proofs.set.NumberSet.count.Goals as goal

counted : (c : goal.After-ones) → c.ones.result ≡ length (members c.args.self.now)
counted c =
    let most = c.self.invariant.most in
    let all : c.self.inside.bound ≤ 64 * length c.self.inside.words = omega (arith, c.self.invariant.count) in
    c.ones.ensures ∙ set_count c.self.inside.words c.self.inside.bound (64 * length c.self.inside.words) c.self.invariant all
    ∙ ap (λ (set : List Bool). length (members set)) c.self.view_is

pub returns-clause-count : goal.returns-clause-count
returns-clause-count c = counted c

pub returns-clause-most : goal.returns-clause-most
returns-clause-most c = omega (arith, counted c, members_le c.args.self.now)

pub returns-clause-small : goal.returns-clause-small
returns-clause-small c =
    let most = c.self.invariant.most in
    omega (arith, counted c, members_le c.args.self.now, bound_is c.self.inside.words c.self.inside.bound c.args.self.now c.self.view_is)
