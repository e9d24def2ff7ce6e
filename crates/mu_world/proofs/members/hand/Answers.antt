use Rattle.std.proofs.Common.{nat_eq, ap, sym, ◌∙◌}
use Rattle.std.specs.Map.{set_value}
use Rattle.std.proofs.lemmas.Map.Steps.{set_value_same}
use Rattle.mu_world.proofs.members.hand.Goals as goal

pub returns-in-Err-clause-same : goal.returns-in-Err-clause-same
returns-in-Err-clause-same c =
    let same = c.in-Err.ensures.same in
    (c.get_mut.follows.holds c.happen.new.self).0 ∙ (ap (λ m. set_value (nat_eq c.args.address) c.args.members.now.entries m) same ∙ set_value_same (nat_eq c.args.address) c.args.members.now.entries c.in-Some.member.now (sym c.in-Some.ensures.value))
