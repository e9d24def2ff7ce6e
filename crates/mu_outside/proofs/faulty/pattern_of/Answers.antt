use Rattle.std.proofs.Common.{sym, ◌∙◌}
use Rattle.mu_outside.proofs.NamedLemmas.{named_here, named_later}
use Rattle.mu_outside.proofs.faulty.pattern_of.Goals as goal

pub returns-then-from-number : goal.returns-then-from-number
returns-then-from-number c =
    sym (named_here c.args.writes.now c.loop-named.named-index c.args.number _ c.loop-named-test.true (sym c.from.ensures ∙ c.if-from-number.true)) ∙ c.loop-named.invariant

pub loop-named-preserved : goal.loop-named-preserved
loop-named-preserved c =
    sym (named_later c.args.writes.now c.loop-named.named-index c.args.number _ c.loop-named-test.true (λ is. c.if-from-number.false (c.from.ensures ∙ is))) ∙ c.loop-named.invariant
