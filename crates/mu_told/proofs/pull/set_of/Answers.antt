use Rattle.std.proofs.Common.{ap, refl, ◌∙◌, arith, Bool, length, take}
use Rattle.mu_told.proofs.Wanted.{set_none, set_next, below_next, length_is}
use Rattle.mu_told.proofs.pull.set_of.Goals as goal

pub loop-number-init : goal.loop-number-init
loop-number-init c = record { set = cc (set_none c.args.n); below = refl }

pub insert-requires : goal.insert-requires
insert-requires c =
    omega (arith, c.if-number-n.false, ap (length {A = Bool}) c.loop-number.invariant.set, length_is c.args.n (take c.loop-number.number-index c.args.numbers.now))

pub loop-number-preserved : goal.loop-number-preserved
loop-number-preserved c = record {
  set = set_next c.args.n c.args.numbers.now c.loop-number.number-index c.insert.new.self c.loop-number.set c.loop-number-test.true c.if-number-n.false c.insert.ensures c.loop-number.invariant.set;
  below = below_next c.args.n c.args.numbers.now c.loop-number.number-index c.loop-number-test.true c.if-number-n.false c.loop-number.invariant.below;
}

pub returns-clause-bound : goal.returns-clause-bound
returns-clause-bound c = ap (length {A = Bool}) c.loop-number.invariant.set ∙ length_is c.args.n (take c.loop-number.number-index c.args.numbers.now)
