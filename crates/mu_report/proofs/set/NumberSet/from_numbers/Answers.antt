use Rattle.mu_report.proofs.Listing.{gather}
use Rattle.mu_report.proofs.set.NumberSet.from_numbers.Goals as goal

pub loop-number-preserved : goal.loop-number-preserved
loop-number-preserved c =
    gather c.args.numbers.now c.loop-number.set c.insert.new.self c.args.n c.loop-number.number-index c.loop-number-test.true c.if-number-n.false c.insert.ensures c.loop-number.invariant
