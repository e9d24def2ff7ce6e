use Rattle.mu_report.proofs.Bits.{empty, empty_words}
use Rattle.mu_report.proofs.set.NumberSet.new.Goals as goal

pub returns : goal.returns
returns c = empty c.args.n

pub invariant_of-result : goal.invariant_of-result
invariant_of-result c = empty_words c.args.n c.requires
