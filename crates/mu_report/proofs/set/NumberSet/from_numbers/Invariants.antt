use Rattle.std.proofs.Common.{take}
use Rattle.mu_report.proofs.Listing.{Gathered}
use Rattle.mu_report.proofs.set.NumberSet.from_numbers.Given as goal

abbrev pub invariant-loop-number : goal.invariant-loop-number
invariant-loop-number l = Gathered (take l.number-index l.numbers) l.set l.n
