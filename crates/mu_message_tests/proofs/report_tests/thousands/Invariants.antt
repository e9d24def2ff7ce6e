use Rattle.std.proofs.Common.{◌≡◌, length}
use Rattle.mu_message_tests.proofs.report_tests.thousands.Given as goal

abbrev pub invariant-loop-number : goal.invariant-loop-number
invariant-loop-number l = length l.set ≡ l.n
