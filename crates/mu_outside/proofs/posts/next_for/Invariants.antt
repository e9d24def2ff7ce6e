use Rattle.std.proofs.Common.{◌≡◌, drop}
use Rattle.mu_outside.specs.RamLink.{waiting}
use Rattle.mu_outside.proofs.posts.next_for.Given as goal

abbrev pub invariant-loop-place : goal.invariant-loop-place
invariant-loop-place l = waiting l.addr (drop l.passed l.sent) ≡ waiting l.addr (drop l.place l.sent)
