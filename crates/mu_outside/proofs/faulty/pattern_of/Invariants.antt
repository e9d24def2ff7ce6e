use Rattle.std.proofs.Common.{◌≡◌, drop}
use Rattle.mu_outside.specs.Memory.{pattern_named}
use Rattle.mu_outside.proofs.faulty.pattern_of.Given as goal

abbrev pub invariant-loop-named : goal.invariant-loop-named
invariant-loop-named l = pattern_named (drop l.named-index l.writes) l.number ≡ pattern_named l.writes l.number
