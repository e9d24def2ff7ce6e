use Rattle.std.proofs.Common.{◌≡◌}
use Rattle.mu_reference.proofs.Places.{noted}
use Rattle.mu_reference.proofs.slots.Slots.missing.Given as goal

abbrev pub invariant-loop-index : goal.invariant-loop-index
invariant-loop-index l = l.set ≡ noted l.self l.index
