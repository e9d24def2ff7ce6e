use Rattle.std.proofs.Common.{◌≡◌, replicate, None}
use Rattle.mu_reference.proofs.slots.Slots.empty.Given as goal

abbrev pub invariant-loop : goal.invariant-loop
invariant-loop l = l.places.items ≡ replicate l.counter None
