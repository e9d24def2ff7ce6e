use Rattle.std.proofs.Common.{◌≡◌, take}
use Rattle.mu_model_node.specs.Slots.{joined}
use Rattle.mu_reference.proofs.slots.Slots.joined.Given as goal

abbrev pub invariant-loop-place : goal.invariant-loop-place
invariant-loop-place l = l.all.items ≡ joined (take l.place-index l.self)
