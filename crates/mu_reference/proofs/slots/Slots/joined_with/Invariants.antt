use Rattle.std.proofs.Common.{◌≡◌, take}
use Rattle.mu_model_node.specs.Slots.{put, joined}
use Rattle.mu_reference.proofs.slots.Slots.joined_with.Given as goal

abbrev pub invariant-loop-index : goal.invariant-loop-index
invariant-loop-index l = l.all.items ≡ joined (take l.index (put l.self l.place l.octets))
