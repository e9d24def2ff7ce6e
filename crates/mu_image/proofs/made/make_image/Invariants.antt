use Rattle.std.proofs.Common.{◌≡◌}
use Rattle.mu_model_image.specs.Made.{made_image}
use Rattle.mu_image.proofs.made.make_image.Given as goal

abbrev pub invariant-loop-i : goal.invariant-loop-i
invariant-loop-i l = l.image.items ≡ made_image l.seed l.i
