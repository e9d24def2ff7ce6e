use Rattle.std.proofs.Common.{arith}
use Rattle.mu_outside.proofs.TearLemmas.{mixed_even, mixed_odd}
use Rattle.mu_outside.proofs.memory.mixed.Goals.{then-seed-j-eq0, else-seed-j-eq0}
use Rattle.mu_outside.proofs.memory.mixed.Goals as goal

pub returns : goal.returns
returns c = elim c.if-seed-j-eq0.branch [
  | then-seed-j-eq0 w ↦ mixed_even c.args.seed c.args.j c.args.old c.args.new c.if-seed-j-eq0.mask (omega (arith, w.mask-is)) w.mask-is w.if-seed-j-eq0.true
  | else-seed-j-eq0 w ↦ mixed_odd c.args.seed c.args.j c.args.old c.args.new c.if-seed-j-eq0.mask (omega (arith, w.mask-is)) w.mask-is w.if-seed-j-eq0.false
]
