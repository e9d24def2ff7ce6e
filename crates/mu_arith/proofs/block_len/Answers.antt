use Rattle.std.proofs.Common.{arith}
use Rattle.mu_arith.proofs.Sizes.{shifted, most}
use Rattle.mu_arith.proofs.block_len.Goals as goal

pub returns-clause-most : goal.returns-clause-most
returns-clause-most c = omega (arith, c.min.ensures, shifted c.args.log c.requires.log_most, most c.args.log c.requires.log_most)
