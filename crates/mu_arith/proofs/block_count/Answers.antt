use Rattle.std.proofs.Common.{arith, ◌≤◌}
use Rattle.mu_arith.proofs.Sizes.{counted, few_blocks}
use Rattle.mu_arith.proofs.block_count.Goals as goal

pub returns-clause-count : goal.returns-clause-count
returns-clause-count c = counted c.args.size c.args.log c.div_ceil.result c.requires.log_least c.requires.log_most c.div_ceil.ensures

pub returns-clause-most : goal.returns-clause-most
returns-clause-most c = few_blocks c.args.size c.args.log c.div_ceil.result c.requires.size_most c.requires.log_least c.requires.log_most c.div_ceil.ensures

pub overflow_cast-result : goal.overflow_cast-result
overflow_cast-result c =
    let few : c.div_ceil.result ≤ 256 = few_blocks c.args.size c.args.log c.div_ceil.result c.requires.size_most c.requires.log_least c.requires.log_most c.div_ceil.ensures in
    omega arith
