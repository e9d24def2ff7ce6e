use Rattle.mu_report.proofs.Masks.{every_bit, no_bits, some_bits}
use Rattle.mu_report.proofs.set.bits_below.Goals as goal

pub returns-then-k-begin : goal.returns-then-k-begin
returns-then-k-begin c = every_bit c.args.k c.args.index c.if-k-begin.true

pub returns-then-k-begin-2 : goal.returns-then-k-begin-2
returns-then-k-begin-2 c = no_bits c.args.k c.args.index c.if-k-begin-2.true

pub returns-else-k-begin-2 : goal.returns-else-k-begin-2
returns-else-k-begin-2 c = some_bits c.args.k c.args.index c.if-k-begin-2.false c.if-k-begin.false
