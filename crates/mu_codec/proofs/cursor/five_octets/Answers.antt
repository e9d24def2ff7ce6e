use Rattle.std.proofs.Common.{arith}
use Rattle.byteorder.specs.Numbers.{little_from-lt}
use Rattle.mu_codec.proofs.cursor.five_octets.Goals as goal

pub returns-clause-fits : goal.returns-clause-fits
returns-clause-fits c = rw c.read_uint.ensures (little_from-lt 0 5 c.args.octets.now (λ i. omega (arith, c.type_inv.octets i)))
