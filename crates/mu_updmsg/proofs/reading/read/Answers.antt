use Rattle.std.proofs.Common.{arith}
use Rattle.mu_updmsg.proofs.Fit.{is_fit}
use Rattle.mu_updmsg.proofs.reading.read.Goals as goal

pub returns-clause-fits : goal.returns-clause-fits
returns-clause-fits c = is_fit c.reads_what_is_spelled.ensures c.args.bytes.now c.decoded.result (λ i. omega (arith, c.type_inv.bytes i)) c.decoded.ensures
