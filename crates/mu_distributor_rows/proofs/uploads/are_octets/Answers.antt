use Rattle.std.proofs.Common.{arith}
use Rattle.mu_distributor_rows.proofs.uploads.are_octets.Goals as goal

pub returns : goal.returns
returns c i = omega (arith, c.type_inv.octets i)
