use Rattle.std.proofs.Common.{◌≤◌, ◌^◌, arith}
use Rattle.std.proofs.Math.Nat.{pow-le-pow_right}
use Rattle.mu_told.proofs.information.full_chunks.Goals as goal

pub chunk_count-requires-clause-len_most : goal.chunk_count-requires-clause-len_most
chunk_count-requires-clause-len_most c =
    let top : 2 ^ c.args.sending.now.log ≤ 16384 = pow-le-pow_right (omega arith) c.requires.log_most in
    omega (arith, top, c.pow.ensures)
