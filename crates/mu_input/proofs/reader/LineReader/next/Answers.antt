use Rattle.std.proofs.Common.{refl, arith}
use Rattle.mu_input.proofs.Parts.{told_self}
use Rattle.mu_input.proofs.reader.LineReader.next.Goals as goal

pub loop-octet-init : goal.loop-octet-init
loop-octet-init g c =
    let e = c.clear.ensures.cleared in
    let within = rw e at c.clear.ensures.within in
    record {
      took = told_self _ _ (λ v. rw e (record { taken = refl; given = omega arith; within = omega (arith, within) }));
      part = rw e tt;
      short = rw e (omega arith);
      later = omega arith;
    }
