use Rattle.std.proofs.Common.{arith, sym}
use Rattle.mu_note.proofs.Parts.{zero_part, part_zero}
use Rattle.mu_note.proofs.node.new_note_from.Goals as goal

pub returns-then-not-is_zero-clause-foreign : goal.returns-then-not-is_zero-clause-foreign
returns-then-not-is_zero-clause-foreign c note e s = absurd (cc (c.if-not-is_zero.true, c.is_zero.ensures.1 (part_zero c.args.octets.now 46 1682 s.zero_at_46)))

pub returns-in-Ok-job_from-clause-read : goal.returns-in-Ok-job_from-clause-read
returns-in-Ok-job_from-clause-read c = (
  c.in-Ok.ensures.read.0,
  record {
    kind_at_0 = c.if-octets-ne-NEW.false;
    active_at_1_44 = c.in-Ok.ensures.read.1;
    job_at_2 = c.in-Ok-job_from.ensures.read.0;
    index_at_45 = sym c.in-Ok-job_from.ensures.read.1;
    zero_at_46 = zero_part c.args.octets.now 46 1682 (omega (arith, c.requires)) (c.is_zero.ensures.0 c.if-not-is_zero.false);
  },
)
