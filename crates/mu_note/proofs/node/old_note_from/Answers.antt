use Rattle.std.proofs.Common.{refl, arith}
use Rattle.mu_note.proofs.Parts.{zero_part, part_zero}
use Rattle.mu_note.proofs.node.old_note_from.Goals as goal

pub returns-then-not-is_zero-clause-foreign : goal.returns-then-not-is_zero-clause-foreign
returns-then-not-is_zero-clause-foreign c note e s = absurd (cc (c.if-not-is_zero.true, c.is_zero.ensures.1 (part_zero c.args.octets.now 44 1684 s.zero_at_44)))

pub returns-in-Ok-clause-read : goal.returns-in-Ok-clause-read
returns-in-Ok-clause-read c = (
  c.if-banks-ne2.false,
  record {
    kind_at_0 = c.if-octets-ne-OLD.false;
    active_at_1 = refl;
    job_at_2 = c.in-Ok.ensures.read.0;
    index_0 = c.in-Ok.ensures.read.1;
    zero_at_44 = zero_part c.args.octets.now 44 1684 (omega (arith, c.requires)) (c.is_zero.ensures.0 c.if-not-is_zero.false);
  },
)
