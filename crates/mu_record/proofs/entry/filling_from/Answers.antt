use Rattle.std.proofs.Common.{refl, arith, sym, ◌∙◌}
use Rattle.mu_record.proofs.EntryLemmas.{zero_part, part_zero, number_from}
use Rattle.mu_record.proofs.entry.filling_from.Goals as goal

pub returns-then-not-is_zero : goal.returns-then-not-is_zero
returns-then-not-is_zero c size log e = absurd (cc (c.if-not-is_zero.true, c.is_zero.ensures.1 (part_zero c.args.octets.now 2 2 e.zero_at_2)))

pub returns-then-not-is_zero-2 : goal.returns-then-not-is_zero-2
returns-then-not-is_zero-2 c size log e = absurd (cc (c.if-not-is_zero-2.true, c.is_zero-2.ensures.1 (part_zero c.args.octets.now 8 40 e.no_metadata_at_8)))

pub returns : goal.returns
returns c = record {
  state = c.if-octets-ne-FILLING.false;
  log_at_1 = refl;
  zero_at_2 = zero_part c.args.octets.now 2 2 (omega (arith, c.requires)) (c.is_zero.ensures.0 c.if-not-is_zero.false);
  size_at_4 = sym (c.read_u32.ensures ∙ number_from c.args.octets.now 4 4);
  no_metadata_at_8 = zero_part c.args.octets.now 8 40 (omega (arith, c.requires)) (c.is_zero-2.ensures.0 c.if-not-is_zero-2.false);
}
