use Rattle.std.proofs.Common.{arith, ◌≡◌, length, rules}
use Rattle.mu_record.proofs.EntryLemmas.{zero_part, part_zero}
use Rattle.mu_record.proofs.octets.is_framed.Goals as goal

pub returns-then-not-is_zero : goal.returns-then-not-is_zero
returns-then-not-is_zero c = (λ never. absurd (cc never), λ all. absurd (cc (c.if-not-is_zero.true, c.is_zero.ensures.1 (part_zero c.args.octets.now 12 4 all.2))))

pub returns : goal.returns
returns c =
    let size : length c.args.octets.now ≡ 2048 = search rules in (
      λ is. (c.has_name.ensures.0 c.if-not-has_name.false, c.if-octets-format.false, zero_part c.args.octets.now 12 4 (omega (arith, size)) (c.is_zero.ensures.0 c.if-not-is_zero.false), zero_part c.args.octets.now 208 48 (omega (arith, size)) (c.is_zero-2.ensures.0 is)),
      λ all. c.is_zero-2.ensures.1 (part_zero c.args.octets.now 208 48 all.3),
    )
