use Rattle.std.proofs.Common.{arith, ◌∙◌, sym, ap}
use Rattle.mu_record.proofs.PartLemmas.{range-part}
use Rattle.mu_model_image.specs.Meta.{meta_from}
use Rattle.mu_record.proofs.EntryLemmas.{zero_part, part_zero, sealed_zero, zero_sealed}
use Rattle.mu_record.proofs.entry.sealed_from.Goals as goal

pub returns-then-not-is_zero : goal.returns-then-not-is_zero
returns-then-not-is_zero c meta e =
    absurd (cc (c.if-not-is_zero.true, c.is_zero.ensures.1 (part_zero c.args.octets.now 1 7 (zero_sealed meta c.args.octets.now (omega (arith, c.requires)) e))))

pub returns-in-Some : goal.returns-in-Some
returns-in-Some c =
    let zero = sealed_zero c.args.octets.now (omega (arith, c.requires)) (zero_part c.args.octets.now 1 7 (omega (arith, c.requires)) (c.is_zero.ensures.0 c.if-not-is_zero.false)) in
    record {
      state = c.if-octets-ne-SEALED.false;
      no_log_at_1 = zero.0;
      zero_at_2 = zero.1;
      no_size_at_4 = zero.2;
      metadata_at_8 = ap meta_from (sym (range-part c.args.octets.now 8 40)) ∙ sym c.in-Some.ensures;
    }

pub returns-in-None : goal.returns-in-None
returns-in-None c meta e = absurd (cc (e.metadata_at_8, ap meta_from (range-part c.args.octets.now 8 40), c.in-None.ensures))
