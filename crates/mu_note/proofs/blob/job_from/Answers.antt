use Rattle.std.proofs.Common.{◌∙◌, ℕ, refl, arith, sym, subst}
use Rattle.mu_model_represents.specs.BlobPart.{HasParameters}
use Rattle.mu_note.proofs.Parts.{zero_part, part_zero, number_from}
use Rattle.mu_note.proofs.blob.job_from.Goals as goal

pub returns-then-not-is_zero-clause-foreign : goal.returns-then-not-is_zero-clause-foreign
returns-then-not-is_zero-clause-foreign c j e = absurd (cc (c.if-not-is_zero.true, c.is_zero.ensures.1 (part_zero c.args.octets.now 20 44 e.zero_at_20)))

pub returns-in-Ok-clause-read : goal.returns-in-Ok-clause-read
returns-in-Ok-clause-read c = record {
  there_at_0 = c.if-octets-ne1.false;
  parameters = c.in-Ok.ensures.read;
  id_at_4 = sym (c.read_u64.ensures ∙ number_from c.args.octets.now 4 8);
  size_at_12 = sym (c.read_u32-size.ensures ∙ number_from c.args.octets.now 12 4);
  base_at_16 = sym (c.read_u16.ensures ∙ number_from c.args.octets.now 16 2);
  bank_at_18 = refl;
  zero_at_20 = zero_part c.args.octets.now 20 44 (omega (arith, c.requires)) (c.is_zero.ensures.0 c.if-not-is_zero.false);
}

pub returns-in-Err-clause-foreign : goal.returns-in-Err-clause-foreign
returns-in-Err-clause-foreign c j e =
    c.in-Err.ensures.foreign j.parameters
    (subst (λ (n : ℕ). HasParameters n j.parameters c.args.octets.now) (sym e.size_at_12 ∙ sym (c.read_u32-size.ensures ∙ number_from c.args.octets.now 12 4)) e.parameters)
