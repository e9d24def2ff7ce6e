use Rattle.std.proofs.Common.{refl, arith, sym, ap, ◌∙◌}
use Rattle.mu_model_image.specs.Meta.{meta_from}
use Rattle.mu_note.proofs.Parts.{zero_part, part_zero, range-part}
use Rattle.mu_note.proofs.Notes.{no_job, no_meta}
use Rattle.mu_note.proofs.node.job_from.Goals.{else-index-eq0-via-then-index-eq0+else-is_zero, else-index-eq0-via-else-index-eq0}
use Rattle.mu_note.proofs.node.job_from.Goals as goal

pub returns-then-is_zero-clause-read : goal.returns-then-is_zero-clause-read
returns-then-is_zero-clause-read c = (
  record {
    no_phase_at_2 = c.if-octets-eq0.true;
    no_metadata_at_4 = zero_part c.args.octets.now 4 40 (omega (arith, c.requires)) (c.is_zero.ensures.0 c.if-is_zero.true);
  },
  sym c.if-index-eq0.true,
)

pub returns-else-index-eq0-clause-foreign : goal.returns-else-index-eq0-clause-foreign
returns-else-index-eq0-clause-foreign c job e h =
    let none = no_job c.args.octets.now c.args.index job c.if-octets-eq0.true e h in
    elim c.else-index-eq0.branch [
      | else-index-eq0-via-then-index-eq0+else-is_zero w ↦ absurd (cc (w.if-is_zero.false, w.is_zero.ensures.1 (part_zero c.args.octets.now 4 40 none.1)))
      | else-index-eq0-via-else-index-eq0 w ↦ absurd (omega (arith, none.0, w.if-index-eq0.false))
    ]

pub returns-in-Some-meta_from-clause-read : goal.returns-in-Some-meta_from-clause-read
returns-in-Some-meta_from-clause-read c = (
  record {
    phase_at_2 = c.in-Some.ensures.some;
    ttl_at_3 = refl;
    metadata_at_4 = ap meta_from (sym (range-part c.args.octets.now 4 40)) ∙ sym c.in-Some-meta_from.ensures;
  },
  refl,
)

pub returns-in-None-clause-foreign : goal.returns-in-None-clause-foreign
returns-in-None-clause-foreign c job e h =
    no_meta c.args.octets.now job (λ z. omega (arith, z, c.if-octets-eq0.false)) (c.in-None.ensures ∙ ap meta_from (range-part c.args.octets.now 4 40)) h
