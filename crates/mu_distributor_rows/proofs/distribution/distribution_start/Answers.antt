use Rattle.std.proofs.Common.{◌∙◌, ap, sym, subst}
use Rattle.mu_distributor_rows.specs.declared.distribution.DistributionStep.{DistributionStep}
use Rattle.mu_distributor_rows.specs.Due.{IsDueIn, changes}
use Rattle.mu_distributor_rows.specs.Rows.{distribution_stepped}
use Rattle.mu_distributor_rows.proofs.DistributionRows.{start_is, start_due}
use Rattle.mu_distributor_rows.proofs.distribution.distribution_start.Goals as goal

pub returns-clause-step : goal.returns-clause-step
returns-clause-step c address s looks = start_is c.args.look address s c.args.asked looks ∙ ap (distribution_stepped address s) (sym c.start.ensures.step)

pub returns-clause-due : goal.returns-clause-due
returns-clause-due c address s looks =
    subst (λ (step : DistributionStep). IsDueIn (changes step) s (distribution_stepped address s step)) (sym c.start.ensures.step) (start_due c.args.look address s c.args.asked looks)
