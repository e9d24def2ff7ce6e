use Rattle.std.proofs.Common.{◌∙◌, ap, sym, subst}
use Rattle.mu_distributor_rows.specs.declared.distribution.DistributionStep.{DistributionStep}
use Rattle.mu_distributor_rows.specs.Due.{IsDueIn, changes}
use Rattle.mu_distributor_rows.specs.Rows.{distribution_stepped}
use Rattle.mu_distributor_rows.proofs.DistributionRows.{suspend_is, suspend_due}
use Rattle.mu_distributor_rows.proofs.distribution.distribution_suspend.Goals as goal

pub returns-clause-step : goal.returns-clause-step
returns-clause-step c address s looks = suspend_is c.args.look address s looks ∙ ap (distribution_stepped address s) (sym c.suspend.ensures.step)

pub returns-clause-due : goal.returns-clause-due
returns-clause-due c address s looks =
    subst (λ (step : DistributionStep). IsDueIn (changes step) s (distribution_stepped address s step)) (sym c.suspend.ensures.step) (suspend_due c.args.look address s looks)
