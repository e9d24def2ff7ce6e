use Rattle.std.proofs.Common.{refl, sym, subst}
use Rattle.mu_model_distributor.specs.Requests.{DistributionApply}
use Rattle.mu_model_distributor.specs.Distribution.{distribution_apply}
use Rattle.mu_distributor_answers.specs.Decides.{Decides}
use Rattle.mu_distributor_answers.proofs.Decided.{distribution_decides}
use Rattle.mu_distributor_answers.proofs.deciding.apply.Goals as goal

pub returns : goal.returns
returns c rows =
    subst (Decides c.args.look rows rows (DistributionApply)) (sym c.distributes.ensures)
    (distribution_decides c.args.look rows (DistributionApply) (λ address s. distribution_apply s s.durable.phase) c.distribution_apply.result
    (λ address s to. refl) refl c.distribution_apply.ensures.known c.distribution_apply.ensures.step c.distribution_apply.ensures.due)
