use Rattle.std.proofs.Common.{refl, sym, subst}
use Rattle.mu_model_distributor.specs.Requests.{DistributionSuspend}
use Rattle.mu_model_distributor.specs.Distribution.{distribution_suspend}
use Rattle.mu_distributor_answers.specs.Decides.{Decides}
use Rattle.mu_distributor_answers.proofs.Decided.{distribution_decides}
use Rattle.mu_distributor_answers.proofs.deciding.suspend.Goals as goal

pub returns : goal.returns
returns c rows =
    subst (Decides c.args.look rows rows (DistributionSuspend)) (sym c.distributes.ensures)
    (distribution_decides c.args.look rows (DistributionSuspend) (λ address s. distribution_suspend s s.durable.phase) c.distribution_suspend.result
    (λ address s to. refl) refl c.distribution_suspend.ensures.known c.distribution_suspend.ensures.step c.distribution_suspend.ensures.due)
