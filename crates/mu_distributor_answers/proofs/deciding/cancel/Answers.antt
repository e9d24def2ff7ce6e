use Rattle.std.proofs.Common.{refl, sym, subst}
use Rattle.mu_model_distributor.specs.Requests.{DistributionCancel}
use Rattle.mu_model_distributor.specs.Distribution.{distribution_cancel}
use Rattle.mu_distributor_answers.specs.Decides.{Decides}
use Rattle.mu_distributor_answers.proofs.Decided.{distribution_decides}
use Rattle.mu_distributor_answers.proofs.deciding.cancel.Goals as goal

pub returns : goal.returns
returns c rows =
    subst (Decides c.args.look rows rows (DistributionCancel)) (sym c.distributes.ensures)
    (distribution_decides c.args.look rows (DistributionCancel) (λ address s. distribution_cancel s s.durable.phase) c.distribution_cancel.result
    (λ address s to. refl) refl c.distribution_cancel.ensures.known c.distribution_cancel.ensures.step c.distribution_cancel.ensures.due)
