use Rattle.std.proofs.Common.{refl, sym, subst}
use Rattle.mu_model_distributor.specs.Requests.{DistributionStart}
use Rattle.mu_model_distributor.specs.Distribution.{distribution_start}
use Rattle.mu_distributor_answers.specs.Decides.{Decides}
use Rattle.mu_distributor_answers.proofs.Decided.{distribution_decides}
use Rattle.mu_distributor_answers.proofs.deciding.start.Goals as goal

pub returns : goal.returns
returns c rows =
    subst (Decides c.args.look rows rows (DistributionStart c.args.settings)) (sym c.distributes.ensures)
    (distribution_decides c.args.look rows (DistributionStart c.args.settings) (λ address s. distribution_start address s c.args.settings s.durable.phase) c.distribution_start.result
    (λ address s to. refl) refl c.distribution_start.ensures.known c.distribution_start.ensures.step c.distribution_start.ensures.due)
