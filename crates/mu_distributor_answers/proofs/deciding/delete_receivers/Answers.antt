use Rattle.std.proofs.Common.{refl, sym, subst}
use Rattle.mu_model_distributor.specs.Requests.{ReceiversDeleteAll}
use Rattle.mu_model_distributor.specs.Receivers.{receivers_delete_all}
use Rattle.mu_distributor_answers.specs.Decides.{Decides}
use Rattle.mu_distributor_answers.proofs.Decided.{receivers_decide}
use Rattle.mu_distributor_answers.proofs.deciding.delete_receivers.Goals as goal

pub returns : goal.returns
returns c =
    subst (Decides c.args.look c.args.rows.now.items c.receivers_delete_all.new.rows.items (ReceiversDeleteAll)) (sym c.changes_by.ensures)
    (receivers_decide c.args.look c.args.rows.now.items c.receivers_delete_all.new.rows.items (ReceiversDeleteAll) receivers_delete_all c.receivers_delete_all.result
    (λ address s to. refl) refl c.receivers_delete_all.ensures.known c.receivers_delete_all.ensures.step c.receivers_delete_all.ensures.due c.receivers_delete_all.ensures.refused (λ fits shown. c.receivers_delete_all.ensures.shown shown))
