use Rattle.std.proofs.Common.{refl, sym, subst}
use Rattle.mu_model_distributor.specs.Requests.{ReceiversAdd}
use Rattle.mu_model_distributor.specs.Receivers.{receivers_add}
use Rattle.mu_distributor_rows.specs.Receivers.{entries_of}
use Rattle.mu_distributor_answers.specs.Decides.{Decides}
use Rattle.mu_distributor_answers.proofs.Decided.{receivers_decide}
use Rattle.mu_distributor_answers.proofs.deciding.add.Goals as goal

pub returns : goal.returns
returns c =
    subst (Decides c.args.look c.args.rows.now.items c.receivers_add.new.rows.items (ReceiversAdd (entries_of c.args.entries.now))) (sym c.changes_by.ensures)
    (receivers_decide c.args.look c.args.rows.now.items c.receivers_add.new.rows.items (ReceiversAdd (entries_of c.args.entries.now)) (λ s. receivers_add s (entries_of c.args.entries.now)) c.receivers_add.result
    (λ address s to. refl) refl c.receivers_add.ensures.known c.receivers_add.ensures.step c.receivers_add.ensures.due c.receivers_add.ensures.refused c.receivers_add.ensures.shown)
