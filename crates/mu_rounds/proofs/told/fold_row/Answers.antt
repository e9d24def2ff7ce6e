use Rattle.std.proofs.Common.{sym, subst}
use Rattle.mu_model_client.specs.Answers.{FromUpdate}
use Rattle.mu_model_client.specs.Rows.{row_after}
use Rattle.mu_told.specs.Told.{IsTold}
use Rattle.mu_rounds.specs.Told.{update_reply_of}
use Rattle.mu_rounds.specs.declared.told.UpdateAnswer.{UpdateAnswer}
use Rattle.mu_rounds.proofs.told.fold_row.Goals as goal

pub returns-in-Information : goal.returns-in-Information
returns-in-Information c =
    λ offered count more own.
    subst (λ (a : UpdateAnswer). IsTold (λ r. record r { row = row_after c.args.sending.now.id offered r.row (FromUpdate (update_reply_of a count more)) }) c.args.slot.now c.fold_information.new.slot)
    (sym c.in-Information.is) (c.fold_information.ensures offered count more own)

pub returns-in-Status : goal.returns-in-Status
returns-in-Status c =
    λ offered count more own.
    subst (λ (a : UpdateAnswer). IsTold (λ r. record r { row = row_after c.args.sending.now.id offered r.row (FromUpdate (update_reply_of a count more)) }) c.args.slot.now c.fold_status.new.slot)
    (sym c.in-Status.is) (c.fold_status.ensures offered)
