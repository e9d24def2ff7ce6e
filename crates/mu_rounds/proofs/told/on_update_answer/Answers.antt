use Rattle.std.proofs.Common.{sym, subst}
use Rattle.mu_model_client.specs.Answers.{FromUpdate}
use Rattle.mu_model_client.specs.Client.{Step}
use Rattle.mu_model_client.specs.Told.{step_told}
use Rattle.mu_told.specs.Told.{IsTold}
use Rattle.mu_rounds.specs.Told.{update_reply_of}
use Rattle.mu_rounds.proofs.told.on_update_answer.Goals as goal

pub returns-in-Check : goal.returns-in-Check
returns-in-Check c =
    λ count more.
    subst (λ (s : Step). IsTold (λ r. step_told c.args.sending.now (FromUpdate (update_reply_of c.args.answer.now count more)) r s) c.args.slot.now c.on_check_answer.new.slot) (sym c.in-Check.is)
    (c.on_check_answer.ensures count more)

pub returns-in-Start : goal.returns-in-Start
returns-in-Start c =
    λ count more.
    subst (λ (s : Step). IsTold (λ r. step_told c.args.sending.now (FromUpdate (update_reply_of c.args.answer.now count more)) r s) c.args.slot.now c.on_start_answer.new.slot) (sym c.in-Start.is)
    (c.on_start_answer.ensures count more)

pub returns-in-Verify : goal.returns-in-Verify
returns-in-Verify c =
    λ count more.
    subst (λ (s : Step). IsTold (λ r. step_told c.args.sending.now (FromUpdate (update_reply_of c.args.answer.now count more)) r s) c.args.slot.now c.on_verify_answer.new.slot) (sym c.in-Verify.is)
    (c.on_verify_answer.ensures count more)

pub returns-in-Apply : goal.returns-in-Apply
returns-in-Apply c =
    λ count more.
    subst (λ (s : Step). IsTold (λ r. step_told c.args.sending.now (FromUpdate (update_reply_of c.args.answer.now count more)) r s) c.args.slot.now c.on_apply_answer.new.slot) (sym c.in-Apply.is)
    (c.on_apply_answer.ensures count more)

pub returns-in-Cancel : goal.returns-in-Cancel
returns-in-Cancel c =
    λ count more.
    subst (λ (s : Step). IsTold (λ r. step_told c.args.sending.now (FromUpdate (update_reply_of c.args.answer.now count more)) r s) c.args.slot.now c.on_cancel_answer.new.slot) (sym c.in-Cancel.is)
    (c.on_cancel_answer.ensures count more)
