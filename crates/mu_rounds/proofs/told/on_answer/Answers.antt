use Rattle.std.proofs.Common.{sym, subst}
use Rattle.mu_model_client.specs.Told.{step_told}
use Rattle.mu_told.specs.Told.{IsTold}
use Rattle.mu_rounds.specs.Told.{answer_of}
use Rattle.mu_rounds.specs.declared.told.Heard.{Heard}
use Rattle.mu_rounds.proofs.told.on_answer.Goals as goal

pub returns-in-Update : goal.returns-in-Update
returns-in-Update c =
    λ count more.
    subst (λ (h : Heard). IsTold (λ r. step_told c.args.sending.now (answer_of h count more) r c.args.step) c.args.slot.now c.on_update_answer.new.slot) (sym c.in-Update.is)
    (c.on_update_answer.ensures count more)
