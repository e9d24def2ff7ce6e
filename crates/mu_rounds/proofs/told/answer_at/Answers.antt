use Rattle.mu_rounds.specs.Told.{answer_of}
use Rattle.mu_rounds.proofs.Telling.{pending_answers}
use Rattle.mu_rounds.proofs.told.answer_at.Goals as goal

pub returns-then-slot : goal.returns-then-slot
returns-then-slot c =
    λ count more.
    pending_answers c.args.listener.now.sending (answer_of c.args.heard.now count more) c.args.listener.now.place c.in-At.step c.args.slot.now c.on_answer.new.slot c.in-At.is c.if-slot.true
    (c.on_answer.ensures count more)
