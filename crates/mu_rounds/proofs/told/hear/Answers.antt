use Rattle.mu_rounds.specs.Told.{answer_of}
use Rattle.mu_rounds.proofs.Telling.{own_hears}
use Rattle.mu_rounds.proofs.told.hear.Goals as goal

pub returns-then-slot-from : goal.returns-then-slot-from
returns-then-slot-from c =
    λ count more.
    own_hears c.args.listener.now.sending c.args.listener.now.purpose c.args.listener.now.place (answer_of c.args.heard.now count more) c.args.from c.args.slot.now c.hear_own.new.slot c.if-slot-from.true
    (c.hear_own.ensures count more)
