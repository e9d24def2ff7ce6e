use Rattle.std.proofs.Common.{[]}
use Rattle.mu_rounds.specs.Told.{answer_of}
use Rattle.mu_rounds.proofs.Telling.{can_all, listens_so, heard_whole, heard_shape}
use Rattle.mu_rounds.proofs.rounds.Rounds.on_heard.Goals as goal

pub hear_all-requires-clause-listens : goal.hear_all-requires-clause-listens
hear_all-requires-clause-listens c = listens_so c.args.self.now c.listener-listener.result c.requires.shape c.listener-listener.ensures

pub hear_all-requires-clause-can : goal.hear_all-requires-clause-can
hear_all-requires-clause-can c = can_all c.args.self.now c.listener-listener.result c.deref_mut.result.now c.requires.shape c.listener-listener.ensures c.deref_mut.ensures.value

pub returns-clause-next : goal.returns-clause-next
returns-clause-next c =
    λ count more.
    heard_whole c.args.self.now c.listener-listener.result c.deref_mut.result.now c.hear_all.new.slots c.max-self.result c.args.now c.args.from (answer_of c.args.heard.now count more)
    c.listener-listener.ensures c.deref_mut.ensures.value (c.hear_all.ensures count more) c.max-self.ensures

pub returns-clause-shape : goal.returns-clause-shape
returns-clause-shape c =
    heard_shape c.args.self.now c.listener-listener.result c.deref_mut.result.now c.hear_all.new.slots c.max-self.result c.args.now c.args.from (answer_of c.args.heard.now 0 [])
    c.requires.shape c.listener-listener.ensures c.deref_mut.ensures.value (c.hear_all.ensures 0 []) c.max-self.ensures
