use Rattle.mu_rounds.proofs.Beginning.{canceled_whole, canceled_shape}
use Rattle.mu_rounds.proofs.rounds.Rounds.take_cancel.Goals as goal

pub returns-clause-client : goal.returns-clause-client
returns-clause-client c = canceled_whole c.args.self.now c.deref_mut.result.now c.cancel.new.slots c.requires c.deref_mut.ensures.value c.cancel.ensures.each

pub returns-clause-shape : goal.returns-clause-shape
returns-clause-shape c = canceled_shape c.args.self.now c.deref_mut.result.now c.cancel.new.slots c.requires c.deref_mut.ensures.value c.cancel.ensures.each
