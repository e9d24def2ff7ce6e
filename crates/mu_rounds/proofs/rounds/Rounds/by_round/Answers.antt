use Rattle.std.proofs.Common.{refl}
use Rattle.mu_rounds.proofs.Lists.{few_held}
use Rattle.mu_rounds.proofs.Stepping.{counted_there, round_over, round_goes_on}
use Rattle.mu_rounds.proofs.rounds.Rounds.by_round.Goals as goal

pub count-requires : goal.count-requires
count-requires c = few_held c.args.self.now.slots.items c.deref_mut.result.now c.deref_mut.ensures.value c.requires.shape.few

pub round_ends-requires-clause-shape : goal.round_ends-requires-clause-shape
round_ends-requires-clause-shape c =
    (counted_there c.args.self.now c.deref_mut.result.now c.count.new.slots c.args.step c.requires.shape c.requires.at c.requires.sent c.deref_mut.ensures.value c.count.ensures.each c.count.ensures.few).shape

pub returns-then-is_over-clause-goes : goal.returns-then-is_over-clause-goes
returns-then-is_over-clause-goes c =
    round_over c.args.self.now _ _ c.args.step _ c.is_over.ensures c.if-is_over.true
    (counted_there c.args.self.now c.deref_mut.result.now c.count.new.slots c.args.step c.requires.shape c.requires.at c.requires.sent c.deref_mut.ensures.value c.count.ensures.each c.count.ensures.few)
    refl refl c.round_ends.ensures.goes

pub returns-else-is_over-clause-goes : goal.returns-else-is_over-clause-goes
returns-else-is_over-clause-goes c = round_goes_on c.args.self.now c.args.step _ c.requires.shape c.is_over.ensures c.if-is_over.false c.requires.nothing
