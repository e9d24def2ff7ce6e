use Rattle.std.proofs.Common.{refl}
use Rattle.mu_receivers.specs.Slots.{IsRenewed}
use Rattle.mu_rounds.proofs.Lists.{each_written, few_held, few_written}
use Rattle.mu_rounds.proofs.Stepping.{round_begins}
use Rattle.mu_rounds.proofs.rounds.Rounds.new_round.Goals as goal

pub returns-clause-goes : goal.returns-clause-goes
returns-clause-goes c =
    let olds = c.args.self.now.slots.items in
    let held = c.deref_mut.result.now in
    let same = c.deref_mut.ensures.value in
    round_begins c.args.self.now _ c.args.step c.requires.shape c.requires.at c.requires.sent refl refl
    (each_written (IsRenewed c.args.step) olds held c.renew.new.slots same c.renew.ensures.each)
    (few_written olds held c.renew.new.slots same c.renew.ensures.each.long (c.renew.ensures.few (few_held olds held same c.requires.shape.few)))
    refl refl refl refl
