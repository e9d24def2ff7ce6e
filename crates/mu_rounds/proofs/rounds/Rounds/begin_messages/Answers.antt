use Rattle.std.proofs.Common.{refl}
use Rattle.mu_receivers.specs.Slots.{IsBegun}
use Rattle.mu_rounds.proofs.Lists.{each_written, few_held, few_written}
use Rattle.mu_rounds.proofs.Stepping.{messages_begin}
use Rattle.mu_rounds.proofs.rounds.Rounds.begin_messages.Goals as goal

pub returns-clause-goes : goal.returns-clause-goes
returns-clause-goes c =
    let olds = c.args.self.now.slots.items in
    let held = c.deref_mut.result.now in
    let same = c.deref_mut.ensures.value in
    messages_begin c.args.self.now _ c.args.step c.requires.shape c.requires.fits c.requires.messages refl refl
    (each_written (IsBegun c.args.step) olds held c.begin.new.slots same c.begin.ensures.each)
    (few_written olds held c.begin.new.slots same c.begin.ensures.each.long (c.begin.ensures.few (few_held olds held same c.requires.shape.few)))
    refl refl refl refl
