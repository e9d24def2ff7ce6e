use Rattle.mu_rounds.proofs.Lists.{few_held}
use Rattle.mu_rounds.proofs.Timing.{keeps}
use Rattle.mu_rounds.proofs.rounds.Rounds.keep.Goals as goal

pub returns : goal.returns
returns c =
    keeps c.args.self.now c.deref_mut.result.now c.keep.new.slots c.requires c.deref_mut.ensures.value c.keep.ensures.each
    (c.keep.ensures.few (few_held c.args.self.now.slots.items c.deref_mut.result.now c.deref_mut.ensures.value c.requires.few))
