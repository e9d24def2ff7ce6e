use Rattle.mu_rounds.proofs.Lists.{few_held}
use Rattle.mu_rounds.proofs.Timing.{said_sent, said_packets}
use Rattle.mu_rounds.proofs.rounds.Rounds.send_of_step.Goals as goal

pub returns-clause-sends : goal.returns-clause-sends
returns-clause-sends c =
    said_sent c.args.self.now c.deref_mut.result.now c.send_messages.new.slots c.args.step c.requires.shape c.requires.at c.requires.none c.deref_mut.ensures.value c.send_messages.ensures.each
    (c.send_messages.ensures.few (few_held c.args.self.now.slots.items c.deref_mut.result.now c.deref_mut.ensures.value c.requires.shape.few))
    (c.send_messages.ensures.left c.args.self.now.sending c.args.self.now.purpose)

pub returns-clause-packets : goal.returns-clause-packets
returns-clause-packets c =
    λ image.
    said_packets c.args.self.now c.deref_mut.result.now c.args.step image c.send_messages.new.out.items c.requires.at c.requires.none c.deref_mut.ensures.value
    (c.send_messages.ensures.sent c.args.self.now.sending c.args.self.now.purpose image)
