use Rattle.mu_rounds.specs.Sents.{sents_of}
use Rattle.mu_rounds.proofs.Timing.{messages_told}
use Rattle.mu_rounds.proofs.rounds.Rounds.send.Goals as goal

pub returns-in-None-clause-packets : goal.returns-in-None-clause-packets
returns-in-None-clause-packets g c =
    messages_told (g.I.ImageBytes.image c.args.image.now).octets (sents_of c.args.self.now.sending c.args.self.now.purpose c.send_messages_left.new.out.items) c.args.self.now.sending _
    c.send_messages_left.ensures.packets
