use Rattle.mu_node.proofs.Stepped.{rests}
use Rattle.mu_node.proofs.node.Node.rests.Goals as goal

pub returns : goal.returns
returns g c n h = rests g.F.Flash.seen c.runs.ensures c.runs_are_read.ensures.nodes c.args.self.now n h (c.known.ensures.idle h.store h.holds)
