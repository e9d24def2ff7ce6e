use Rattle.std.proofs.Common.{refl}
use Rattle.mu_node.proofs.Plugged.{same_holds}
use Rattle.mu_node.proofs.node.Node.disarm.Goals as goal

pub returns-clause-holds : goal.returns-clause-holds
returns-clause-holds g c n h = same_holds _ _ c.disarm.ensures.same c.disarm.ensures.session refl refl g.F.Flash.seen c.disarm.ensures.holds n h
