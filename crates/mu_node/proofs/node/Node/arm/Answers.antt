use Rattle.std.proofs.Common.{refl}
use Rattle.mu_node.proofs.Plugged.{same_holds}
use Rattle.mu_node.proofs.node.Node.arm.Goals as goal

pub returns-clause-holds : goal.returns-clause-holds
returns-clause-holds g c n h = same_holds _ _ c.arm.ensures.same c.arm.ensures.session refl refl g.F.Flash.seen c.arm.ensures.holds n h
