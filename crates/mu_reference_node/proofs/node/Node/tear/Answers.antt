use Rattle.std.proofs.Common.{arith}
use Rattle.mu_reference_node.specs.Events.{event_of}
use Rattle.mu_reference_node.proofs.Work.{torn_before, torn_after}
use Rattle.mu_reference_node.proofs.node.Node.tear.Goals as goal

pub returns-then-done-count_of-clause-next : goal.returns-then-done-count_of-clause-next
returns-then-done-count_of-clause-next c =
    torn_before c.args.config.now c.args.self.now c.work.new.self c.restart-then-done-count_of.new.self (event_of c.args.event) c.args.now c.args.done c.in-Ok.work c.count_of.result c.in-Ok.ensures.same c.in-Ok.ensures.work c.count_of.ensures c.if-done-count_of.true c.restart-then-done-count_of.ensures.next

pub returns-clause-next : goal.returns-clause-next
returns-clause-next c =
    torn_after c.done_and_lost.result c.args.config.now c.args.self.now c.work.new.self c.done_and_lost.new.self (event_of c.args.event) c.args.now c.args.done c.in-Ok.work c.count_of.result c.in-Ok.ensures.same c.in-Ok.ensures.work c.count_of.ensures (omega (arith, c.if-done-count_of.false)) c.requires (omega (arith, c.if-done-eq0.false)) c.done_and_lost.ensures.next
