use Rattle.mu_reference.specs.View.{state_of}
use Rattle.mu_reference_node.proofs.Logged.{logged_here}
use Rattle.mu_reference_node.proofs.node.Node.restart.Goals as goal

pub returns-clause-log : goal.returns-clause-log
returns-clause-log c =
    rw (← c.self.view_is)
    (logged_here (state_of c.self.inside.state) (state_of c.boot.new.self) _ _ _ _ _ c.glance_at-before.ensures.job c.glance_at.ensures.job c.glance_at-before.ensures.phase c.glance_at.ensures.phase c.entries.ensures)
