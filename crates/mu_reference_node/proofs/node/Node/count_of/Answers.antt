use Rattle.mu_reference_node.proofs.node.Node.count_of.Goals as goal

pub returns : goal.returns
returns c = rw (← c.self.view_is) c.operation_count.ensures
