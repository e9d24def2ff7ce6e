use Rattle.mu_node.proofs.node.Node.update_row.Goals as goal

pub returns-in-InformationGet-clause-runs : goal.returns-in-InformationGet-clause-runs
returns-in-InformationGet-clause-runs g c n h is = rw c.in-InformationGet.is (c.rests.ensures n h)

pub returns-in-MetadataCheck-clause-runs : goal.returns-in-MetadataCheck-clause-runs
returns-in-MetadataCheck-clause-runs g c n h is = rw c.in-MetadataCheck.is (c.rests.ensures n h)

pub returns-in-UpdateGet-clause-runs : goal.returns-in-UpdateGet-clause-runs
returns-in-UpdateGet-clause-runs g c n h is = rw c.in-UpdateGet.is (c.rests.ensures n h)
