use Rattle.mu_model_represents.proofs.Shorts.{short_by_note, node_short}
use Rattle.mu_model_represents.proofs.laws.records_are_short.Goals as goal

pub returns-clause-node : goal.returns-clause-node
returns-clause-node c = node_short c.ranges_of_octets.ensures

pub returns-clause-by_note : goal.returns-clause-by_note
returns-clause-by_note c = short_by_note
