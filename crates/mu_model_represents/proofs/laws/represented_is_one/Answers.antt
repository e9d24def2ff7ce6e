use Rattle.mu_model_represents.proofs.NodeOnce.{node_once}
use Rattle.mu_model_represents.proofs.NoteKinds.{two_kinds, other_kinds, octets_node}
use Rattle.mu_model_represents.proofs.laws.represented_is_one.Goals as goal

pub returns-clause-node : goal.returns-clause-node
returns-clause-node c = node_once

pub returns-clause-node_octets : goal.returns-clause-node_octets
returns-clause-node_octets c = octets_node c.stores.ensures.state

pub returns-clause-other_kinds : goal.returns-clause-other_kinds
returns-clause-other_kinds c = other_kinds c.ranges_of_octets.ensures

pub returns-clause-kinds : goal.returns-clause-kinds
returns-clause-kinds c = two_kinds
