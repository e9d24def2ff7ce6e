use Rattle.mu_model_represents.proofs.NodeTags.{node_tags}
use Rattle.mu_model_represents.proofs.NoNodes.{abc_octets, no_nodes}
use Rattle.mu_model_represents.proofs.laws.worked_node.Goals as goal

pub returns-clause-tags : goal.returns-clause-tags
returns-clause-tags c = node_tags

pub returns-clause-others : goal.returns-clause-others
returns-clause-others c = no_nodes c.metadata.ensures.read_back c.images.ensures.metadata

pub returns-clause-digest : goal.returns-clause-digest
returns-clause-digest c = abc_octets c.images.ensures.metadata
