use Rattle.mu_model_represents.proofs.TagOnce.{node_tag_one, tag_one}
use Rattle.mu_model_represents.proofs.laws.octets_count.Goals as goal

pub returns-clause-node : goal.returns-clause-node
returns-clause-node c = node_tag_one c.ranges_of_octets.ensures c.metadata.ensures.one_spelling

pub returns-clause-by_note : goal.returns-clause-by_note
returns-clause-by_note c = tag_one c.ranges_of_octets.ensures
