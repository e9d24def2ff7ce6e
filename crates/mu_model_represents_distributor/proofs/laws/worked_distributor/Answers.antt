use Rattle.mu_model_represents_distributor.proofs.DistributorTags.{distributor_tags}
use Rattle.mu_model_represents_distributor.proofs.NoDistributors.{no_distributors}
use Rattle.mu_model_represents_distributor.proofs.laws.worked_distributor.Goals as goal

pub returns-clause-tags : goal.returns-clause-tags
returns-clause-tags c = distributor_tags

pub returns-clause-others : goal.returns-clause-others
returns-clause-others c = no_distributors c.octets_of_tags.ensures c.blob_parts.ensures.read_back c.blob_parts.ensures.one_job c.worked_node.ensures.digest
