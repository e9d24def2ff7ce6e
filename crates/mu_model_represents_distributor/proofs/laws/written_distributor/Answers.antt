use Rattle.mu_model_represents_distributor.proofs.DistributorKept.{distributor_is_tag, distributor_read_back}
use Rattle.mu_model_represents_distributor.proofs.DistributorMade.{distributor_made}
use Rattle.mu_model_represents_distributor.proofs.laws.written_distributor.Goals as goal

pub returns-clause-tag : goal.returns-clause-tag
returns-clause-tag c = distributor_is_tag c.octets_of_tags.ensures c.blob_parts.ensures.read_back c.blob_parts.ensures.fit

pub returns-clause-read_back : goal.returns-clause-read_back
returns-clause-read_back c = distributor_read_back c.octets_of_tags.ensures c.blob_parts.ensures.read_back c.blob_parts.ensures.fit

pub returns-clause-represented : goal.returns-clause-represented
returns-clause-represented c = distributor_made c.octets_of_tags.ensures c.blob_parts.ensures.read_back c.blob_parts.ensures.fit c.images_of_banks.ensures.made
