use Rattle.mu_model_represents_distributor.proofs.TagOnce.{distributor_tag_one}
use Rattle.mu_model_represents_distributor.proofs.laws.octets_of_distributors_count.Goals as goal

pub returns : goal.returns
returns c = record { distributor = distributor_tag_one c.ranges_of_octets.ensures c.octets_of_tags.ensures c.octets_count.ensures.by_note }
