use Rattle.mu_model_represents_distributor.proofs.Shorts.{distributor_long}
use Rattle.mu_model_represents_distributor.proofs.laws.distributor_records_are_short.Goals as goal

pub returns : goal.returns
returns c = record { distributor = distributor_long c.ranges_of_octets.ensures c.octets_of_tags.ensures c.records_are_short.ensures.by_note }
