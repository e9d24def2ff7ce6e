use Rattle.mu_model_represents_distributor.proofs.DistributorSound.{distributor_sound}
use Rattle.mu_model_represents_distributor.proofs.laws.distributor_is_sound.Goals as goal

pub returns-clause-distributor : goal.returns-clause-distributor
returns-clause-distributor c = distributor_sound c.ranges_of_octets.ensures c.octets_of_tags.ensures.octets c.images_of_banks.ensures.good c.blob_parts.ensures.sound

pub returns-clause-distributor_octets : goal.returns-clause-distributor_octets
returns-clause-distributor_octets c image d h = distributor_sound c.ranges_of_octets.ensures c.octets_of_tags.ensures.octets c.images_of_banks.ensures.good c.blob_parts.ensures.sound h.0 d (c.represented_is_sound.ensures.store h.0 image h.1) h.2
