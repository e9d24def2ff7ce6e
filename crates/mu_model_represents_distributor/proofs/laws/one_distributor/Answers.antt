use Rattle.mu_model_represents_distributor.proofs.DistributorOnce.{distributor_once}
use Rattle.mu_model_represents_distributor.proofs.NoteKinds.{not_both, octets_distributor, octets_not_both, other_kinds}
use Rattle.mu_model_represents_distributor.proofs.laws.one_distributor.Goals as goal

pub returns-clause-distributor : goal.returns-clause-distributor
returns-clause-distributor c s d e = distributor_once c.blob_parts.ensures.one c.images_of_banks.ensures.one s d e

pub returns-clause-not_both : goal.returns-clause-not_both
returns-clause-not_both c = not_both c.represented_is_one.ensures.kinds

pub returns-clause-distributor_octets : goal.returns-clause-distributor_octets
returns-clause-distributor_octets c = octets_distributor c.blob_parts.ensures.one c.images_of_banks.ensures.one c.stores.ensures.state

pub returns-clause-not_both_octets : goal.returns-clause-not_both_octets
returns-clause-not_both_octets c = octets_not_both c.represented_is_one.ensures.kinds c.stores.ensures.state

pub returns-clause-other_kinds : goal.returns-clause-other_kinds
returns-clause-other_kinds c = other_kinds c.ranges_of_octets.ensures
