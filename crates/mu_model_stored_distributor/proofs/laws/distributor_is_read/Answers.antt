use Rattle.mu_model_stored_distributor.proofs.DistributorIn.{note_read, distributor_read}
use Rattle.mu_model_stored_distributor.proofs.laws.distributor_is_read.Goals as goal

pub returns-clause-note : goal.returns-clause-note
returns-clause-note c n octets is = note_read n octets is

pub returns-clause-distributor : goal.returns-clause-distributor
returns-clause-distributor c s d is = distributor_read c.parts.ensures.read s d is
