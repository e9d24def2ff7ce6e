use Rattle.mu_model_distributor_laws.proofs.RowsTold.{rows_are_told}
use Rattle.mu_model_distributor_laws.proofs.Stands.{offers_stand_still}
use Rattle.mu_model_distributor_laws.proofs.laws.rows_are_told.Goals as goal

pub returns-clause-stand : goal.returns-clause-stand
returns-clause-stand c = offers_stand_still

pub returns-clause-told : goal.returns-clause-told
returns-clause-told c = rows_are_told c.states_are_sound.ensures.requests
