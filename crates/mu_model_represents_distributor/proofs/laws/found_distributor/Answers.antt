use Rattle.mu_model_represents_distributor.proofs.Found.{distributor_record}
use Rattle.mu_model_represents_distributor.proofs.laws.found_distributor.Goals as goal

pub returns : goal.returns
returns c = record { distributor = distributor_record c.images_of_banks.ensures.found }
