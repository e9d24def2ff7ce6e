use Rattle.mu_place.proofs.place.Place.read_bank.Goals as goal

pub returns-in-Rest-clause-image : goal.returns-in-Rest-clause-image
returns-in-Rest-clause-image g c = rw c.in-Rest.is c.read_bank.ensures.image
