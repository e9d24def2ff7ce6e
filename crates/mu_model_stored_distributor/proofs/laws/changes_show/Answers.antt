use Rattle.mu_model_stored_distributor.proofs.Differs.{shows}
use Rattle.mu_model_stored_distributor.proofs.laws.changes_show.Goals as goal

pub returns : goal.returns
returns c = shows c.images_of_banks.ensures.one
