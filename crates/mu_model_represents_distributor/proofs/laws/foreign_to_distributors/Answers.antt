use Rattle.mu_model_represents_distributor.proofs.Foreign.{distributors, others}
use Rattle.mu_model_represents_distributor.proofs.laws.foreign_to_distributors.Goals as goal

pub returns-clause-distributors : goal.returns-clause-distributors
returns-clause-distributors c = distributors c.foreign_to_others.ensures.found

pub returns-clause-others : goal.returns-clause-others
returns-clause-others c = others c.represented_is_one.ensures.kinds c.stores.ensures.is_found
