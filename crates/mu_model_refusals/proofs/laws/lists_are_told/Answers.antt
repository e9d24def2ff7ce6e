use Rattle.mu_model_refusals.proofs.Lists.{list_or_fault}
use Rattle.mu_model_refusals.proofs.laws.lists_are_told.Goals as goal

pub returns : goal.returns
returns c = list_or_fault c.number_patterns.ensures.read c.number_patterns.ensures.shortest
