use Rattle.mu_model_image.proofs.Metadata.{in_range, one_spelling}
use Rattle.mu_model_image.proofs.laws.metadata.Goals as goal

pub returns-clause-in_range : goal.returns-clause-in_range
returns-clause-in_range c = in_range

pub returns-clause-one_spelling : goal.returns-clause-one_spelling
returns-clause-one_spelling c = one_spelling
