use Rattle.mu_model_image.proofs.Digests.{metadata, tested}
use Rattle.mu_model_image.proofs.laws.images.Goals as goal

pub returns-clause-metadata : goal.returns-clause-metadata
returns-clause-metadata c = metadata

pub returns-clause-tested : goal.returns-clause-tested
returns-clause-tested c = tested
