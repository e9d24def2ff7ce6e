use Rattle.mu_model_represents.proofs.NodeOnce.{image_once}
use Rattle.mu_model_represents.proofs.StoreLemmas.{bank_image}
use Rattle.mu_model_represents.proofs.Found.{sealed_image}
use Rattle.mu_model_represents.proofs.Made.{stores_are_made}
use Rattle.mu_model_represents.proofs.laws.images_of_banks.Goals as goal

pub returns-clause-one : goal.returns-clause-one
returns-clause-one c = image_once

pub returns-clause-good : goal.returns-clause-good
returns-clause-good c = bank_image

pub returns-clause-found : goal.returns-clause-found
returns-clause-found c = sealed_image

pub returns-clause-made : goal.returns-clause-made
returns-clause-made c = stores_are_made
