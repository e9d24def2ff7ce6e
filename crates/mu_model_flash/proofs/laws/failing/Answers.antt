use Rattle.mu_model_flash.proofs.Sentences.{failing_of}
use Rattle.mu_model_flash.proofs.laws.failing.Goals as goal

pub returns : goal.returns
returns g c = failing_of _ _ _ _ _ c.requires.told c.requires.broke
