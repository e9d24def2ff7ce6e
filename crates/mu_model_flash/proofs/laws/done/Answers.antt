use Rattle.mu_model_flash.proofs.Sentences.{done_of}
use Rattle.mu_model_flash.proofs.laws.done.Goals as goal

pub returns : goal.returns
returns g c = done_of _ _ _ _ _ c.requires.told c.requires.ran
