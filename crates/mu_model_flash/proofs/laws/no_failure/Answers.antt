use Rattle.mu_model_flash.proofs.Readings.{never_broke}
use Rattle.mu_model_flash.proofs.laws.no_failure.Goals as goal

pub returns : goal.returns
returns g c broke = never_broke _ _ _ _ _ c.requires.only_armed c.requires.on c.requires.unreached broke
