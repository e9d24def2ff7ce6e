use Rattle.std.proofs.Common.{refl}
use Rattle.mu_model_flash.specs.Bits.{blank}
use Rattle.mu_outside.proofs.memory.blank_page.Goals as goal

pub returns : goal.returns
unfolding blank
returns c = refl
