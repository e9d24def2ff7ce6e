use Rattle.mu_model_flash.specs.Bits.{blank}
use Rattle.mu_outside.proofs.cells.Cells.erased.Goals as goal

pub returns-clause-octets : goal.returns-clause-octets
unfolding blank
returns-clause-octets c = c.in_ok-vec.ensures.items_if_clones_equal (λ y is. is)
