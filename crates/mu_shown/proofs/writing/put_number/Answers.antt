use Rattle.std.proofs.Common.{◌∙◌}
use Rattle.mu_shown.proofs.Told.{adds_as}
use Rattle.mu_shown.proofs.writing.put_number.Goals as goal

pub returns : goal.returns
returns g c = adds_as (c.as_bytes.ensures.value ∙ c.format.ensures.text) c.put.ensures
