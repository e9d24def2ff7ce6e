use Rattle.mu_model_typed.proofs.Joins.{join}
use Rattle.mu_model_typed.proofs.laws.typed_runs.Goals as goal

pub returns : goal.returns
returns g c law =
    join g.R.Typed.State g.R.Typed.reading g.R.Typed.seen g.R.Typed.flash_of_value g.R.Typed.flash_of_fault g.R.Typed.kept g.R.Typed.by_flash law
