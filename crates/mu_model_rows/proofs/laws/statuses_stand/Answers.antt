use Rattle.mu_model_rows.proofs.Statuses.{statuses_stand}
use Rattle.mu_model_rows.proofs.laws.statuses_stand.Goals as goal

pub returns : goal.returns
returns c = statuses_stand
