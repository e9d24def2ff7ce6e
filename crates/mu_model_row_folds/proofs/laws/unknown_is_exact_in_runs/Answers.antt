use Rattle.mu_model_row_folds.proofs.Folds.{unknown_in_runs}
use Rattle.mu_model_row_folds.proofs.laws.unknown_is_exact_in_runs.Goals as goal

pub returns : goal.returns
returns c = unknown_in_runs c.unknown_is_exact.ensures
