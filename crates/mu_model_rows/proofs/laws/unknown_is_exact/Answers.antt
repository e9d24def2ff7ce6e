use Rattle.mu_model_rows.proofs.Unknown.{unknown_is_exact}
use Rattle.mu_model_rows.proofs.laws.unknown_is_exact.Goals as goal

pub returns : goal.returns
returns c = unknown_is_exact
