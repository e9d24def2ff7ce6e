use Rattle.mu_model_rows.proofs.Waits.{rows_are_exact}
use Rattle.mu_model_rows.proofs.laws.distributor_rows_are_exact.Goals as goal

pub returns : goal.returns
returns c = rows_are_exact c.rows.ensures.follow c.rows_move_by_cause.ensures
