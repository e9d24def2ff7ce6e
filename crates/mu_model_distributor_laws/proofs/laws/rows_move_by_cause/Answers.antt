use Rattle.mu_model_distributor_laws.proofs.RowMoves.{rows_move}
use Rattle.mu_model_distributor_laws.proofs.laws.rows_move_by_cause.Goals as goal

pub returns : goal.returns
returns c = rows_move
