use Rattle.mu_model_updater_reached.proofs.Rows.{rows_are_reached, new_rows_are_true}
use Rattle.mu_model_updater_reached.proofs.laws.rows_are_reached.Goals as goal

pub returns-clause-rows : goal.returns-clause-rows
returns-clause-rows c = rows_are_reached c.told_is_reached.ensures.all c.rows_are_told.ensures.told

pub returns-clause-new : goal.returns-clause-new
returns-clause-new c = new_rows_are_true (rows_are_reached c.told_is_reached.ensures.all c.rows_are_told.ensures.told)
