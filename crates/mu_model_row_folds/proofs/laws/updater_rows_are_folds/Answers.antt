use Rattle.mu_model_row_folds.proofs.Updaters.{updater_rows}
use Rattle.mu_model_row_folds.proofs.laws.updater_rows_are_folds.Goals as goal

pub returns : goal.returns
returns c = updater_rows (record {
  plans = c.plans_stay.ensures;
  follow = c.rows.ensures.follow;
  time = c.time_is_exact.ensures.time;
  presence = c.time_is_exact.ensures.presence;
})
