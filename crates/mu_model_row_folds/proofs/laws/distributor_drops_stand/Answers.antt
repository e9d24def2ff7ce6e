use Rattle.mu_model_row_folds.proofs.Distributors.{DistLaws}
use Rattle.mu_model_row_folds.proofs.DistributorStatuses.{drops_stand, statuses_are_folds}
use Rattle.mu_model_row_folds.proofs.laws.distributor_drops_stand.Goals as goal

pub returns : goal.returns
returns c =
    let laws : DistLaws = record {
      keeps = c.states_are_sound.ensures.events;
      boots = c.states_are_sound.ensures.boots;
      moves = c.rows_move_by_cause.ensures;
      exact = c.distributor_rows_are_exact.ensures;
      rests = c.rests_stand.ensures.moves;
      stand = c.rows_are_told.ensures.stand;
      leaves = c.flash_work.ensures.left;
      leads = c.flash_work.ensures.led;
      plans = c.starts_are_offered.ensures.events;
      boots_planned = c.starts_are_offered.ensures.boots;
    } in
    record { stand = drops_stand c.statuses_stand.ensures; folds = statuses_are_folds laws c.statuses_stand.ensures c.runs_are_in_order.ensures.order }
