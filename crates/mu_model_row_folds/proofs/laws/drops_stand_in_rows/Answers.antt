use Rattle.mu_model_row_folds.proofs.Statuses.{drops_stand}
use Rattle.mu_model_row_folds.proofs.laws.drops_stand_in_rows.Goals as goal

pub returns : goal.returns
returns c = drops_stand (record {
  stand = c.statuses_stand.ensures;
  stay = c.drops_stay.ensures;
  begins = c.clients_are_sound.ensures.begins;
  events = c.clients_are_sound.ensures.events;
})
