use Rattle.mu_model_updater.proofs.Runs.{rows_of_receivers}
use Rattle.mu_model_updater.proofs.Told.{rows_are_told}
use Rattle.mu_model_updater.proofs.laws.rows_are_told.Goals as goal

pub returns-clause-receivers : goal.returns-clause-receivers
returns-clause-receivers c = rows_of_receivers (record {
  plans = c.plans_stay.ensures;
  sent = c.plans_are_sent.ensures;
  begins = c.clients_are_sound.ensures.begins;
  events = c.clients_are_sound.ensures.events;
})

pub returns-clause-told : goal.returns-clause-told
returns-clause-told c = rows_are_told (record {
  clients = record {
    plans = c.plans_stay.ensures;
    sent = c.plans_are_sent.ensures;
    begins = c.clients_are_sound.ensures.begins;
    events = c.clients_are_sound.ensures.events;
  };
  causes = c.rows.ensures.causes;
  follow = c.rows.ensures.follow;
  time = c.silence.ensures.fifth;
})
