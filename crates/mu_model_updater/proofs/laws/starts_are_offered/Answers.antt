use Rattle.mu_model_updater.proofs.Lines.{lines_in_range}
use Rattle.mu_model_updater.proofs.Starts.{starts_are_offered, sends_from_its_address}
use Rattle.mu_model_updater.proofs.Read.{starts_are_read, read_starts_are_offered}
use Rattle.mu_model_updater.proofs.Runs.{ClientLaws}
use Rattle.mu_model_updater.proofs.laws.starts_are_offered.Goals as goal

pub returns-clause-offered : goal.returns-clause-offered
returns-clause-offered c = starts_are_offered (record {
  plans = c.plans_stay.ensures;
  sent = c.plans_are_sent.ensures;
  begins = c.clients_are_sound.ensures.begins;
  events = c.clients_are_sound.ensures.events;
})

pub returns-clause-from : goal.returns-clause-from
returns-clause-from c = sends_from_its_address (record {
  plans = c.plans_stay.ensures;
  sent = c.plans_are_sent.ensures;
  begins = c.clients_are_sound.ensures.begins;
  events = c.clients_are_sound.ensures.events;
})

pub returns-clause-read : goal.returns-clause-read
returns-clause-read c = starts_are_read c.requests_are_read.ensures c.requests_are_no_answers.ensures.opcodes (record {
  plans = c.plans_stay.ensures;
  sent = c.plans_are_sent.ensures;
  begins = c.clients_are_sound.ensures.begins;
  events = c.clients_are_sound.ensures.events;
})

pub returns-clause-lines : goal.returns-clause-lines
returns-clause-lines c = lines_in_range c.images.ensures.metadata

pub returns-clause-both : goal.returns-clause-both
returns-clause-both c =
    let known : ClientLaws = record { plans = c.plans_stay.ensures; sent = c.plans_are_sent.ensures; begins = c.clients_are_sound.ensures.begins; events = c.clients_are_sound.ensures.events } in
    read_starts_are_offered (starts_are_offered known) (starts_are_read c.requests_are_read.ensures c.requests_are_no_answers.ensures.opcodes known)
