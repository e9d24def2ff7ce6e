use Rattle.mu_model_told.proofs.AllSent.{sent_is_reached}
use Rattle.mu_model_told.proofs.Reached.{told_is_reached}
use Rattle.mu_model_told.proofs.laws.told_is_reached.Goals as goal

pub returns-clause-event : goal.returns-clause-event
returns-clause-event c = told_is_reached (record {
  one = c.opcodes_are_kept.ensures.one;
  two = c.opcodes_are_kept.ensures.two;
  grammar = c.grammar_holds.ensures;
  again = c.canonical_is_read.ensures;
  images = c.images.ensures.metadata;
  events = c.states_are_sound.ensures.events;
  boots = c.states_are_sound.ensures.boots;
  work = c.flash_work.ensures.left;
  safe = c.one_node_is_safe.ensures;
})

pub returns-clause-all : goal.returns-clause-all
returns-clause-all c = sent_is_reached (record {
  one = c.opcodes_are_kept.ensures.one;
  two = c.opcodes_are_kept.ensures.two;
  grammar = c.grammar_holds.ensures;
  again = c.canonical_is_read.ensures;
  images = c.images.ensures.metadata;
  events = c.states_are_sound.ensures.events;
  boots = c.states_are_sound.ensures.boots;
  work = c.flash_work.ensures.left;
  safe = c.one_node_is_safe.ensures;
})
