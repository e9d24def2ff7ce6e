use Rattle.mu_model_written_node.proofs.Memory.{written_node, written_short, note_fits}
use Rattle.mu_model_written_node.proofs.laws.written_in_memory.Goals as goal

pub returns-clause-node : goal.returns-clause-node
returns-clause-node c m next rules is w = written_node c.rules_go_on.ensures.next c.written_note.ensures m next rules is w

pub returns-clause-short : goal.returns-clause-short
returns-clause-short c m fresh rules is = written_short c.ranges_of_octets.ensures c.octets_of_tags.ensures c.records_are_short.ensures.by_note c.node_steps.ensures.short m fresh rules is

pub returns-clause-fits : goal.returns-clause-fits
returns-clause-fits c m rules is = note_fits c.octets_of_tags.ensures c.metadata.ensures.in_range m rules is
