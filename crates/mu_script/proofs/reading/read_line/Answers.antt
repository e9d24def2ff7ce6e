use Rattle.mu_script.proofs.Ranged.{ranged}
use Rattle.mu_script.proofs.reading.read_line.Goals as goal

pub returns-clause-in_range : goal.returns-clause-in_range
returns-clause-in_range c = ranged c.event_is_in_range.ensures c.args.line.now c.event_read.result c.event_read.ensures
