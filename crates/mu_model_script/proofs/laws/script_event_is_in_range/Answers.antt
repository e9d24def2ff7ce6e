use Rattle.mu_model_script.proofs.Events.{script_event-in_range, node_lines}
use Rattle.mu_model_script.proofs.laws.script_event_is_in_range.Goals as goal

pub returns-clause-range : goal.returns-clause-range
returns-clause-range c = script_event-in_range

pub returns-clause-same : goal.returns-clause-same
returns-clause-same c = node_lines
