use Rattle.mu_model_script.proofs.Events.{line_event-in_range}
use Rattle.mu_model_script.proofs.laws.event_is_in_range.Goals as goal

pub returns : goal.returns
returns c = line_event-in_range
