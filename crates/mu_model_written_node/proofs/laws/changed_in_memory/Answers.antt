use Rattle.mu_model_written_node.proofs.Memory.{changed_node}
use Rattle.mu_model_written_node.proofs.laws.changed_in_memory.Goals as goal

pub returns : goal.returns
returns c m next b c' n rules w = changed_node c.rules_go_on.ensures.next c.rules_go_on.ensures.goes_on m next b c' n rules w
