use Rattle.mu_model_node.proofs.Ranges.{octets_ask}
use Rattle.mu_model_node.proofs.laws.octets_ask_in_range.Goals as goal

pub returns : goal.returns
returns c = octets_ask c.grammar_holds.ensures c.reads_what_is_spelled.ensures
