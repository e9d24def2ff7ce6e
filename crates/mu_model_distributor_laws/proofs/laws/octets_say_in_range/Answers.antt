use Rattle.mu_model_distributor_laws.proofs.Ranges.{octets_say}
use Rattle.mu_model_distributor_laws.proofs.laws.octets_say_in_range.Goals as goal

pub returns : goal.returns
returns c = octets_say c.grammar_holds.ensures c.reads_what_is_spelled.ensures c.metadata.ensures.in_range
