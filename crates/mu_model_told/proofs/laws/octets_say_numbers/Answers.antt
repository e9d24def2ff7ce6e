use Rattle.mu_model_told.proofs.Read.{octets_say}
use Rattle.mu_model_told.proofs.laws.octets_say_numbers.Goals as goal

pub returns : goal.returns
returns c = octets_say c.grammar_holds.ensures c.reads_what_is_spelled.ensures
