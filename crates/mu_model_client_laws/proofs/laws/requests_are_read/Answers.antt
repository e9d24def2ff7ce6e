use Rattle.mu_model_client_laws.proofs.Wire.{requests_are_read}
use Rattle.mu_model_client_laws.proofs.laws.requests_are_read.Goals as goal

pub returns : goal.returns
returns c request h = requests_are_read c.grammar_holds.ensures c.canonical_is_read.ensures request h
