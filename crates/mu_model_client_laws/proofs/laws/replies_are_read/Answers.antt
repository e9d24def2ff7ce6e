use Rattle.mu_model_client_laws.proofs.Heard.{replies_are_read}
use Rattle.mu_model_client_laws.proofs.laws.replies_are_read.Goals as goal

pub returns : goal.returns
returns c reply fits h = replies_are_read c.grammar_holds.ensures c.canonical_is_read.ensures reply fits h
