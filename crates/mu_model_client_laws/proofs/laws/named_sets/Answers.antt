use Rattle.mu_model_client_laws.proofs.Named.{named_sets, sets_are_read}
use Rattle.mu_model_client_laws.proofs.laws.named_sets.Goals as goal

pub returns-clause-named : goal.returns-clause-named
returns-clause-named c n report set e = named_sets n report set e

pub returns-clause-read : goal.returns-clause-read
returns-clause-read c n report h = sets_are_read n report h
