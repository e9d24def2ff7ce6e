use Rattle.mu_model_told.proofs.Numbers.{numbers_stay}
use Rattle.mu_model_told.proofs.Sent.{told_is_so}
use Rattle.mu_model_told.proofs.laws.told_is_so.Goals as goal

pub returns-clause-numbers : goal.returns-clause-numbers
returns-clause-numbers c = numbers_stay

pub returns-clause-so : goal.returns-clause-so
returns-clause-so c = told_is_so c.opcodes_are_kept.ensures.one c.opcodes_are_kept.ensures.two c.grammar_holds.ensures c.canonical_is_read.ensures c.images.ensures.metadata
