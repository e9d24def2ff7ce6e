use Rattle.mu_model_wire.proofs.PatternLaws.{shortest, read}
use Rattle.mu_model_wire.proofs.patterns.number_patterns.Goals as goal

pub returns-clause-shortest : goal.returns-clause-shortest
returns-clause-shortest c = shortest

pub returns-clause-read : goal.returns-clause-read
returns-clause-read c = read
