use Rattle.mu_model_node.proofs.Steps.{missing_rest, full_lacks}
use Rattle.mu_model_node.proofs.laws.missing_and_received.Goals as goal

pub returns-clause-rest : goal.returns-clause-rest
returns-clause-rest c = missing_rest

pub returns-clause-full : goal.returns-clause-full
returns-clause-full c = full_lacks
