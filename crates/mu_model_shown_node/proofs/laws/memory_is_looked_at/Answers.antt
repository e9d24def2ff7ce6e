use Rattle.mu_model_shown_node.proofs.Memory.{metas, full}
use Rattle.mu_model_shown_node.proofs.laws.memory_is_looked_at.Goals as goal

pub returns-clause-metas : goal.returns-clause-metas
returns-clause-metas c m d shown = metas m d shown

pub returns-clause-full : goal.returns-clause-full
returns-clause-full c blocks held is = full blocks held is
