use Rattle.mu_model_shown_node.proofs.Records.{next_node, goes_on, taken, activated_node, others_stay}
use Rattle.mu_model_shown_node.proofs.laws.rules_go_on.Goals as goal

pub returns-clause-next : goal.returns-clause-next
returns-clause-next c m next rules is active says = next_node m next rules is active says

pub returns-clause-goes_on : goal.returns-clause-goes_on
returns-clause-goes_on c active old new b c2 n o is stay same stored = goes_on active old new b c2 n o is stay same stored

pub returns-clause-taken : goal.returns-clause-taken
returns-clause-taken c active old new b n is stay = taken active old new b n is stay

pub returns-clause-activated : goal.returns-clause-activated
returns-clause-activated c m next b n rules part note stored number banks active no_part no_job says = activated_node m next b n rules part note stored number banks active no_part no_job says

pub returns-clause-others : goal.returns-clause-others
returns-clause-others c r bank entry active tag apart = others_stay r bank entry active tag apart
