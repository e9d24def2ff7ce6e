use Rattle.mu_model_completion.proofs.Worked.{one_node, one_pulls, beside_the_silent, equal_version, first_block, three}
use Rattle.mu_model_completion.proofs.laws.worked_updates.Goals as goal

pub returns-clause-one_node : goal.returns-clause-one_node
returns-clause-one_node c = one_node

pub returns-clause-one_pulls : goal.returns-clause-one_pulls
returns-clause-one_pulls c = one_pulls

pub returns-clause-beside_the_silent : goal.returns-clause-beside_the_silent
returns-clause-beside_the_silent c = beside_the_silent

pub returns-clause-equal_version : goal.returns-clause-equal_version
returns-clause-equal_version c = equal_version

pub returns-clause-first_block : goal.returns-clause-first_block
returns-clause-first_block c = first_block

pub returns-clause-three : goal.returns-clause-three
returns-clause-three c = three
