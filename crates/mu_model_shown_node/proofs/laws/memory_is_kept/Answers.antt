use Rattle.mu_model_shown_node.proofs.Memory.{is_shown, is_represented, is_one}
use Rattle.mu_model_shown_node.proofs.laws.memory_is_kept.Goals as goal

pub returns-clause-shown : goal.returns-clause-shown
returns-clause-shown c s part note d is = is_shown s part note d is

pub returns-clause-represented : goal.returns-clause-represented
returns-clause-represented c s part note d rules shown lies = is_represented s part note d rules shown lies

pub returns-clause-one : goal.returns-clause-one
returns-clause-one c s part other note another d rules is = is_one c.blob_parts.ensures.one c.node_is_read.ensures.note s part other note another d rules is
