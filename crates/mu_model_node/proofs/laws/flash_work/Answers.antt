use Rattle.mu_model_node.proofs.Steps.{states_pass, work_leaves, work_leads_there, work_is_bounded}
use Rattle.mu_model_node.proofs.laws.flash_work.Goals as goal

pub returns-clause-passed : goal.returns-clause-passed
returns-clause-passed c = states_pass

pub returns-clause-left : goal.returns-clause-left
returns-clause-left c = work_leaves

pub returns-clause-led : goal.returns-clause-led
returns-clause-led c = work_leads_there

pub returns-clause-bounded : goal.returns-clause-bounded
returns-clause-bounded c = work_is_bounded
