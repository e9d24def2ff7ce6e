use Rattle.mu_model_distributor_laws.proofs.Records.{long_is_past}
use Rattle.mu_model_distributor_laws.proofs.Work.{states_pass, work_leaves, work_leads_there, work_is_bounded, long_by_receivers, records_say}
use Rattle.mu_model_distributor_laws.proofs.laws.flash_work.Goals as goal

pub returns-clause-passed : goal.returns-clause-passed
returns-clause-passed c = states_pass c.states_are_sound.ensures.requests

pub returns-clause-left : goal.returns-clause-left
returns-clause-left c = work_leaves

pub returns-clause-led : goal.returns-clause-led
returns-clause-led c = work_leads_there c.states_are_sound.ensures.requests

pub returns-clause-bounded : goal.returns-clause-bounded
returns-clause-bounded c = work_is_bounded c.states_are_sound.ensures.requests

pub returns-clause-long : goal.returns-clause-long
returns-clause-long c = long_by_receivers c.states_are_sound.ensures.requests

pub returns-clause-says : goal.returns-clause-says
returns-clause-says c = records_say

pub returns-clause-past : goal.returns-clause-past
returns-clause-past c = long_is_past
