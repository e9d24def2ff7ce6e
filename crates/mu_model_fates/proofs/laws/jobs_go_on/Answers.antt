use Rattle.mu_model_fates.proofs.Nexts.{jobs_go_on}
use Rattle.mu_model_fates.proofs.laws.jobs_go_on.Goals as goal

pub returns : goal.returns
returns c = jobs_go_on c.flash_work.ensures.left
