use Rattle.std.proofs.Common.{subst}
use Rattle.mu_model_node.specs.NodeState.{restarted}
use Rattle.mu_model_node.specs.Safe.{log_after}
use Rattle.mu_model_fates.proofs.Runs.{traced}
use Rattle.mu_model_fates.proofs.Jobs.{Logged, job_logged, reached_taken, asked_before}
use Rattle.mu_model_fates.proofs.laws.jobs_are_logged.Goals as goal

pub returns-clause-taken : goal.returns-clause-taken
returns-clause-taken c = λ config d hs none. reached_taken (traced c.flash_work.ensures.left config d hs none)

pub returns-clause-asked : goal.returns-clause-asked
returns-clause-asked c = λ config d hs none. asked_before (traced c.flash_work.ensures.left config d hs none)

pub returns-clause-job : goal.returns-clause-job
returns-clause-job c = λ config d hs none j is. subst (Logged (log_after config (restarted d) hs)) is (job_logged (traced c.flash_work.ensures.left config d hs none))
