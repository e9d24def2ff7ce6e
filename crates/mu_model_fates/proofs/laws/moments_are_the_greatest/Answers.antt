use Rattle.mu_model_fates.proofs.Moments.{request_keeps, time_keeps, step_is_greatest}
use Rattle.mu_model_fates.proofs.laws.moments_are_the_greatest.Goals as goal

pub returns-clause-requests : goal.returns-clause-requests
returns-clause-requests c = request_keeps

pub returns-clause-time : goal.returns-clause-time
returns-clause-time c = time_keeps

pub returns-clause-steps : goal.returns-clause-steps
returns-clause-steps c = step_is_greatest
