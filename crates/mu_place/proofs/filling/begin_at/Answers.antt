use Rattle.mu_place.proofs.filling.begin_at.Goals as goal

pub returns-in-Err-clause-runs : goal.returns-in-Err-clause-runs
returns-in-Err-clause-runs g c = rw c.in-Rest.is c.in-Err.ensures.runs
