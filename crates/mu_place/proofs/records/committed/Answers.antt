use Rattle.mu_place.proofs.records.committed.Goals as goal

pub returns-in-Ok-clause-runs : goal.returns-in-Ok-clause-runs
returns-in-Ok-clause-runs g c = rw c.in-Rest.is c.in-Ok.ensures.runs

pub returns-in-Err-clause-runs : goal.returns-in-Err-clause-runs
returns-in-Err-clause-runs g c = rw c.in-Rest.is c.in-Err.ensures.runs

pub returns-in-Ok-commit-clause-runs : goal.returns-in-Ok-commit-clause-runs
returns-in-Ok-commit-clause-runs g c = rw c.in-Fill.is c.in-Ok-commit.ensures.runs
