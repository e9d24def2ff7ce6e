use Rattle.mu_place.proofs.filling.put_at.Goals as goal

pub returns-in-Ok-clause-runs : goal.returns-in-Ok-clause-runs
returns-in-Ok-clause-runs g c = rw c.in-Fill.is c.in-Ok.ensures.runs
