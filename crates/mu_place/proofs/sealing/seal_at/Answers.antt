use Rattle.mu_place.proofs.sealing.seal_at.Goals as goal

pub returns-in-Ok-Fit-clause-size : goal.returns-in-Ok-Fit-clause-size
returns-in-Ok-Fit-clause-size g c = rw c.in-Fill.is (rw c.in-Ok-Fit.field-0-is at c.in-Ok-Fit.ensures.size)

pub returns-in-Ok-Fit-clause-runs : goal.returns-in-Ok-Fit-clause-runs
returns-in-Ok-Fit-clause-runs g c = rw c.in-Fill.is (rw c.in-Ok-Fit.field-0-is at c.in-Ok-Fit.ensures.runs)

pub returns-in-Ok-Unfit-clause-fit : goal.returns-in-Ok-Unfit-clause-fit
returns-in-Ok-Unfit-clause-fit g c = rw c.in-Fill.is (rw c.in-Ok-Unfit.field-0-is at c.in-Ok-Unfit.ensures.fit)

pub returns-in-Ok-Unfit-clause-octets : goal.returns-in-Ok-Unfit-clause-octets
returns-in-Ok-Unfit-clause-octets g c = rw c.in-Fill.is (rw c.in-Ok-Unfit.field-0-is at c.in-Ok-Unfit.ensures.octets)

pub returns-in-Ok-Unfit-clause-runs : goal.returns-in-Ok-Unfit-clause-runs
returns-in-Ok-Unfit-clause-runs g c = rw c.in-Fill.is (rw c.in-Ok-Unfit.field-0-is at c.in-Ok-Unfit.ensures.runs)
