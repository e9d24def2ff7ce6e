use Rattle.std.proofs.Common.{refl}
use Rattle.mu_model_jobs.proofs.Transfers.{begins, seals, others, releases}
use Rattle.mu_model_jobs.proofs.laws.transfers.Goals as goal

pub returns-clause-tagged : goal.returns-clause-tagged
returns-clause-tagged c s j tag = refl

pub returns-clause-dropped : goal.returns-clause-dropped
returns-clause-dropped c s j tag = refl

pub returns-clause-begun : goal.returns-clause-begun
returns-clause-begun c s j p tag is there = begins s j p tag is there

pub returns-clause-emptied : goal.returns-clause-emptied
returns-clause-emptied c s j tag = refl

pub returns-clause-sealed : goal.returns-clause-sealed
returns-clause-sealed c s j meta tag is full = seals c.blocks_of_jobs.ensures.cut s j meta tag is full

pub returns-clause-filled : goal.returns-clause-filled
returns-clause-filled c s j bank entry content tag ne = others s j bank entry content tag ne

pub returns-clause-released : goal.returns-clause-released
returns-clause-released c s j named tag e = releases s j named tag e
