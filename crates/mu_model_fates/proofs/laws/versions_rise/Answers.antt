use Rattle.mu_model_fates.proofs.Runs.{traced}
use Rattle.mu_model_fates.proofs.Versions.{versions_of, since_taken}
use Rattle.mu_model_fates.proofs.laws.versions_rise.Goals as goal

pub returns-clause-rise : goal.returns-clause-rise
returns-clause-rise c = λ config d hs none. versions_of (traced c.flash_work.ensures.left config d hs none)

pub returns-clause-since : goal.returns-clause-since
returns-clause-since c = λ config d hs none. since_taken (versions_of (traced c.flash_work.ensures.left config d hs none))
