use Rattle.mu_store.proofs.base.Base.write.Goals as goal

pub returns-in-Ok-clause-runs : goal.returns-in-Ok-clause-runs
returns-in-Ok-clause-runs g c d e holds next is = let w = c.in-Ok.ensures.runs d e holds.at next is in (w.0, record { at = w.1; fields = is })

pub returns-in-Err-clause-runs : goal.returns-in-Err-clause-runs
returns-in-Err-clause-runs g c d e holds next is = c.in-Err.ensures.runs d e holds.at next is
