use Rattle.std.proofs.Common.{refl}
use Rattle.std.specs.Prelude.{Ok}
use Rattle.mu_distributor_server.proofs.Ended.{due_differs, undue_is_same, idles}
use Rattle.mu_distributor_server.proofs.distributor.Distributor.end.Goals as goal

pub returns-then-not-due-clause-shows : goal.returns-then-not-due-clause-shows
returns-then-not-due-clause-shows g c s t shows due =
    rw (undue_is_same c.flash_work.ensures.says s t (rw c.if-not-due.true at due)) shows

pub returns-then-not-due-clause-works : goal.returns-then-not-due-clause-works
returns-then-not-due-clause-works g c s t shows from same due sound =
    rw (undue_is_same c.flash_work.ensures.says s t (rw c.if-not-due.true at due))
    (idles g.F.Flash.seen _ s t from same (rw c.if-not-due.true at due) c.runs.ensures c.distributor_runs_are_read.ensures.distributors (c.known.ensures.idle from.store from.holds) (Ok tt) refl)

pub returns-clause-shows : goal.returns-clause-shows
returns-clause-shows g c s t shows due = rw (due_differs c.flash_work.ensures.says s t (rw c.if-not-due.false at due)) (c.commit.ensures.shows t shows)

pub returns-clause-works : goal.returns-clause-works
returns-clause-works g c s t shows from same due sound =
    let differs = due_differs c.flash_work.ensures.says s t (rw c.if-not-due.false at due) in
    rw differs (c.commit.ensures.works s t shows from same (rw differs at sound))

pub returns-clause-faults : goal.returns-clause-faults
returns-clause-faults g c s t due = rw (due_differs c.flash_work.ensures.says s t (rw c.if-not-due.false at due)) c.commit.ensures.worn
