use Rattle.mu_top.proofs.Printing.{shown_cause, shown_done, shown_cut}
use Rattle.mu_top.proofs.payloads.print_shown.Goals as goal

pub returns-in-Ok-Ok-clause-prints : goal.returns-in-Ok-Ok-clause-prints
returns-in-Ok-Ok-clause-prints g c = shown_done _ _ _ _ _ _ (rw c.in-Ok-Ok.field-0-is at c.in-Ok-Ok.ensures.shown)

pub returns-in-Ok-Ok-clause-later : goal.returns-in-Ok-Ok-clause-later
returns-in-Ok-Ok-clause-later g c = (shown_cause _ _ _ _ _ _ c.in-Ok-Ok.ensures.shown).later

pub returns-in-Ok-Err-clause-prints : goal.returns-in-Ok-Err-clause-prints
returns-in-Ok-Err-clause-prints g c = shown_cut _ _ _ _ _ _ _ (rw c.in-Ok-Err.field-0-is at c.in-Ok-Err.ensures.shown)

pub returns-in-Ok-Err-clause-failed : goal.returns-in-Ok-Err-clause-failed
returns-in-Ok-Err-clause-failed g c = λ is. rw c.in-Ok-Err.field-0-is at (shown_cause _ _ _ _ _ _ c.in-Ok-Err.ensures.shown).failed

pub returns-in-Ok-Err-clause-later : goal.returns-in-Ok-Err-clause-later
returns-in-Ok-Err-clause-later g c = (shown_cause _ _ _ _ _ _ c.in-Ok-Err.ensures.shown).later
