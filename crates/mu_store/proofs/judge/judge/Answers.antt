use Rattle.mu_store.proofs.JudgeLemmas.{is_other}
use Rattle.mu_store.proofs.judge.judge.Goals as goal

pub returns-in-Foreign-clause-judged : goal.returns-in-Foreign-clause-judged
returns-in-Foreign-clause-judged g c told = is_other (g.F.Flash.seen c.args.flash.now).octets (rw c.in-Foreign.is at (c.in_ok-find_present.ensures.found told))
