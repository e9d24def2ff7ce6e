use Rattle.mu_outside.proofs.ClockLemmas.{told_more}
use Rattle.mu_outside.proofs.set_clock.SetClockClock.now.Goals as goal

pub returns-clause-answered : goal.returns-clause-answered
returns-clause-answered c = told_more c.args.self.now.times.items c.args.self.now.calls _ _ (c.saturating_add-self.ensures) (c.time.ensures)
