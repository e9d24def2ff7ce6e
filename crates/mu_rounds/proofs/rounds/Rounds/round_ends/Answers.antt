use Rattle.mu_rounds.proofs.Stepping.{goes_as, pending_so, step_fits, free_now}
use Rattle.mu_rounds.proofs.rounds.Rounds.round_ends.Goals as goal

pub next_step-requires-clause-fits : goal.next_step-requires-clause-fits
next_step-requires-clause-fits c = step_fits c.args.self.now c.args.step c.requires.shape c.requires.at

pub next_step-requires-clause-free : goal.next_step-requires-clause-free
next_step-requires-clause-free c = free_now c.args.self.now _ c.requires.sent

pub returns-then-is_any_pending-clause-goes : goal.returns-then-is_any_pending-clause-goes
returns-then-is_any_pending-clause-goes c =
    goes_as c.args.self.now _ _ _ c.new_round.ensures.goes
    (pending_so c.args.self.now c.args.step c.deref.result.now _ _ c.deref.ensures.0 c.is_any_pending.ensures c.if-is_any_pending.true)

pub returns-else-is_any_pending-clause-goes : goal.returns-else-is_any_pending-clause-goes
returns-else-is_any_pending-clause-goes c =
    goes_as c.args.self.now _ _ _ c.next_step.ensures.goes
    (pending_so c.args.self.now c.args.step c.deref.result.now _ _ c.deref.ensures.0 c.is_any_pending.ensures c.if-is_any_pending.false)
