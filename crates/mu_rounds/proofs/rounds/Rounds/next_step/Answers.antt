use Rattle.mu_rounds.proofs.Stepping.{goes_as, after_so, free_so}
use Rattle.mu_rounds.proofs.rounds.Rounds.next_step.Goals as goal

pub begin_if_any-requires-clause-free : goal.begin_if_any-requires-clause-free
begin_if_any-requires-clause-free c =
    free_so c.args.self.now c.args.step c.deref.result.now _ c.deref.ensures.0 c.in-Go.ensures.next c.requires.free

pub returns-in-Go-clause-goes : goal.returns-in-Go-clause-goes
returns-in-Go-clause-goes c =
    goes_as c.args.self.now _ _ _ c.begin_if_any.ensures.goes (after_so c.args.self.now c.args.step c.deref.result.now _ c.deref.ensures.0 c.in-Go.ensures.next)

pub returns-in-Rests-clause-goes : goal.returns-in-Rests-clause-goes
returns-in-Rests-clause-goes c =
    goes_as c.args.self.now _ _ _ c.rest_at.ensures.goes (after_so c.args.self.now c.args.step c.deref.result.now _ c.deref.ensures.0 c.in-Rests.ensures.next)

pub returns-in-Ends-clause-goes : goal.returns-in-Ends-clause-goes
returns-in-Ends-clause-goes c =
    goes_as c.args.self.now _ _ _ c.rest_at-in-Ends.ensures.goes (after_so c.args.self.now c.args.step c.deref.result.now _ c.deref.ensures.0 c.in-Ends.ensures.next)
