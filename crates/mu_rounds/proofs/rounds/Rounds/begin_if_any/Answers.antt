use Rattle.mu_rounds.proofs.Stepping.{goes_as, begins_so, ends_so}
use Rattle.mu_rounds.proofs.rounds.Rounds.begin_if_any.Goals as goal

pub returns-then-is_any_begun_for-clause-goes : goal.returns-then-is_any_begun_for-clause-goes
returns-then-is_any_begun_for-clause-goes c =
    goes_as c.args.self.now _ _ _ c.begin_step.ensures.goes
    (begins_so c.args.self.now c.args.step c.deref.result.now _ _ c.deref.ensures.0 c.is_any_begun_for.ensures c.if-is_any_begun_for.true)

pub returns-else-is_any_begun_for-clause-goes : goal.returns-else-is_any_begun_for-clause-goes
returns-else-is_any_begun_for-clause-goes c =
    goes_as c.args.self.now _ _ _ c.rest_at.ensures.goes
    (ends_so c.args.self.now c.args.step c.deref.result.now _ _ c.deref.ensures.0 c.is_any_begun_for.ensures c.if-is_any_begun_for.false c.part_of.ensures)
