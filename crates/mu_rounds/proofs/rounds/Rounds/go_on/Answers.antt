use Rattle.mu_rounds.proofs.Stepping.{free_before, went_before, went_at}
use Rattle.mu_rounds.proofs.rounds.Rounds.go_on.Goals as goal

pub begin_if_any-requires-clause-free : goal.begin_if_any-requires-clause-free
begin_if_any-requires-clause-free c = free_before c.args.self.now c.in-Before.step c.requires c.in-Before.is

pub returns-in-Before-clause-goes : goal.returns-in-Before-clause-goes
returns-in-Before-clause-goes c =
    went_before c.args.self.now _ c.max-self.result c.args.now c.in-Before.step c.max-self.ensures c.in-Before.is c.begin_if_any.ensures.goes

pub returns-in-At-clause-goes : goal.returns-in-At-clause-goes
returns-in-At-clause-goes c =
    went_at c.args.self.now _ c.max-self.result c.args.now c.in-At.step c.max-self.ensures c.in-At.is c.at_step.ensures.goes
