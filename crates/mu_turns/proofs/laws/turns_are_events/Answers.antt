use Rattle.mu_turns.proofs.Turning.{rounds_run}
use Rattle.mu_turns.proofs.laws.turns_are_events.Goals as goal

pub returns : goal.returns
returns g c old new turns replies rounds = rounds_run g.M.Member.step g.M.Member.ended old new turns replies rounds
