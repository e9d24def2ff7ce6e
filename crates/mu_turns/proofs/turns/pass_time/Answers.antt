use Rattle.mu_turns.proofs.Turning.{cut_link}
use Rattle.mu_turns.proofs.turns.pass_time.Goals as goal

pub returns-in-Err-send_all-clause-broke : goal.returns-in-Err-send_all-clause-broke
returns-in-Err-send_all-clause-broke g c = cut_link g.M.Member.step g.M.Member.fails g.M.Member.ended _ _ _ _ _ _ _ c.in_default.ensures.step c.in-Err-send_all.ensures.err
