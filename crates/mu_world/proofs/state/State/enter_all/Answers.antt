use Rattle.std.proofs.Common.{◌∙◌, sym, arith}
use Rattle.mu_world.proofs.Sent.{log_next, log_done}
use Rattle.mu_world.proofs.state.State.enter_all.Goals as goal

pub loop-what-preserved : goal.loop-what-preserved
loop-what-preserved c = record {
  log = log_next c.loop-what.self c.enter.new.self c.args.address c.args.entries.now c.loop-what.what-index _ c.loop-what-test.true c.in_ok-enter.ensures.ok ∙ c.loop-what.invariant.log;
}

pub returns-clause-ok : goal.returns-clause-ok
returns-clause-ok c = sym (log_done c.loop-what.self c.args.address c.args.entries.now c.loop-what.what-index (omega (arith, c.loop-what-test.false))) ∙ c.loop-what.invariant.log
