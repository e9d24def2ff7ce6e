use Rattle.mu_top.proofs.HandedOn.{flushed, cut_off, cut_before}
use Rattle.mu_top.proofs.work.run_gathered.Goals as goal

pub returns-in-Ok-clause-ends : goal.returns-in-Ok-clause-ends
returns-in-Ok-clause-ends g c =
    rw c.back-in-Ok.ensures.output
    (flushed _ _ _ _ _ _ _ _ _ c.new-gathered.ensures.held c.in-Ok.ensures.empty (rw c.new-gathered.ensures.below at c.run_lines-status.ensures.ends) c.flush.ensures.same)

pub returns-in-Err-clause-ends : goal.returns-in-Err-clause-ends
returns-in-Err-clause-ends g c =
    let grows = rw (← c.requires.start, c.back-in-Err.ensures.output) at c.back-in-Err.ensures.grows in
    let ends = rw c.new-gathered.ensures.below at c.run_lines-status.ensures.ends in
    let part = rw c.new-gathered.ensures.below at c.run_lines-status.ensures.part in
    rw c.back-in-Err.ensures.output
    (cut_off g.W.LineWork.does g.W.LineWork.bars g.W.LineWork.wears c.args.work.now c.args.most_lines _ _ _ _ _ _ _ _ c.run_lines-status.result c.new-gathered.ensures.held grows ends part c.flush.ensures.same)

pub returns-in-SinkFault-clause-ends : goal.returns-in-SinkFault-clause-ends
returns-in-SinkFault-clause-ends g c =
    let grows = rw (← c.requires.start, c.back.ensures.output) at c.back.ensures.grows in
    let ends = rw (c.new-gathered.ensures.below, c.in-SinkFault.is) at c.run_lines-status.ensures.ends in
    rw (c.back.ensures.output, c.in-SinkFault.is)
    (cut_before g.W.LineWork.does g.W.LineWork.bars g.W.LineWork.wears c.args.work.now c.args.most_lines _ _ _ _ _ _ c.new-gathered.ensures.held grows ends)
