use Rattle.std.proofs.Common.{◌∙◌, sym}
use Rattle.mu_rounds.proofs.Stepping.{step_fits, free_after, step_over, list_goes_on, list_over, sent_list}
use Rattle.mu_rounds.proofs.rounds.Rounds.at_step.Goals as goal

pub next_step-requires-clause-fits : goal.next_step-requires-clause-fits
next_step-requires-clause-fits c = step_fits c.args.self.now c.args.step c.requires.shape c.requires.at

pub next_step-requires-clause-free : goal.next_step-requires-clause-free
next_step-requires-clause-free c = free_after c.args.self.now c.args.step c.requires.shape c.requires.at (sym c.is_done.ensures ∙ c.if-is_done.true)

pub list_is_sent-requires-clause-nothing : goal.list_is_sent-requires-clause-nothing
list_is_sent-requires-clause-nothing c = sent_list c.args.self.now _ c.is_sent.ensures.sent c.if-is_sent.true

pub returns-then-is_done-clause-goes : goal.returns-then-is_done-clause-goes
returns-then-is_done-clause-goes c = step_over c.args.self.now _ c.args.step _ c.is_done.ensures c.if-is_done.true c.next_step.ensures.goes

pub returns-then-is_sent-clause-goes : goal.returns-then-is_sent-clause-goes
returns-then-is_sent-clause-goes c =
    list_over c.args.self.now _ c.args.step _ c.is_done.ensures c.if-is_done.false (sent_list c.args.self.now _ c.is_sent.ensures.sent c.if-is_sent.true) c.list_is_sent.ensures.goes

pub returns-else-is_sent-clause-goes : goal.returns-else-is_sent-clause-goes
returns-else-is_sent-clause-goes c =
    list_goes_on c.args.self.now c.args.step _ _ c.requires.shape c.is_done.ensures c.if-is_done.false c.is_sent.ensures.sent c.if-is_sent.false
