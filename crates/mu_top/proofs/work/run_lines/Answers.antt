use Rattle.std.proofs.Common.{ℕ, [], List, arith, subst, ⊎_elim}
use Rattle.mu_top.specs.LineDone.{DidLine, StopsLine}
use Rattle.mu_top.proofs.Told.{where_told, told_both, both_kept}
use Rattle.mu_top.proofs.Working.{begins, limit_more, limit_end, source_failed, octets_passed, input_ended, line_came, line_stopped, long_refused, last_written, line_written, only_line, part_done, sink_failed}
use Rattle.mu_top.proofs.work.run_lines.Goals as goal

pub lines-init : goal.lines-init
lines-init g c = record {
  told = rw c.new-reader.ensures (begins g.W.LineWork.does g.W.LineWork.bars g.W.LineWork.wears c.args.work.now c.args.most_lines (g.S.Source.left c.args.source.now) (g.K.Sink.written c.args.sink.now));
  few = omega arith;
  goes_on = c.requires.begins;
  source = omega arith;
  sink = omega arith;
}

pub returns-in-Ok-true-clause-ends : goal.returns-in-Ok-true-clause-ends
returns-in-Ok-true-clause-ends g c =
    let more = rw c.in-Ok-true.field-0-test at c.in-Ok-true.ensures.more in
    limit_more g.W.LineWork.does g.W.LineWork.bars g.W.LineWork.wears c.args.work.now c.args.most_lines _ _ _ _ _ c.lines.reader c.has_more.new.self c.lines.work c.lines.count c.if-count-most_lines.true more (both_kept _ _ _ _ _ _ c.lines.invariant.told c.hand_on.ensures.same) c.has_more.ensures.rest

pub returns-in-Ok-false-clause-ends : goal.returns-in-Ok-false-clause-ends
returns-in-Ok-false-clause-ends g c =
    let none = rw c.in-Ok-false.field-0-test at c.in-Ok-false.ensures.more in
    limit_end g.W.LineWork.does g.W.LineWork.bars g.W.LineWork.wears c.args.work.now c.args.most_lines _ _ _ _ _ c.lines.reader c.has_more.new.self c.lines.work c.lines.count (both_kept _ _ _ _ _ _ c.lines.invariant.told c.hand_on.ensures.same) (told_both _ _ _ _ c.has_more.ensures.rest none)

pub returns-in-Err-clause-ends : goal.returns-in-Err-clause-ends
returns-in-Err-clause-ends g c =
    source_failed g.W.LineWork.does g.W.LineWork.bars g.W.LineWork.wears c.args.work.now c.args.most_lines _ _ _ _ _ c.lines.reader c.has_more.new.self c.lines.work c.lines.count (both_kept _ _ _ _ _ _ c.lines.invariant.told c.hand_on.ensures.same)
    (where_told _ _ _ _ (λ before after rest. (c.in-Err.ensures.empty, ([], tt, rest.same))) c.has_more.ensures.rest)

pub returns-in-Err-Source-clause-ends : goal.returns-in-Err-Source-clause-ends
returns-in-Err-Source-clause-ends g c =
    let next = rw c.in-Err-Source.field-0-is at c.in-Err-Source.ensures.next in
    source_failed g.W.LineWork.does g.W.LineWork.bars g.W.LineWork.wears c.args.work.now c.args.most_lines _ _ _ _ _ c.lines.reader c.next.new.self c.lines.work c.lines.count (both_kept _ _ _ _ _ _ c.lines.invariant.told c.hand_on.ensures.same)
    (where_told _ _ _ _ (λ before after stopped. (stopped.1, (c.next.new.self.line, stopped.0.part, stopped.0.took.taken))) next)

pub returns-in-Err-clause-part : goal.returns-in-Err-clause-part
returns-in-Err-clause-part g c = λ _.
    part_done g.W.LineWork.does g.W.LineWork.bars g.W.LineWork.wears c.args.work.now c.args.most_lines _ _ _ _ _ _ c.lines.reader c.lines.work c.lines.count (both_kept _ _ _ _ _ _ c.lines.invariant.told c.hand_on.ensures.same) c.has_more.ensures.rest

pub returns-in-Err-Source-clause-part : goal.returns-in-Err-Source-clause-part
returns-in-Err-Source-clause-part g c = λ _.
    part_done g.W.LineWork.does g.W.LineWork.bars g.W.LineWork.wears c.args.work.now c.args.most_lines _ _ _ _ _ _ c.lines.reader c.lines.work c.lines.count (both_kept _ _ _ _ _ _ c.lines.invariant.told c.hand_on.ensures.same) c.in-Err-Source.ensures.next

pub returns-in-Err-TooLong-clause-ends : goal.returns-in-Err-TooLong-clause-ends
returns-in-Err-TooLong-clause-ends g c =
    let next = rw c.in-Err-TooLong.field-0-is at c.in-Err-TooLong.ensures.next in
    octets_passed g.W.LineWork.does g.W.LineWork.bars g.W.LineWork.wears c.args.work.now c.args.most_lines _ _ _ _ _ c.lines.reader c.next.new.self c.lines.work c.lines.count (both_kept _ _ _ _ _ _ c.lines.invariant.told c.hand_on.ensures.same) next

pub returns-in-Err-LongLine-clause-ends : goal.returns-in-Err-LongLine-clause-ends
returns-in-Err-LongLine-clause-ends g c =
    let next = rw c.in-Err-LongLine.field-0-is at c.in-Err-LongLine.ensures.next in
    long_refused g.W.LineWork.does g.W.LineWork.bars g.W.LineWork.wears c.args.work.now c.args.most_lines (g.W.LineWork.too_long) _ _ _ _ _ _ c.lines.reader c.next.new.self c.lines.work c.lines.count c.refuse.result (omega (arith, c.lines.invariant.few, c.if-count-most_lines.false)) (both_kept _ _ _ _ _ _ c.lines.invariant.told c.hand_on.ensures.same) next c.refuse.ensures.told

pub returns-in-End-clause-ends : goal.returns-in-End-clause-ends
returns-in-End-clause-ends g c =
    let next = rw c.in-End.is at c.in-Ok.ensures.next in
    input_ended g.W.LineWork.does g.W.LineWork.bars g.W.LineWork.wears c.args.work.now c.args.most_lines _ _ _ _ _ c.lines.reader c.next.new.self c.lines.work c.lines.count (both_kept _ _ _ _ _ _ c.lines.invariant.told c.hand_on.ensures.same) next

pub do_line-requires : goal.do_line-requires
do_line-requires g c = record {
  short = rw c.line.ensures c.in-Ok.ensures.short;
  goes_on = (c.lines.count, omega (arith, c.lines.invariant.few, c.if-count-most_lines.false, c.requires.most), c.lines.invariant.goes_on);
}

pub returns-in-Err-do_line : goal.returns-in-Err-do_line
returns-in-Err-do_line g c =
    let holding = line_came g.W.LineWork.does g.W.LineWork.bars g.W.LineWork.wears c.args.work.now c.args.most_lines _ _ _ _ _ c.lines.reader c.next.new.self c.lines.work c.lines.count c.in-Ok.next c.in_default.not-End (both_kept _ _ _ _ _ _ c.lines.invariant.told c.hand_on.ensures.same) c.in-Ok.ensures.next in
    let stops = subst (λ (line : List ℕ). StopsLine g.W.LineWork.does g.W.LineWork.bars g.W.LineWork.wears c.lines.work line (g.K.Sink.written c.hand_on.new.sink) (g.K.Sink.written c.do_line.new.sink) c.in-Err-do_line.stop) c.line.ensures c.in-Err-do_line.ensures.stops in
    record {
      ends = line_stopped g.W.LineWork.does g.W.LineWork.bars g.W.LineWork.wears c.args.work.now c.args.most_lines _ _ _ _ _ _ c.lines.reader c.next.new.self c.lines.work c.lines.count c.in-Ok.next c.in-Err-do_line.stop c.end_at.result
          (omega (arith, c.lines.invariant.few, c.if-count-most_lines.false)) stops holding c.end_at.ensures.told;
      part = λ e. absurd (c.end_at.ensures.source e);
      source = λ e. absurd (c.end_at.ensures.source e);
      sink = λ e. ⊎_elim (λ is. omega (arith, c.lines.invariant.sink, c.hand_on.ensures.cause.later, c.in-Err-do_line.ensures.failed is, c.end_at.ensures.later)) (λ rose. omega (arith, c.lines.invariant.sink, c.hand_on.ensures.cause.later, c.do_line.ensures.later, rose)) (c.end_at.ensures.sink e);
      later = omega (arith, c.lines.invariant.sink, c.hand_on.ensures.cause.later, c.do_line.ensures.later, c.end_at.ensures.later);
      memory = λ e. (c.lines.work, c.in-Err-do_line.ensures.grows (c.end_at.ensures.memory e));
      command = λ e. absurd (c.end_at.ensures.command e);
    }

pub returns-in-Last : goal.returns-in-Last
returns-in-Last g c =
    let holding = line_came g.W.LineWork.does g.W.LineWork.bars g.W.LineWork.wears c.args.work.now c.args.most_lines _ _ _ _ _ c.lines.reader c.next.new.self c.lines.work c.lines.count c.in-Ok.next c.in_default.not-End (both_kept _ _ _ _ _ _ c.lines.invariant.told c.hand_on.ensures.same) c.in-Ok.ensures.next in
    let last = rw c.in-Last.is at holding in
    let did = subst (λ (line : List ℕ). DidLine g.W.LineWork.does c.lines.work line c.do_line.new.self (g.K.Sink.written c.hand_on.new.sink) (g.K.Sink.written c.do_line.new.sink)) c.line.ensures c.in-Ok-do_line.ensures.did in
    record {
      ends = last_written g.W.LineWork.does g.W.LineWork.bars g.W.LineWork.wears c.args.work.now c.args.most_lines _ _ _ _ _ c.lines.reader c.next.new.self c.lines.work c.do_line.new.self c.lines.count did.text (omega (arith, c.lines.invariant.few, c.if-count-most_lines.false)) did.does last did.wrote;
      part = λ e. absurd (cc e);
      source = λ e. absurd (cc e);
      sink = λ e. absurd (cc e);
      later = omega (arith, c.lines.invariant.sink, c.hand_on.ensures.cause.later, c.do_line.ensures.later);
      memory = λ e. absurd (cc e);
      command = λ e. absurd (cc e);
    }

pub lines-preserved : goal.lines-preserved
lines-preserved g c =
    let holding = line_came g.W.LineWork.does g.W.LineWork.bars g.W.LineWork.wears c.args.work.now c.args.most_lines _ _ _ _ _ c.lines.reader c.next.new.self c.lines.work c.lines.count c.in-Ok.next c.in_default.not-End (both_kept _ _ _ _ _ _ c.lines.invariant.told c.hand_on.ensures.same) c.in-Ok.ensures.next in
    let line = rw (only_line g.W.LineWork.does g.W.LineWork.bars g.W.LineWork.wears c.args.work.now c.args.most_lines c.in-Ok.next c.in_default.not-End c.in_default-next.not-Last) at holding in
    let did = subst (λ (line : List ℕ). DidLine g.W.LineWork.does c.lines.work line c.do_line.new.self (g.K.Sink.written c.hand_on.new.sink) (g.K.Sink.written c.do_line.new.sink)) c.line.ensures c.in-Ok-do_line.ensures.did in
    record {
      told = line_written g.W.LineWork.does g.W.LineWork.bars g.W.LineWork.wears c.args.work.now c.args.most_lines _ _ _ _ _ c.lines.reader c.next.new.self c.lines.work c.do_line.new.self c.lines.count did.text (omega (arith, c.lines.invariant.few, c.if-count-most_lines.false)) did.does line did.wrote;
      few = omega (arith, c.lines.invariant.few, c.if-count-most_lines.false);
      goes_on = c.in-Ok-do_line.ensures.goes_on c.lines.count c.lines.invariant.goes_on;
      source = omega (arith, c.lines.invariant.source, c.next.ensures.later);
      sink = omega (arith, c.lines.invariant.sink, c.hand_on.ensures.cause.later, c.do_line.ensures.later);
    }

pub returns-then-is_err-clause-ends : goal.returns-then-is_err-clause-ends
returns-then-is_err-clause-ends g c =
    sink_failed g.W.LineWork.does g.W.LineWork.bars g.W.LineWork.wears c.args.work.now c.args.most_lines _ _ _ _ c.lines.reader c.lines.work c.lines.count (both_kept _ _ _ _ _ _ c.lines.invariant.told c.hand_on.ensures.same)
