use Rattle.std.proofs.Common.{◌-◌, ◌≤◌}
use Rattle.mu_top.proofs.Working.{IsBetween}
use Rattle.mu_top.proofs.work.run_lines.Given as goal

abbrev pub invariant-lines : goal.invariant-lines
invariant-lines g l = record {
  told : IsBetween g.W.LineWork.does g.W.LineWork.bars g.W.LineWork.wears l.fn.work l.most_lines (g.S.Source.left l.fn.source) (g.S.Source.left l.source) (g.K.Sink.written l.fn.sink) (g.K.Sink.written l.sink) l.reader l.work l.count;
  few : l.count ≤ l.most_lines;
  goes_on : g.W.LineWork.goes_on l.work l.count;
  source : g.S.Source.faults l.fn.source ≤ g.S.Source.faults l.source;
  sink : g.K.Sink.faults l.fn.sink ≤ g.K.Sink.faults l.sink;
}

abbrev pub decreases-lines : goal.decreases-lines
decreases-lines g l = l.most_lines - l.count
