use Rattle.std.proofs.Common.{◌-◌, ◌≤◌, length}
use Rattle.mu_input.specs.Reading.{WhereTold, Took, IsPart}
use Rattle.mu_input.proofs.reader.LineReader.next.Given as goal

abbrev pub invariant-loop-octet : goal.invariant-loop-octet
invariant-loop-octet g l = record {
  took : WhereTold (g.S.Source.left l.fn.source) (g.S.Source.left l.source) (λ before after. Took l.fn.self l.self before after l.self.line);
  part : IsPart l.self.line;
  short : length l.self.line ≤ 4096;
  later : g.S.Source.faults l.fn.source ≤ g.S.Source.faults l.source;
}

abbrev pub decreases-loop-octet : goal.decreases-loop-octet
decreases-loop-octet g l = 16777216 - l.self.given
