use Rattle.std.proofs.Common.{◌≡◌, ◌+◌, ◌++◌, take}
use Rattle.mu_input.proofs.reader.LineReader.take_part.Given as goal

-- so many of the octets ahead are taken
abbrev pub invariant-loop : goal.invariant-loop
invariant-loop l = record {
  ahead : l.fn.self.ahead ≡ take l.counter l.fn.self.ahead ++ l.self.ahead;
  line : l.self.line ≡ l.fn.self.line ++ take l.counter l.fn.self.ahead;
  given : l.self.given ≡ l.fn.self.given + l.counter;
}
