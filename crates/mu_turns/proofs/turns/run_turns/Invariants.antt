use Rattle.std.proofs.Common.{◌≡◌, ◌≤◌, List, [], length}
use Rattle.mu_turns.specs.Turns.{Turn, Made}
use Rattle.mu_turns.proofs.turns.run_turns.Given as goal

abbrev pub invariant-loop : goal.invariant-loop
invariant-loop g l = record {
  made : (made : List Turn) × (length made ≡ l.counter) × Made g.M.Member.step g.M.Member.ended l.fn.me l.fn.member l.member (g.C.Clock.answered l.fn.clock) (g.C.Clock.answered l.clock) (g.L.Link.seen l.fn.link) (g.L.Link.seen l.link) made;
  later : (g.L.Link.seen l.fn.link).faults ≤ (g.L.Link.seen l.link).faults;
  empty : l.out.items ≡ [];
}
