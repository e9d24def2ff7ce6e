use Rattle.std.proofs.Common.{◌≡◌, ◌<◌, drop}
use Rattle.mu_top.proofs.Places.{place_in}
use Rattle.mu_top.proofs.line.place_of.Given as goal

abbrev pub invariant-loop-i : goal.invariant-loop-i
invariant-loop-i l = record {
  some : 0 < l.left;
  place : place_in l.i l.left (drop l.i l.line) ≡ place_in 0 l.token l.line;
}
