use Rattle.std.proofs.Common.{◌-◌, ◌≤◌, length, take}
use Rattle.mu_store.specs.Source.{Gave}
use Rattle.mu_store.proofs.source.read_piece.Given as goal

abbrev pub invariant-loop-filled : goal.invariant-loop-filled
invariant-loop-filled g l = record {
  low : l.filled ≤ length l.piece;
  gave : Gave (g.S.Source.left l.fn.source) (g.S.Source.left l.source) (take l.filled l.piece);
  later : g.S.Source.faults l.fn.source ≤ g.S.Source.faults l.source;
}

abbrev pub decreases-loop-filled : goal.decreases-loop-filled
decreases-loop-filled g l = length l.initial.piece - l.filled
