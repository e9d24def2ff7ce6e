use Rattle.std.proofs.Common.{◌≤◌, map, take}
use Rattle.std.specs.List.{concat}
use Rattle.mu_command_line.specs.Writing.{Wrote}
use Rattle.mu_command_line.proofs.writing.write_pieces.Given as goal

abbrev pub invariant-loop-piece : goal.invariant-loop-piece
invariant-loop-piece g l = record {
  wrote : Wrote (g.K.Sink.written l.fn.sink) (g.K.Sink.written l.sink) (concat (take l.piece-index (map (λ piece. piece.now) l.pieces)));
  later : g.K.Sink.faults l.fn.sink ≤ g.K.Sink.faults l.sink;
}
