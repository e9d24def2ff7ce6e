use Rattle.std.proofs.Common.{arith, map, Bor, List, ℕ, []}
use Rattle.std.proofs.lemmas.List.{length-map}
use Rattle.std.proofs.Math.ListN.{get_or-map}
use Rattle.mu_command_line.proofs.Pieces.{piece_wrote, piece_cut, on_err}
use Rattle.mu_command_line.proofs.writing.write_pieces.Goals as goal

pub returns-in_err-write_all-clause-err : goal.returns-in_err-write_all-clause-err
returns-in_err-write_all-clause-err g c =
    let i = c.loop-piece.piece-index in
    let cut = rw (← get_or-map (λ (piece : Bor (List ℕ)). piece.now) c.args.pieces.now i (record { ref_ptr = (0, 0); now = [] })) at c.in_err-write_all.ensures.err in
    on_err c.from_residual.result _
    (piece_cut _ _ _ (map (λ piece. piece.now) c.args.pieces.now) i [] (omega (arith, c.loop-piece-test.true, length-map c.args.pieces.now (λ (piece : Bor (List ℕ)). piece.now))) c.loop-piece.invariant.wrote cut)

pub loop-piece-preserved : goal.loop-piece-preserved
loop-piece-preserved g c =
    let i = c.loop-piece.piece-index in
    let wrote = rw (← get_or-map (λ (piece : Bor (List ℕ)). piece.now) c.args.pieces.now i (record { ref_ptr = (0, 0); now = [] })) at c.in_ok-write_all.ensures.ok in
    record {
      wrote = piece_wrote _ _ _ (map (λ piece. piece.now) c.args.pieces.now) i [] (omega (arith, c.loop-piece-test.true, length-map c.args.pieces.now (λ (piece : Bor (List ℕ)). piece.now))) c.loop-piece.invariant.wrote wrote;
      later = omega (arith, c.loop-piece.invariant.later, c.write_all.ensures.cause.later);
    }
