use Rattle.std.proofs.Common.{◌≡◌, ◌++◌, ◌∷◌, [], map, arith}
use Rattle.std.proofs.lemmas.Result.{err_from_is_err_and}
use Rattle.std.proofs.lemmas.List.{map_push}
use Rattle.mu_distmsg.specs.View.{row_shown}
use Rattle.mu_distmsg.proofs.Fit.{all_even_push}
use Rattle.mu_distmsg.proofs.reading.rows.Goals as goal

pub returns-in_err-row-clause-reads : goal.returns-in_err-row-clause-reads
returns-in_err-row-clause-reads c =
    let p = err_from_is_err_and c.from_residual.result c.from_residual.ensures.1 in
    rw (p.1, p.2) (c.entries_are_read_in_turn.ensures.refused _ _ c.loop-cursor.cursor _ _ (omega arith) c.loop-cursor.invariant.so_far c.in_err-row.ensures.reads)

pub loop-cursor-preserved : goal.loop-cursor-preserved
loop-cursor-preserved c =
    let more : map row_shown c.push.new.self.items ≡ map row_shown c.loop-cursor.rows.items ++ row_shown c.in_ok-row.row ∷ [] = rw c.push.ensures.items (map_push _ c.loop-cursor.rows.items c.in_ok-row.row) in
    record {
      so_far = rw more (c.entries_are_read_in_turn.ensures.read _ _ c.loop-cursor.cursor _ _ _ (omega arith) c.loop-cursor.invariant.so_far c.in_ok-row.ensures.reads (omega (arith, c.in_ok-row.ensures.taken)));
      room = omega (arith, c.in_ok-row.ensures.taken);
      even = rw c.push.ensures.items (all_even_push c.loop-cursor.rows.items c.in_ok-row.row c.loop-cursor.invariant.even c.in_ok-row.ensures.even);
    }

pub returns-clause-reads : goal.returns-clause-reads
returns-clause-reads c = c.entries_are_read_in_turn.ensures.end _ _ c.loop-cursor.cursor _ (omega arith) c.loop-cursor.invariant.so_far
