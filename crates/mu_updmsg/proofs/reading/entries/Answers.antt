use Rattle.std.proofs.Common.{◌≡◌, ◌++◌, ◌∷◌, [], map, arith}
use Rattle.std.proofs.lemmas.Result.{err_from_is_err_and}
use Rattle.std.proofs.lemmas.List.{map_push}
use Rattle.mu_updmsg.specs.View.{entry_shown}
use Rattle.mu_updmsg.proofs.reading.entries.Goals as goal

pub returns-in_err-entry : goal.returns-in_err-entry
returns-in_err-entry c =
    let p = err_from_is_err_and c.from_residual.result c.from_residual.ensures.1 in
    rw (p.1, p.2) (c.entries_are_read_in_turn.ensures.refused _ _ c.loop-cursor.cursor _ _ (omega arith) c.loop-cursor.invariant.so_far c.in_err-entry.ensures.reads)

pub loop-cursor-preserved : goal.loop-cursor-preserved
loop-cursor-preserved c =
    let more : map entry_shown c.push.new.self.items ≡ map entry_shown c.loop-cursor.entries.items ++ entry_shown c.in_ok-entry.entry ∷ [] = rw c.push.ensures.items (map_push _ c.loop-cursor.entries.items c.in_ok-entry.entry) in
    record {
      so_far = rw more (c.entries_are_read_in_turn.ensures.read _ _ c.loop-cursor.cursor _ _ _ (omega arith) c.loop-cursor.invariant.so_far c.in_ok-entry.ensures.reads (omega (arith, c.in_ok-entry.ensures.taken)));
      room = omega (arith, c.in_ok-entry.ensures.taken);
    }
