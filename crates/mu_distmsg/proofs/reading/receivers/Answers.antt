use Rattle.std.proofs.Common.{◌≡◌, ◌++◌, ◌∷◌, [], map, arith}
use Rattle.std.proofs.lemmas.Result.{err_from_is_err_and}
use Rattle.std.proofs.lemmas.List.{map_push}
use Rattle.mu_distmsg.specs.View.{pair_shown}
use Rattle.mu_distmsg.proofs.reading.receivers.Goals as goal

pub returns-in_err-receiver : goal.returns-in_err-receiver
returns-in_err-receiver c =
    let p = err_from_is_err_and c.from_residual.result c.from_residual.ensures.1 in
    rw (p.1, p.2) (c.entries_are_read_in_turn.ensures.refused _ _ c.loop-cursor.cursor _ _ (omega arith) c.loop-cursor.invariant.so_far c.in_err-receiver.ensures.reads)

pub loop-cursor-preserved : goal.loop-cursor-preserved
loop-cursor-preserved c =
    let more : map pair_shown c.push.new.self.items ≡ map pair_shown c.loop-cursor.receivers.items ++ pair_shown c.in_ok-receiver.receiver ∷ [] = rw c.push.ensures.items (map_push _ c.loop-cursor.receivers.items c.in_ok-receiver.receiver) in
    record {
      so_far = rw more (c.entries_are_read_in_turn.ensures.read _ _ c.loop-cursor.cursor _ _ _ (omega arith) c.loop-cursor.invariant.so_far c.in_ok-receiver.ensures.reads (omega (arith, c.in_ok-receiver.ensures.taken)));
      room = omega (arith, c.in_ok-receiver.ensures.taken);
    }
