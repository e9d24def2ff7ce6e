use Rattle.std.proofs.Common.{◌≤◌, ◌+◌, ◌*◌, length, map}
use Rattle.std.specs.List.{All}
use Rattle.mu_model_wire.specs.Reading.{entries_at}
use Rattle.mu_model_wire.specs.Entries.{StillReads}
use Rattle.mu_model_wire.specs.Distribution.{row_fields}
use Rattle.mu_distmsg.specs.View.{row_shown, RowIsEven}
use Rattle.mu_distmsg.proofs.reading.rows.Given as goal

abbrev pub invariant-loop-cursor : goal.invariant-loop-cursor
invariant-loop-cursor l = record {
  so_far : StillReads row_fields (map row_shown l.rows.items) l.cursor (entries_at (length l.fn.cursor.octets) row_fields l.fn.cursor);
  even : All RowIsEven l.rows.items;
  room : 5 * length l.rows.items + length l.cursor.octets ≤ 374;
}

abbrev pub decreases-loop-cursor : goal.decreases-loop-cursor
decreases-loop-cursor l = length l.cursor.octets
