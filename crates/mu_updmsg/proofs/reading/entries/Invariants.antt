use Rattle.std.proofs.Common.{◌≤◌, ◌+◌, ◌*◌, length, map}
use Rattle.mu_model_wire.specs.Reading.{entries_at}
use Rattle.mu_model_wire.specs.Entries.{StillReads}
use Rattle.mu_model_wire.specs.Update.{entry_fields}
use Rattle.mu_updmsg.specs.View.{entry_shown}
use Rattle.mu_updmsg.proofs.reading.entries.Given as goal

abbrev pub invariant-loop-cursor : goal.invariant-loop-cursor
invariant-loop-cursor l = record {
  so_far : StillReads entry_fields (map entry_shown l.entries.items) l.cursor (entries_at (length l.fn.cursor.octets) entry_fields l.fn.cursor);
  room : 4 * length l.entries.items + length l.cursor.octets ≤ 378;
}

abbrev pub decreases-loop-cursor : goal.decreases-loop-cursor
decreases-loop-cursor l = length l.cursor.octets
