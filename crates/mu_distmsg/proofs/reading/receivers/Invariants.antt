use Rattle.std.proofs.Common.{◌≤◌, ◌+◌, ◌*◌, length, map}
use Rattle.mu_model_wire.specs.Reading.{entries_at}
use Rattle.mu_model_wire.specs.Entries.{StillReads}
use Rattle.mu_model_wire.specs.Distribution.{receiver_fields}
use Rattle.mu_distmsg.specs.View.{pair_shown}
use Rattle.mu_distmsg.proofs.reading.receivers.Given as goal

abbrev pub invariant-loop-cursor : goal.invariant-loop-cursor
invariant-loop-cursor l = record {
  so_far : StillReads receiver_fields (map pair_shown l.receivers.items) l.cursor (entries_at (length l.fn.cursor.octets) receiver_fields l.fn.cursor);
  room : 3 * length l.receivers.items + length l.cursor.octets ≤ 378;
}

abbrev pub decreases-loop-cursor : goal.decreases-loop-cursor
decreases-loop-cursor l = length l.cursor.octets
