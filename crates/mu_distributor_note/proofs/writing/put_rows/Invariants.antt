use Rattle.std.proofs.Common.{◌≡◌, ◌++◌, ◌-◌, ◌*◌, take}
use Rattle.std.specs.List.{flat_map}
use Rattle.mu_model_record.specs.Record.{zeros}
use Rattle.mu_distributor_note.proofs.RowOctets.{row_octets}
use Rattle.mu_distributor_note.proofs.writing.put_rows.Given as goal

abbrev pub invariant-loop-i : goal.invariant-loop-i
invariant-loop-i l = l.octets ≡ flat_map row_octets (take l.i l.rows) ++ zeros (1600 - 6 * l.i)
