use Rattle.std.proofs.Common.{map, drop}
use Rattle.std.specs.Prelude.{◌↔◌}
use Rattle.std.specs.List.{All}
use Rattle.mu_model_wire.specs.Spelling.{EntriesFit}
use Rattle.mu_model_wire.specs.Distribution.{row_fields}
use Rattle.mu_distmsg.specs.View.{row_shown, RowIsEven}
use Rattle.mu_distmsg.proofs.ranges.rows_in_range.Given as goal

abbrev pub invariant-loop-row : goal.invariant-loop-row
invariant-loop-row l =
    (EntriesFit row_fields (map row_shown l.rows) × All RowIsEven l.rows)
    ↔ (EntriesFit row_fields (map row_shown (drop l.row-index l.rows)) × All RowIsEven (drop l.row-index l.rows))
