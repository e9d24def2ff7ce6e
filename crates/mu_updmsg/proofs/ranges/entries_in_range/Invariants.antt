use Rattle.std.proofs.Common.{◌≤◌, length, map, drop}
use Rattle.std.specs.Prelude.{◌↔◌}
use Rattle.mu_model_wire.specs.Spelling.{entries_spelling, EntriesFit}
use Rattle.mu_model_wire.specs.Update.{entry_fields}
use Rattle.mu_updmsg.specs.View.{entry_shown}
use Rattle.mu_updmsg.proofs.ranges.entries_in_range.Given as goal

abbrev pub invariant-loop-entry : goal.invariant-loop-entry
invariant-loop-entry l =
    (EntriesFit entry_fields (map entry_shown l.entries) × (length (entries_spelling entry_fields (map entry_shown l.entries)) ≤ 376))
    ↔ (EntriesFit entry_fields (map entry_shown (drop l.entry-index l.entries)) × (length (entries_spelling entry_fields (map entry_shown (drop l.entry-index l.entries))) ≤ l.room))
