use Rattle.std.proofs.Common.{◌≡◌, ◌++◌, map, drop}
use Rattle.mu_model_wire.specs.Spelling.{entries_spelling}
use Rattle.mu_model_wire.specs.Update.{entry_fields}
use Rattle.mu_updmsg.specs.View.{entry_shown}
use Rattle.mu_updmsg.proofs.writing.put_entries.Given as goal

abbrev pub invariant-loop-entry : goal.invariant-loop-entry
invariant-loop-entry l =
    l.out.items ++ entries_spelling entry_fields (map entry_shown (drop l.entry-index l.entries)) ≡ l.fn.out.items ++ entries_spelling entry_fields (map entry_shown l.entries)
